-- Words that read are the block's words, or are refused by the first refusal that holds. For the
-- contract of `read_words` (src/reading.rt).
use Rattle.std.proofs.Common.{◌∙◌, sym}
use Rattle.block_forms.proofs.Judged.{refused_words, accepted_words}
use Rattle.block_forms.proofs.reading.read_words.Goals as goal

pub returns-in-Some-clause-exact : goal.returns-in-Some-clause-exact
returns-in-Some-clause-exact c =
    refused_words c.args.dialect.now c.in_ok-read.read.dialect c.args.words.now c.in-Ok.list c.in_ok-read.read.words c.in-Some.cause c.of-in-Some.result.number c.in-Ok.ensures.exact (sym c.names_many_variables.ensures ∙ c.if-names_many_variables.false) c.in_ok-read.ensures.dialect c.in_ok-read.ensures.words c.in-Some.ensures c.of-in-Some.ensures

pub returns-in-None-clause-exact : goal.returns-in-None-clause-exact
returns-in-None-clause-exact c =
    accepted_words c.args.dialect.now c.in_ok-read.read.dialect c.args.words.now c.in-Ok.list c.in_ok-read.read.words c.in-Ok.ensures.exact (sym c.names_many_variables.ensures ∙ c.if-names_many_variables.false) c.in_ok-read.ensures.dialect c.in_ok-read.ensures.words c.in-None.ensures
