-- For the proof of `lathe_verify` (src/exports.rt): the verdict is that of the three texts.
use Rattle.lathe_calls.specs.declared.question.Question.TheVariants as ask
use Rattle.lathe_c.proofs.Told.{answered}
use Rattle.lathe_c.proofs.exports.lathe_verify.Goals as goal

pub returns : goal.returns
returns c = answered ask.Verify c.of-texts.ensures c.told.ensures c.answer.ensures
