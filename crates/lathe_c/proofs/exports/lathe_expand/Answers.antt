-- For the proof of `lathe_expand` (src/exports.rt): the answer is that to the tape.
use Rattle.std.proofs.Common.{◌∙◌, ap}
use Rattle.tape_calls.specs.Texts.{tape_and_settings}
use Rattle.tape_calls.specs.declared.question.TapeQuestion.TheVariants as about
use Rattle.lathe_c.proofs.Told.{tape_answered}
use Rattle.lathe_c.proofs.exports.lathe_expand.Goals as goal

pub returns : goal.returns
returns c =
    tape_answered about.Expand (c.of-texts.ensures ∙ ap (tape_and_settings c.args.tape.now) c.as_slice.ensures) c.told.ensures c.answer_tape.ensures
