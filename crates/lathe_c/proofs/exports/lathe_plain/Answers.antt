-- For the proof of `lathe_plain` (src/exports.rt): the answer is that to the tape and its settings.
use Rattle.tape_calls.specs.declared.question.TapeQuestion.TheVariants as about
use Rattle.lathe_c.proofs.Told.{tape_answered}
use Rattle.lathe_c.proofs.exports.lathe_plain.Goals as goal

pub returns : goal.returns
returns c = tape_answered about.Plain c.of-texts.ensures c.told.ensures c.answer_tape.ensures
