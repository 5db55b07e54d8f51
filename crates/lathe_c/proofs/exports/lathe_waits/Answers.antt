-- For the proof of `lathe_waits` (src/exports.rt): the meetings are those of the three texts.
use Rattle.std.proofs.Common.{Some}
use Rattle.lathe_calls.specs.declared.question.Question.TheVariants as ask
use Rattle.lathe_c.proofs.Told.{answered}
use Rattle.lathe_c.proofs.exports.lathe_waits.Goals as goal

pub returns : goal.returns
returns c = answered (ask.Waits (Some (record { least = c.args.least; greatest = c.args.greatest }))) c.of-texts.ensures c.told.ensures c.answer.ensures
