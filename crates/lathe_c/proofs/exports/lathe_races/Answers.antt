-- For the proof of `lathe_races` (src/exports.rt): the races are those of the three texts.
use Rattle.lathe_calls.specs.declared.question.Question.TheVariants as ask
use Rattle.lathe_c.proofs.Told.{answered}
use Rattle.lathe_c.proofs.exports.lathe_races.Goals as goal

pub returns : goal.returns
returns c = answered ask.Races c.of-texts.ensures c.told.ensures c.answer.ensures
