-- For the proof of `lathe_state` (src/exports.rt): the state is that of the three texts.
use Rattle.lathe_calls.specs.declared.question.Question.TheVariants as ask
use Rattle.lathe_c.proofs.Told.{answered}
use Rattle.lathe_c.proofs.exports.lathe_state.Goals as goal

pub returns : goal.returns
returns c = answered (ask.State c.args.limit) c.of-texts.ensures c.told.ensures c.answer.ensures
