-- For the proof of `lathe_events` (src/exports.rt): the events are those of the three texts and
-- this order of turns.
use Rattle.lathe_c.proofs.Told.{events_told}
use Rattle.lathe_c.proofs.exports.lathe_events.Goals as goal

pub returns : goal.returns
returns c = events_told c.args.order.now c.of-texts.ensures c.told.ensures c.events.ensures
