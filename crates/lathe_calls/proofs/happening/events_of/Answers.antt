-- For the proof of `events_of` (src/happening.rt): the events of both tapes are those of the pair.
use Rattle.lathe_calls.proofs.happening.events_of.Goals as goal

pub returns : goal.returns
returns c = rw (c.left.ensures.same, c.right.ensures.same, c.settings.ensures) at c.events_in.ensures
