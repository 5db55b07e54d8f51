-- For the proof of `events` (src/happening.rt): the events that are due were handed out, as far as
-- the caller's room holds.
use Rattle.std.proofs.Common.{sym, ◌∙◌}
use Rattle.lathe_calls.proofs.Handed.{events_said}
use Rattle.lathe_calls.proofs.happening.events.Goals as goal

pub returns-in-Ok : goal.returns-in-Ok
returns-in-Ok c =
    events_said c.in-Ok.happened.status (sym c.are_fit.ensures ∙ c.if-not-are_fit.false) c.in-Ok.ensures c.as_slice.ensures.value
    c.hand_events.ensures.said c.hand_events.ensures.room
