-- The seat does not have the turn, and keeps its rights, calls and tellings, and what it knows of a
-- halt (loop of `step_until`, src/taking.rt).
use Rattle.std.proofs.Common.{◌≡◌}
use Rattle.seat_table.specs.Knowing.{Idle, Keeps, list_at, stop_at, KeepsStop}
use Rattle.seat_table.proofs.taking.step_until.Given as goal

abbrev pub invariant-loop : goal.invariant-loop
invariant-loop g l =
    (l.place.table_id ≡ l.initial.place.table_id) × Idle l.place.me × Keeps l.initial.place.me l.place.me × (l.path ≡ l.initial.path)
    × (list_at l.initial.path l.place.me ≡ list_at l.initial.path l.initial.place.me)
    × KeepsStop (stop_at l.initial.place.me) (stop_at l.place.me)
