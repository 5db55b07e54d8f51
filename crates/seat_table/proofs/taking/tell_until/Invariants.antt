-- The seat does not have the turn, and keeps its rights, calls and tellings, and what it knows of a
-- halt (loop of `tell_until`, src/taking.rt).
use Rattle.std.proofs.Common.{◌≡◌, true}
use Rattle.nc_number.specs.declared.path.Path.{Path}
use Rattle.seat_table.specs.Knowing.{Idle, Keeps, steps, has, list_at, stop_at, KeepsStop}
use Rattle.seat_table.specs.Taking.{IsGiven}
use Rattle.seat_table.proofs.taking.tell_until.Given as goal

abbrev pub invariant-loop : goal.invariant-loop
invariant-loop g l =
    (l.place.table_id ≡ l.initial.place.table_id) × Idle l.place.me × Keeps l.initial.place.me l.place.me × IsGiven l.notice
    × ((p : Path) → has (steps p) l.initial.place.me.0.rights ≡ true → list_at p l.place.me ≡ list_at p l.initial.place.me)
    × KeepsStop (stop_at l.initial.place.me) (stop_at l.place.me)
