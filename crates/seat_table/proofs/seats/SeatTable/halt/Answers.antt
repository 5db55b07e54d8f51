-- The pass of a drive may tell the table: it has a right, and does not have the turn
-- (`SeatTable::halt`, src/seats.rt).
use Rattle.seat_table.specs.Knowing.{halts}
use Rattle.seat_table.proofs.Keeping.{has_one}
use Rattle.seat_table.proofs.seats.SeatTable.halt.Goals as goal

pub tell_until-requires-clause-idle : goal.tell_until-requires-clause-idle
tell_until-requires-clause-idle g c = ((c.pass.invariant.0, c.pass.invariant.1), has_one (halts c.pass.inside.path) _ c.pass.invariant.2)
