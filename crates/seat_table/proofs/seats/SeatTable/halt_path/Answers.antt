-- The pass of a path may tell the table: it has a right, and does not have the turn
-- (`SeatTable::halt_path`, src/seats.rt).
use Rattle.seat_table.specs.Knowing.{steps}
use Rattle.seat_table.proofs.Keeping.{has_one}
use Rattle.seat_table.proofs.seats.SeatTable.halt_path.Goals as goal

pub tell_until-requires-clause-idle : goal.tell_until-requires-clause-idle
tell_until-requires-clause-idle g c = ((c.pass.invariant.0, c.pass.invariant.1), has_one (steps c.pass.inside.path) _ c.pass.invariant.2)
