-- The trail so far, with the moves that are left, is the trail of all moves (loop of
-- `Trail::add_block`, src/trail.rt).
use Rattle.std.proofs.Common.{◌≡◌, drop, map}
use Rattle.nc_outside.specs.Lined.{lined_move}
use Rattle.zone_moves.specs.Stretches.{trail_along}
use Rattle.zone_moves.proofs.trail.Trail.add_block.Given as goal

abbrev pub invariant-loop-what : goal.invariant-loop-what
invariant-loop-what l =
    trail_along l.fn.cell l.fn.path l.self (map (lined_move l.fn.line) (drop l.what-index l.moves))
    ≡ trail_along l.fn.cell l.fn.path l.fn.self (map (lined_move l.fn.line) l.fn.moves)
