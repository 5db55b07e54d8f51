-- Where a turret stands after a move, in machine coordinates.
use Rattle.std.specs.Prelude.{Option, Some, None}
use Rattle.nc_number.specs.declared.point.Point.{Point}
use Rattle.nc_moves.specs.declared.motion.Move.{Move}
use Rattle.nc_moves.specs.declared.motion.Move.TheVariants.{Rapid, Feed, Thread, Arc, Dwell, Speed, Limit, Tool, Aux}

-- where a turret stands after a move; none if the move goes nowhere, and leaves it where it is
abbrev pub end_of : Move → Option Point
end_of (Rapid to) = Some to
end_of (Feed to feed per_rev) = Some to
end_of (Thread to lead) = Some to
end_of (Arc clockwise to centre feed per_rev) = Some to
end_of (Dwell ms) = None
end_of (Speed surface s) = None
end_of (Limit s) = None
end_of (Tool t) = None
end_of (Aux m) = None
