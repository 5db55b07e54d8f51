-- How far the moves of a block reach. A bound for the numbers of the machine, in 0.001 mm.
use Rattle.std.specs.Prelude.{ℕ, List, All, Option, Some, None, IfSome}
use Rattle.nc_number.specs.Position.{IsPosition}
use Rattle.nc_moves.specs.declared.motion.Move.{Move}
use Rattle.nc_moves.specs.declared.motion.Move.TheVariants.{Rapid, Feed, Thread, Arc, Dwell, Speed, Limit, Tool, Aux}
use Rattle.nc_moves.specs.declared.motion.Centre.{Centre}
use Rattle.nc_moves.specs.Motion.{end_of}
use Rattle.motion_track.specs.Centre.{IsGivenWithin}

-- the centre or the radius of a move, which an arc alone has
abbrev pub centre_in : Move → Option Centre
centre_in (Rapid to) = None
centre_in (Feed to feed per_rev) = None
centre_in (Thread to lead) = None
centre_in (Arc clockwise to centre feed per_rev) = Some centre
centre_in (Dwell ms) = None
centre_in (Speed surface s) = None
centre_in (Limit s) = None
centre_in (Tool t) = None
centre_in (Aux m) = None

-- the move ends at a position, if it goes somewhere, and its I, K and R are no larger than that
abbrev pub IsMoveWithin : ℕ → Move → Type 0
IsMoveWithin far move = IfSome (end_of move) IsPosition × IsGivenWithin far (centre_in move)

-- each of the moves ends at a position, and has no larger I, K or R
abbrev pub AreMovesWithin : ℕ → List Move → Type 0
AreMovesWithin far moves = All (IsMoveWithin far) moves
