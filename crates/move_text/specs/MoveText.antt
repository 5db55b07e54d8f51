-- How a place is printed, and a move with the line of the tape whose block made it. Lengths and
-- numbers are written as text_pieces says.
use Rattle.std.specs.Prelude.{ℕ, Bool, if◌then◌else◌, List, ◌++◌, ℤ, codes, decimal}
use Rattle.nc_number.specs.declared.point.Point.{Point}
use Rattle.nc_number.specs.Printed.{value_text, length_text, last_digits}
use Rattle.nc_moves.specs.declared.motion.Centre.{Centre}
use Rattle.nc_moves.specs.declared.motion.Centre.TheVariants.{Offset, Radius}
use Rattle.nc_moves.specs.declared.motion.Move.{Move}
use Rattle.nc_moves.specs.declared.motion.Move.TheVariants.{Rapid, Feed, Thread, Arc, Dwell, Speed, Limit, Tool, Aux}
use Rattle.text_pieces.specs.Pieces.{point_text, code_text}

-- the centre of an arc from its start, or its radius, in mm
unfoldable pub centre_text : Centre → List ℕ
centre_text (Offset i k) = codes " I" ++ length_text i ++ codes " K" ++ length_text k
centre_text (Radius r) = codes " R" ++ length_text r

-- a feed, and whether it is per revolution or per minute
unfoldable pub feed_text : ℤ → Bool → List ℕ
feed_text feed per_rev = codes " F" ++ value_text feed ++ (if per_rev then codes " rev" else codes " min")

-- a move: its kind, where it leads, and its feed or its number
unfoldable pub move_text : Move → List ℕ
move_text (Rapid to) = codes "rapid" ++ point_text to
move_text (Feed to feed per_rev) = codes "feed" ++ point_text to ++ feed_text feed per_rev
move_text (Thread to lead) = codes "thread" ++ point_text to ++ codes " F" ++ value_text lead
move_text (Arc clockwise to centre feed per_rev) =
    (if clockwise then codes "cw" else codes "ccw") ++ point_text to ++ centre_text centre ++ feed_text feed per_rev
move_text (Dwell ms) = codes "dwell " ++ decimal ms
move_text (Speed surface s) = (if surface then codes "speed G96 S" else codes "speed G97 S") ++ decimal s
move_text (Limit s) = codes "limit S" ++ decimal s
move_text (Tool t) = codes "tool T" ++ last_digits 4 t
move_text (Aux m) = codes "aux M" ++ code_text m

-- the line of a move: the line of the tape, and the move
unfoldable pub line_text : ℕ → Move → List ℕ
line_text line what = decimal line ++ codes " " ++ move_text what ++ codes "\n"

-- the line of a place: the point at which a turret begins
unfoldable pub placed_text : Point → List ℕ
placed_text at = codes "place" ++ point_text at ++ codes "\n"
