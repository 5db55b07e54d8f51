-- Where corners begin and end, and what is written of them. src/chamfer.rt, src/rounding.rt and
-- src/blocks.rt compute it.
use Rattle.std.specs.Prelude.{ℕ, ◌*◌, Bool, ◌&&◌, nat_le, int_le, if◌then◌else◌, ℤ, pos, ◌+ℤ◌, ◌-ℤ◌, ◌*ℤ◌, int_div, ◌==◌, true, false, Option, Some, None, Result, Ok, Err}
use Rattle.nc_number.specs.declared.point.Point.{Point}
use Rattle.nc_number.specs.Options.{◌>>=◌}
use Rattle.plain_block.specs.declared.block.PlainBlock.{PlainBlock}
use Rattle.plain_block.specs.declared.course.Course.TheVariants.{Cut, Arc}
use Rattle.plain_block.specs.declared.course.ArcCentre.TheVariants.{Offset}
use Rattle.plain_block.specs.Blocks.{straight_to}
use Rattle.plane_ways.specs.declared.place.Place.{Place}
use Rattle.plane_ways.specs.declared.place.Side.{Side}
use Rattle.plane_ways.specs.declared.place.Side.TheVariants.{Left, Right}
use Rattle.plane_ways.specs.declared.meeting.Meeting.{Meeting}
use Rattle.plane_ways.specs.Meetings.{wide_meeting, sharp_meeting}
use Rattle.nc_number.specs.Position.{IsPosition}
use Rattle.plane_ways.specs.declared.place.TheConstants.{FAR}
use Rattle.plane_ways.specs.Plane.{way, dot, square, times, IsWithin}
use Rattle.plane_ways.specs.Points.{place_of}
use Rattle.plane_ways.specs.Steps.{direction, length_of, near_place, nearest_stepped}
use Rattle.corner_form.specs.declared.corner.TheConstants.{LARGEST_CORNER}
use Rattle.corner_form.specs.declared.corner.Corner.{Corner}
use Rattle.corner_form.specs.declared.corner.CornerKind.{CornerKind}
use Rattle.corner_form.specs.declared.corner.CornerKind.TheVariants.{Chamfer, Rounding}
use Rattle.corner_form.specs.declared.corner.CornerEnds.{CornerEnds}
use Rattle.corner_form.specs.declared.corner.RoundCorner.{RoundCorner}
use Rattle.corner_form.specs.declared.corner.CornerBlocks.{CornerBlocks}
use Rattle.corner_form.specs.declared.corner.CornerFault.{CornerFault}
use Rattle.corner_form.specs.declared.corner.CornerFault.TheVariants.{TooLarge, NoTurn, TooLong, Inexact}
use Rattle.corner_form.specs.Shape.{written, side_of, reaches, is_on, is_ahead_by, is_beside_by, is_round}

-- the corner's points as places
abbrev pub before : Corner → Place
before corner = place_of corner.from

abbrev pub tip : Corner → Place
tip corner = place_of corner.at

abbrev pub after : Corner → Place
after corner = place_of corner.to

-- the corner's size in 0.0005 mm
abbrev pub counts : Corner → ℕ
counts corner = 2 * corner.size

-- n from p on a line of this direction, to the nearest 0.001 mm
abbrev pub place_along : Place → ℕ → Place → Option Place
place_along p n d = near_place (nearest_stepped p (times n d) (length_of d))

-- z times a way
abbrev pub multiple : ℤ → Place → Place
multiple z w = record { across = z *ℤ w.across; along = z *ℤ w.along }

-- where the line from p to q is nearest to a place, to the nearest 0.001 mm
abbrev pub foot : Place → Place → Place → Option Place
foot p q at =
    if square (way p q) == 0
    then None
    else near_place (nearest_stepped p (multiple (dot (way p q) (way p at)) (way p q)) (square (way p q)))

-- where both lines meet that were moved to that side, between directions d and e
abbrev pub meeting_at : Side → Place → Place → Meeting
meeting_at s d e = if int_le (pos 0) (dot d e) then wide_meeting s d e else sharp_meeting s d e

-- the centre of an arc of radius r on that side of both lines, to the nearest 0.001 mm
abbrev pub centre_at : Place → ℕ → Meeting → Option Place
centre_at p r m = near_place (nearest_stepped p (times r m.by) m.parts)

-- the ends of a corner at these points, if there are both
abbrev pub ends_at : Option Point → Option Point → Option CornerEnds
ends_at start end = do
  first ← start
  second ← end
  Some (record { start = first; end = second })

-- the ends of a chamfer
abbrev pub chamfer_ends : Corner → Option CornerEnds
chamfer_ends corner = do
  back ← direction (tip corner) (before corner)
  on ← direction (tip corner) (after corner)
  ends_at (written (place_along (tip corner) (counts corner) back)) (written (place_along (tip corner) (counts corner) on))

-- the rounded corner of these ends round a centre
abbrev pub round_of : Side → Place → CornerEnds → RoundCorner
round_of s middle ends = record {
  ends = ends;
  side = s;
  i = int_div (middle.across -ℤ (place_of ends.start).across) (pos 2);
  k = int_div (middle.along -ℤ (place_of ends.start).along) (pos 2);
}

-- the rounded corner of an arc round a centre: its ends are nearest to it
abbrev pub round_at : Corner → Side → Place → Option RoundCorner
round_at corner s middle = do
  ends ← ends_at (written (foot (tip corner) (before corner) middle)) (written (foot (tip corner) (after corner) middle))
  Some (round_of s middle ends)

-- the rounded corner, if the lines turn
abbrev pub round_corner : Corner → Option RoundCorner
round_corner corner = do
  d ← direction (before corner) (tip corner)
  e ← direction (tip corner) (after corner)
  s ← side_of d e
  middle ← centre_at (tip corner) (counts corner) (meeting_at s d e)
  round_at corner s middle

-- to which side the second line turns, if it turns
abbrev pub turn_of : Corner → Option Side
turn_of corner = do
  d ← direction (before corner) (tip corner)
  e ← direction (tip corner) (after corner)
  side_of d e

-- neither end lies past its line
abbrev pub is_short : Corner → CornerEnds → Bool
is_short corner ends =
    reaches (tip corner) (before corner) (place_of ends.start) && reaches (tip corner) (after corner) (place_of ends.end)

-- the written ends lie on their lines
abbrev pub are_on : Corner → CornerEnds → Bool
are_on corner ends =
    is_on (tip corner) (before corner) (place_of ends.start) && is_on (tip corner) (after corner) (place_of ends.end)

-- the written ends of a chamfer are as far from the corner as it says
abbrev pub is_chamfer : Corner → CornerEnds → Bool
is_chamfer corner ends =
    are_on corner ends
    && is_ahead_by (counts corner) (tip corner) (before corner) (place_of ends.start)
    && is_ahead_by (counts corner) (tip corner) (after corner) (place_of ends.end)

-- the centre of a rounded corner, as it is written
abbrev pub middle_of : RoundCorner → Place
middle_of round = record {
  across = (place_of round.ends.start).across +ℤ pos 2 *ℤ round.i;
  along = (place_of round.ends.start).along +ℤ pos 2 *ℤ round.k;
}

-- the written centre lies at the radius beside both lines, and from both ends
abbrev pub is_rounding : Corner → RoundCorner → Bool
is_rounding corner round =
    are_on corner round.ends
    && is_beside_by (counts corner) round.side (before corner) (tip corner) (middle_of round)
    && is_beside_by (counts corner) round.side (tip corner) (after corner) (middle_of round)
    && is_round (counts corner) (middle_of round) (place_of round.ends.start)
    && is_round (counts corner) (middle_of round) (place_of round.ends.end)

-- the chamfer of a corner, or why there is none
abbrev pub chamfer_kept : Corner → Option CornerEnds → Result CornerEnds CornerFault
chamfer_kept corner None = Err TooLong
chamfer_kept corner (Some ends) =
    if is_short corner ends then (if is_chamfer corner ends then Ok ends else Err Inexact) else Err TooLong

abbrev pub chamfer_turned : Corner → Option Side → Result CornerEnds CornerFault
chamfer_turned corner None = Err NoTurn
chamfer_turned corner (Some s) = chamfer_kept corner (chamfer_ends corner)

abbrev pub chamfer_of : Corner → Result CornerEnds CornerFault
chamfer_of corner = if nat_le corner.size LARGEST_CORNER then chamfer_turned corner (turn_of corner) else Err TooLarge

-- the rounding of a corner, or why there is none
abbrev pub rounding_kept : Corner → Option RoundCorner → Result RoundCorner CornerFault
rounding_kept corner None = Err TooLong
rounding_kept corner (Some round) =
    if is_short corner round.ends then (if is_rounding corner round then Ok round else Err Inexact) else Err TooLong

abbrev pub rounding_turned : Corner → Option Side → Result RoundCorner CornerFault
rounding_turned corner None = Err NoTurn
rounding_turned corner (Some s) = rounding_kept corner (round_corner corner)

abbrev pub rounding_of : Corner → Result RoundCorner CornerFault
rounding_of corner = if nat_le corner.size LARGEST_CORNER then rounding_turned corner (turn_of corner) else Err TooLarge

-- an arc that turns to the right is clockwise
abbrev pub is_clockwise : Side → Bool
is_clockwise Left = false
is_clockwise Right = true

-- the blocks of a chamfer
abbrev pub chamfer_blocks : Result CornerEnds CornerFault → Result CornerBlocks CornerFault
chamfer_blocks (Err fault) = Err fault
chamfer_blocks (Ok ends) = Ok (record { first = straight_to Cut ends.start; second = straight_to Cut ends.end })

-- the blocks of a rounding
abbrev pub rounding_blocks : Result RoundCorner CornerFault → Result CornerBlocks CornerFault
rounding_blocks (Err fault) = Err fault
rounding_blocks (Ok round) = Ok (record {
  first = straight_to Cut round.ends.start;
  second = straight_to (Arc (is_clockwise round.side) (Offset round.i round.k)) round.ends.end;
})

-- the blocks of what this kind of corner cuts
abbrev pub blocks_by : CornerKind → Corner → Result CornerBlocks CornerFault
blocks_by Chamfer corner = chamfer_blocks (chamfer_of corner)
blocks_by Rounding corner = rounding_blocks (rounding_of corner)

-- the blocks that lead along the first line and to the corner's end on the second
abbrev pub blocks_of : Corner → Result CornerBlocks CornerFault
blocks_of corner = blocks_by corner.kind corner

-- the corner's points may be positions
pub record IsCornerOf (corner : Corner) : Type 0 where
  pub from : IsPosition corner.from
  pub at : IsPosition corner.at
  pub to : IsPosition corner.to

-- so may its ends
abbrev pub AreEnds : CornerEnds → Type 0
AreEnds ends = IsPosition ends.start × IsPosition ends.end

-- and the centre of its arc is near enough
abbrev pub IsRoundOf : RoundCorner → Type 0
IsRoundOf round = AreEnds round.ends × IsWithin FAR (middle_of round)
