-- The least area of whole counts that holds what moves may pass.
use Rattle.std.specs.Prelude.{ℕ, ◌+◌, ◌*◌, ◌/◌, Bool, ◌||◌, List, [], ◌∷◌, Option, Some, None, ℤ, pos, ◌+ℤ◌, ◌-ℤ◌, ◌*ℤ◌, ◌≤ℤ◌, int_lt, unsigned_abs, if◌then◌else◌}
use Rattle.std.specs.Int.{int_min, int_max}
use Rattle.nc_number.specs.declared.point.Point.{Point}
use Rattle.nc_moves.specs.declared.motion.Centre.{Centre}
use Rattle.nc_moves.specs.declared.motion.Centre.TheVariants.{Offset, Radius}
use Rattle.nc_moves.specs.declared.motion.Move.{Move}
use Rattle.nc_moves.specs.Motion.{end_of}
use Rattle.motion_track.specs.Within.{centre_in}
use Rattle.zone_area.specs.declared.area.Area.{Area}
use Rattle.zone_area.specs.declared.frame.Frame.{Frame}
use Rattle.zone_area.specs.Roots.{least_root}
use Rattle.nc_number.specs.Signs.{signed_number}
use Rattle.zone_area.specs.Passing.{middle_of, square_of, place_after}

-- how far an arc may reach from its middle, in 0.0005 mm
abbrev pub reach_of : Point → Point → Centre → ℕ
reach_of at to (Offset i k) = least_root (square_of at to (Offset i k))
reach_of at to (Radius r) = 4 * unsigned_abs r

-- the area holds the point: its X and its Z lie between those of the corners, or are theirs
pub record Holds (area : Area) (p : Point) : Type 0 where
  -- the point has at least the least X
  pub left : area.low.x ≤ℤ p.x
  -- the point has at most the greatest X
  pub right : p.x ≤ℤ area.high.x
  -- the point has at least the least Z
  pub below : area.low.z ≤ℤ p.z
  -- the point has at most the greatest Z
  pub above : p.z ≤ℤ area.high.z

-- the area holds a middle plus and minus a reach in 0.0005 mm, in which X is counted as it is and Z
-- doubled
pub record HoldsAround (area : Area) (middle : Point) (reach : ℕ) : Type 0 where
  -- towards the least X the reach lies in the area
  pub left : area.low.x ≤ℤ (middle.x -ℤ pos reach)
  -- towards the greatest X the reach lies in the area
  pub right : (middle.x +ℤ pos reach) ≤ℤ area.high.x
  -- towards the least Z the reach lies in the area
  pub below : (pos 2 *ℤ area.low.z) ≤ℤ (pos 2 *ℤ middle.z -ℤ pos reach)
  -- towards the greatest Z the reach lies in the area
  pub above : (pos 2 *ℤ middle.z +ℤ pos reach) ≤ℤ (pos 2 *ℤ area.high.z)

-- the area holds the end of a move, and what an arc may reach
abbrev pub HoldsEnd : Area → Point → Option Point → Option Centre → Type 0
HoldsEnd area at None centre = Unit {0}
HoldsEnd area at (Some to) None = Holds area to
HoldsEnd area at (Some to) (Some centre) = Holds area to × HoldsAround area (middle_of at centre) (reach_of at to centre)

-- the area holds the end of a move from this place, if it goes somewhere, and what it may reach if
-- it is an arc
abbrev pub HoldsMove : Area → Point → Move → Type 0
HoldsMove area at move = HoldsEnd area at (end_of move) (centre_in move)

-- the area holds the ends of these moves, made one after another from this place, and what their
-- arcs may reach
abbrev pub HoldsMoves : Area → Point → List Move → Type 0
HoldsMoves area at [] = Unit {0}
HoldsMoves area at (move ∷ moves) = HoldsMove area at move × HoldsMoves area (place_after at move) moves

-- the area holds where moves begin, where each of them ends, and what their arcs may reach
abbrev pub HoldsAll : Area → Point → List Move → Type 0
HoldsAll area at moves = Holds area at × HoldsMoves area at moves

-- an area holds another
abbrev pub HoldsArea : Area → Area → Type 0
HoldsArea area other = Holds area other.low × Holds area other.high

-- the area of one point
abbrev pub area_at : Point → Area
area_at p = record { low = p; high = p }

-- the least area that holds two
abbrev pub hull_of : Area → Area → Area
hull_of a b = record {
  low = record { x = int_min a.low.x b.low.x; z = int_min a.low.z b.low.z };
  high = record { x = int_max a.high.x b.high.x; z = int_max a.high.z b.high.z };
}

-- the area of a middle plus and minus a reach in 0.0005 mm: along X the number of the reach, along
-- Z half of it, rounded outward
abbrev pub area_around : Point → ℕ → Area
area_around middle reach = record {
  low = record { x = middle.x -ℤ pos reach; z = middle.z -ℤ pos ((reach + 1) / 2) };
  high = record { x = middle.x +ℤ pos reach; z = middle.z +ℤ pos ((reach + 1) / 2) };
}

-- the least area that holds another, and what a move to this end round this centre may pass
abbrev pub area_to : Area → Point → Option Point → Option Centre → Area
area_to area at None centre = area
area_to area at (Some to) None = hull_of area (area_at to)
area_to area at (Some to) (Some centre) =
    hull_of (hull_of area (area_at to)) (area_around (middle_of at centre) (reach_of at to centre))

-- what a path may have passed, and where it stands
pub record SweptView : Type 0 where
  -- the least area of what it may have passed
  pub area : Area
  -- where it stands
  pub at : Point

-- what a path may have passed before its first move: the place where it stands
abbrev pub swept_at : Point → SweptView
swept_at at = record { area = area_at at; at = at }

-- what a path may have passed, with one move more
abbrev pub swept_with : SweptView → Move → SweptView
swept_with s move = record { area = area_to s.area s.at (end_of move) (centre_in move); at = place_after s.at move }

-- what a path may have passed, with these moves more
abbrev pub swept_along : SweptView → List Move → SweptView
swept_along s [] = s
swept_along s (move ∷ moves) = swept_along (swept_with s move) moves

-- the least area of moves that are made one after another from a place
abbrev pub area_of : Point → List Move → Area
area_of at moves = (swept_along (swept_at at) moves).area

-- an area, as it lies in the cell
abbrev pub area_in_cell : Frame → Area → Area
area_in_cell frame area = record {
  low = record {
    x = signed_number frame.mirror (if frame.mirror then area.high.x else area.low.x) +ℤ frame.shift.x;
    z = signed_number frame.mirror_z (if frame.mirror_z then area.high.z else area.low.z) +ℤ frame.shift.z;
  };
  high = record {
    x = signed_number frame.mirror (if frame.mirror then area.low.x else area.high.x) +ℤ frame.shift.x;
    z = signed_number frame.mirror_z (if frame.mirror_z then area.low.z else area.high.z) +ℤ frame.shift.z;
  };
}

-- a span that begins at `first` lies beyond one that ends at `last` by more than the gap
abbrev pub is_beyond : ℤ → ℤ → ℤ → Bool
is_beyond gap last first = int_lt (last +ℤ gap) first

-- of two spans of lengths one lies beyond the other by more than the gap
abbrev pub lie_apart : ℤ → ℤ → ℤ → ℤ → ℤ → Bool
lie_apart gap low high other_low other_high = is_beyond gap high other_low || is_beyond gap other_high low

-- two areas lie more than the gap apart in X or in Z
abbrev pub is_clear : Point → Area → Area → Bool
is_clear gap a b =
    lie_apart gap.x a.low.x a.high.x b.low.x b.high.x || lie_apart gap.z a.low.z a.high.z b.low.z b.high.z
