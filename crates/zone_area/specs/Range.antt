-- How far from 0 the numbers of areas lie at most, so that each fits 64 bits and each square 128.
-- Lengths count 0.001 mm; `far_apart`, its squares and `far_reach` count 0.0005 mm. The numbers are
-- worked out from `LONGEST` of motion_track and the range of positions.
use Rattle.std.specs.Prelude.{ℕ}
use Rattle.nc_number.specs.Position.{IsPosition, IsWithin}
use Rattle.zone_area.specs.declared.area.Area.{Area}
use Rattle.zone_area.specs.Area.{SweptView}

-- how far from 0 the middle of an arc lies at most along each axis
abbrev pub far_middle : ℕ
far_middle = 300000000000000

-- how far the middle and an end of an arc lie apart at most along each axis, in 0.0005 mm
abbrev pub far_apart : ℕ
far_apart = 700000000000000

-- the square of `far_apart`
abbrev pub far_square : ℕ
far_square = 490000000000000000000000000000

-- twice the square of `far_apart`: a bound for the square of the distance of a middle and an end
abbrev pub far_squares : ℕ
far_squares = 980000000000000000000000000000

-- how far an arc reaches from its middle at most, in 0.0005 mm
abbrev pub far_reach : ℕ
far_reach = 1000000000000000

-- how far from 0 a corner of an area lies at most along each axis
abbrev pub far_corner : ℕ
far_corner = 2000000000000000

-- how far from 0 a corner of an area lies at most along each axis, with the body of a tool round it
abbrev pub far_grown : ℕ
far_grown = 3000000000000000

-- how far from 0 a corner of an area lies at most along each axis, as it lies in the cell
abbrev pub far_in_cell : ℕ
far_in_cell = 4000000000000000

-- neither corner of an area is farther from 0 than `far`
abbrev pub IsAreaWithin : ℕ → Area → Type 0
IsAreaWithin far area = IsWithin far area.low × IsWithin far area.high

-- both corners of an area of moves are in range
abbrev pub IsNearArea : Area → Type 0
IsNearArea area = IsAreaWithin far_corner area

-- both corners of an area of moves are in range, with the body of a tool round it
abbrev pub IsGrownArea : Area → Type 0
IsGrownArea area = IsAreaWithin far_grown area

-- both corners of an area in the cell are in range
abbrev pub IsInCell : Area → Type 0
IsInCell area = IsAreaWithin far_in_cell area

-- the area of what was swept is in range, and the path stands at a position
pub record IsNear (s : SweptView) : Type 0 where
  -- the corners of the area are in range
  pub area : IsNearArea s.area
  -- the path stands at a position
  pub at : IsPosition s.at
