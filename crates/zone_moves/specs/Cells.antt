-- Which cells are in range: frames, gap, bodies and boxes are as near as positions.
use Rattle.std.specs.Prelude.{false, [], All}
use Rattle.nc_number.specs.declared.both.Both.{Both}
use Rattle.nc_number.specs.Position.{IsPosition, origin}
use Rattle.zone_area.specs.declared.frame.Frame.{Frame}
use Rattle.zone_moves.specs.Bodies.{IsBody}
use Rattle.zone_moves.specs.Fixed.{IsFixed}
use Rattle.zone_moves.specs.Stretches.{CellView}

-- the shifts of both frames are positions
pub record AreShifted (frames : Both Frame) : Type 0 where
  -- the shift of path 1 is a position
  pub one : IsPosition frames.one.shift
  -- the shift of path 2 is a position
  pub two : IsPosition frames.two.shift

-- a path that lies in the cell as it is
abbrev pub at_origin : Frame
at_origin = record { mirror = false; mirror_z = false; shift = origin }

-- the cell before anything is said of it: both paths lie in it as they are, and nothing stands there
abbrev pub empty_cell : CellView
empty_cell = record { frames = record { one = at_origin; two = at_origin }; gap = origin; bodies = []; boxes = [] }

-- frames, gap, bodies and boxes of the cell are in range
pub record IsFit (cell : CellView) : Type 0 where
  -- the shifts of both frames are positions
  pub shifted : AreShifted cell.frames
  -- the gap is a position
  pub apart : IsPosition cell.gap
  -- the bodies are in range
  pub bodies : All IsBody cell.bodies
  -- the boxes are in range
  pub boxes : All IsFixed cell.boxes
