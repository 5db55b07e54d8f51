-- The stretches of a path: for each of its moves, made one after another from a place with the tool
-- in force, the area in the cell that the body of the tool may touch.
use Rattle.std.specs.Prelude.{ℕ, ◌/◌, Bool, true, false, List, [], ◌∷◌, ◌++◌}
use Rattle.nc_number.specs.Both.{of_path}
use Rattle.nc_number.specs.declared.both.Both.{Both}
use Rattle.nc_number.specs.declared.path.Path.{Path}
use Rattle.nc_number.specs.declared.point.Point.{Point}
use Rattle.nc_moves.specs.declared.motion.Move.{Move}
use Rattle.nc_moves.specs.declared.motion.Move.TheVariants.{Rapid, Feed, Thread, Arc, Dwell, Speed, Limit, Tool, Aux}
use Rattle.nc_outside.specs.declared.lined_move.LinedMove.{LinedMove}
use Rattle.zone_area.specs.declared.area.Area.{Area}
use Rattle.zone_area.specs.declared.frame.Frame.{Frame}
use Rattle.zone_area.specs.Area.{area_at, area_of, area_in_cell}
use Rattle.zone_area.specs.Passing.{place_after}
use Rattle.zone_area.specs.Range.{IsInCell}
use Rattle.zone_moves.specs.declared.body.Body.{Body}
use Rattle.zone_moves.specs.declared.fixed.FixedBox.{FixedBox}
use Rattle.zone_moves.specs.declared.stretch.Stretch.{Stretch}
use Rattle.zone_moves.specs.declared.stretch.Source.TheVariants as source
use Rattle.zone_moves.specs.Bodies.{body_of, grown}

-- how both paths lie in the cell, how far apart they are to stay, the bodies of their tools, and
-- what stands in the cell
pub record CellView : Type 0 where
  -- how each path lies in the cell
  pub frames : Both Frame
  -- how far apart bodies are to stay, in 0.001 mm; X is a diameter
  pub gap : Point
  -- the bodies of tools; a later one of a tool takes the place of an earlier one
  pub bodies : List Body
  -- what stands in the cell
  pub boxes : List FixedBox

-- the tool in force after a move: a T word names it by its first two digits
abbrev pub tool_after : ℕ → Move → ℕ
tool_after tool (Tool t) = t / 100
tool_after tool (Rapid to) = tool
tool_after tool (Feed to feed per_rev) = tool
tool_after tool (Thread to lead) = tool
tool_after tool (Arc clockwise to centre feed per_rev) = tool
tool_after tool (Dwell ms) = tool
tool_after tool (Speed surface s) = tool
tool_after tool (Limit s) = tool
tool_after tool (Aux m) = tool

-- the move is one at rapid traverse
abbrev pub is_rapid : Move → Bool
is_rapid (Rapid to) = true
is_rapid (Feed to feed per_rev) = false
is_rapid (Thread to lead) = false
is_rapid (Arc clockwise to centre feed per_rev) = false
is_rapid (Dwell ms) = false
is_rapid (Speed surface s) = false
is_rapid (Limit s) = false
is_rapid (Tool t) = false
is_rapid (Aux m) = false

-- what the body of a tool may touch while the programmed point is in an area, as it lies in the cell
abbrev pub touched_area : CellView → Path → ℕ → Area → Area
touched_area cell path tool area = area_in_cell (of_path cell.frames path) (grown (body_of cell.bodies path tool) area)

-- the path stands at a place, before its first move
abbrev pub start_stretch : CellView → Path → ℕ → Point → Stretch
start_stretch cell path tool at =
    record { source = source.Start; tool = tool; rapid = false; area = touched_area cell path tool (area_at at) }

-- the path makes a move from a place, with the tool that is in force then
abbrev pub move_stretch : CellView → Path → ℕ → Point → LinedMove → Stretch
move_stretch cell path tool at made = record {
  source = source.Line made.line;
  tool = tool_after tool made.what;
  rapid = is_rapid made.what;
  area = touched_area cell path (tool_after tool made.what) (area_of at (made.what ∷ []));
}

-- the stretches of moves that are made one after another, from a place and with a tool in force
abbrev pub move_stretches : CellView → Path → ℕ → Point → List LinedMove → List Stretch
move_stretches cell path tool at [] = []
move_stretches cell path tool at (made ∷ moves) =
    move_stretch cell path tool at made ∷ move_stretches cell path (tool_after tool made.what) (place_after at made.what) moves

-- the stretches of a path: it stands, and then makes these moves
abbrev pub stretches_of : CellView → Path → ℕ → Point → List LinedMove → List Stretch
stretches_of cell path tool at moves = start_stretch cell path tool at ∷ move_stretches cell path tool at moves

-- the stretches of a path so far, where it stands, and its tool
pub record TrailView : Type 0 where
  -- where the path stands
  pub at : Point
  -- the tool in force
  pub tool : ℕ
  -- the stretches so far
  pub stretches : List Stretch

-- a path that stands, before its first move
abbrev pub trail_at : CellView → Path → ℕ → Point → TrailView
trail_at cell path tool at = record { at = at; tool = tool; stretches = start_stretch cell path tool at ∷ [] }

-- one move more
abbrev pub trail_with : CellView → Path → TrailView → LinedMove → TrailView
trail_with cell path trail made = record {
  at = place_after trail.at made.what;
  tool = tool_after trail.tool made.what;
  stretches = trail.stretches ++ move_stretch cell path trail.tool trail.at made ∷ [];
}

-- these moves more
abbrev pub trail_along : CellView → Path → TrailView → List LinedMove → TrailView
trail_along cell path trail [] = trail
trail_along cell path trail (made ∷ moves) = trail_along cell path (trail_with cell path trail made) moves

-- the area of the stretch is in range
abbrev pub IsPlaced : Stretch → Type 0
IsPlaced stretch = IsInCell stretch.area
