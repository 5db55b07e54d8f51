-- The segments of a history and their zones. A segment reaches from the beginning or a meeting to
-- the next meeting or the end.
use Rattle.std.specs.Prelude.{List, [], ◌∷◌, ◌++◌, map, if◌then◌else◌}
use Rattle.nc_number.specs.declared.path.Path.{Path}
use Rattle.nc_number.specs.declared.path.Path.TheVariants.{One, Two}
use Rattle.nc_number.specs.declared.point.Point.{Point}
use Rattle.nc_moves.specs.declared.motion.Move.{Move}
use Rattle.nc_outside.specs.declared.lined_move.LinedMove.{LinedMove}
use Rattle.run_records.specs.Entries.{Entry, is_meeting}
use Rattle.two_path.specs.Machine.{MachineView}
use Rattle.two_path.specs.Turns.{Tapes}
use Rattle.two_path.specs.Histories.{fold}
use Rattle.two_path.specs.Made.{moves_of}
use Rattle.zone_area.specs.Area.{area_of}
use Rattle.zone_cell.specs.declared.cell.Zone.{Zone}
use Rattle.zone_cell.specs.Zones.{ZonesView, zone_of_areas}

-- what both paths do in a segment: where each stands when it begins, and its moves
pub record Segment : Type 0 where
  -- where path 1 stands when the segment begins
  pub left_at : Point
  -- the moves of path 1 in it
  pub left : List Move
  -- where path 2 stands when the segment begins
  pub right_at : Point
  -- the moves of path 2 in it
  pub right : List Move

-- moves without their lines
abbrev pub unlined : List LinedMove → List Move
unlined moves = map (λ (made : LinedMove). made.what) moves

-- the moves of a path's records, in order
abbrev pub path_moves : Tapes → MachineView → Path → List Entry → List Move
path_moves tapes m path entries = unlined (moves_of tapes m path entries)

-- the segment that begins at the positions of this machine, and has these records
abbrev pub segment_of : Tapes → MachineView → List Entry → Segment
segment_of tapes m entries = record {
  left_at = m.paths.one.path.position;
  left = path_moves tapes m One entries;
  right_at = m.paths.two.path.position;
  right = path_moves tapes m Two entries;
}

-- The segments of a history, of which the first began at this machine and has had these records so
-- far. A meeting ends a segment, and the next begins at the machine behind it.
abbrev pub segments_from : Tapes → MachineView → List Entry → List Entry → List Segment
segments_from tapes m so_far [] = segment_of tapes m so_far ∷ []
segments_from tapes m so_far (e ∷ entries) =
    if is_meeting e.kind then segment_of tapes m so_far ∷ segments_from tapes (fold tapes m (so_far ++ e ∷ [])) [] entries
    else segments_from tapes m (so_far ++ e ∷ []) entries

-- the segments of a history from a machine on
abbrev pub segments_of : Tapes → MachineView → List Entry → List Segment
segments_of tapes m entries = segments_from tapes m [] entries

-- the zone of a segment
abbrev pub zone_of : ZonesView → Segment → Zone
zone_of zones s =
    zone_of_areas zones (record { one = area_of s.left_at s.left; two = area_of s.right_at s.right })

-- the zones of a history from a machine on
abbrev pub zones_of_history : Tapes → MachineView → ZonesView → List Entry → List Zone
zones_of_history tapes m zones entries = map (zone_of zones) (segments_of tapes m entries)
