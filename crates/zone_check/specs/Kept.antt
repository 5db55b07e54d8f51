-- What is kept while the records of a history are done again: the zones of the segments that have
-- ended, and of the one that goes on the areas so far and where the paths stand.
-- For this crate alone: src/standing.rt and src/meetings.rt.
use Rattle.std.specs.Prelude.{List, [], ◌∷◌, ◌++◌, if◌then◌else◌}
use Rattle.nc_number.specs.Both.{both_of}
use Rattle.nc_number.specs.declared.both.Both.{Both}
use Rattle.nc_number.specs.declared.path.Path.{Path}
use Rattle.nc_number.specs.declared.path.Path.TheVariants.{One, Two}
use Rattle.run_records.specs.Entries.{Entry, is_meeting}
use Rattle.two_path.specs.declared.turn.Turn.{Turn}
use Rattle.two_path.specs.Machine.{Part, MachineView}
use Rattle.two_path.specs.Turns.{Tapes}
use Rattle.two_path.specs.Histories.{behind_entry}
use Rattle.two_path.specs.Again.{turn_of_entry}
use Rattle.two_path.specs.Made.{moves_of_turn}
use Rattle.zone_area.specs.Area.{SweptView, swept_at, swept_along}
use Rattle.zone_cell.specs.declared.cell.Zone.{Zone}
use Rattle.zone_cell.specs.Zones.{ZonesView, zone_of_areas}

-- what both paths have swept where a segment begins: each only the point at which it stands in this
-- machine
abbrev pub standing_at : MachineView → Both SweptView
standing_at m = both_of (λ (part : Part). swept_at part.path.position) m.paths

-- what both paths have swept, with a turn of this path more: it adds its moves, and the other path
-- none
abbrev pub standing_with : Both SweptView → Path → Turn → Both SweptView
standing_with s One turn = record { one = swept_along s.one (moves_of_turn turn); two = s.two }
standing_with s Two turn = record { one = s.one; two = swept_along s.two (moves_of_turn turn) }

-- the zone of the segment that goes on
abbrev pub standing_zone : ZonesView → Both SweptView → Zone
standing_zone zones s = zone_of_areas zones (both_of (λ (swept : SweptView). swept.area) s)

-- the zones of the segments that have ended, and of each path what it has swept since
pub record KeptView : Type 0 where
  -- the zones of the segments that have ended
  pub list : List Zone
  -- what each path has swept since the last meeting, and where it stands
  pub standing : Both SweptView

-- what is kept after a record that led to this machine by this turn: a meeting ends the segment,
-- and any other record adds the moves of its turn
abbrev pub kept_with : ZonesView → Entry → Turn → MachineView → KeptView → KeptView
kept_with zones e turn m k =
    if is_meeting e.kind then record { list = k.list ++ standing_zone zones k.standing ∷ []; standing = standing_at m }
    else record { list = k.list; standing = standing_with k.standing e.path turn }

-- all zones of a history, if this is kept at this machine and these records are left
abbrev pub zones_from : Tapes → ZonesView → MachineView → KeptView → List Entry → List Zone
zones_from tapes zones m k [] = k.list ++ standing_zone zones k.standing ∷ []
zones_from tapes zones m k (e ∷ entries) =
    zones_from tapes zones (behind_entry tapes e m) (kept_with zones e (turn_of_entry tapes e m) (behind_entry tapes e m) k) entries
