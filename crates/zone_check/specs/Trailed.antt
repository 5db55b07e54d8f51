-- What is kept while the records of a history are done again, move by move: what is hit in the
-- segments that have ended, and of the one that goes on the stretches so far.
-- For this crate alone: src/trailing.rt and src/judging.rt.
use Rattle.std.specs.Prelude.{ℕ, List, [], ◌∷◌, ◌++◌, Option, if◌then◌else◌}
use Rattle.nc_number.specs.declared.both.Both.{Both}
use Rattle.nc_number.specs.declared.path.Path.{Path}
use Rattle.nc_number.specs.declared.path.Path.TheVariants.{One, Two}
use Rattle.run_records.specs.Entries.{Entry, is_meeting}
use Rattle.two_path.specs.declared.turn.Turn.{Turn}
use Rattle.two_path.specs.Machine.{MachineView}
use Rattle.two_path.specs.Turns.{Tapes}
use Rattle.two_path.specs.Histories.{behind_entry}
use Rattle.two_path.specs.Again.{turn_of_entry}
use Rattle.two_path.specs.Made.{moves_made_by}
use Rattle.zone_moves.specs.Judged.{judged}
use Rattle.zone_moves.specs.Stretches.{CellView, TrailView, trail_at, trail_along}
use Rattle.zone_cell.specs.declared.finding.Finding.{Finding}
use Rattle.zone_check.specs.Laps.{tool_in_force, met_code}

-- the trails of both paths where a segment begins: each stands where it does in this machine, with
-- its tool
abbrev pub trails_at : CellView → MachineView → Both TrailView
trails_at cell m = record {
  one = trail_at cell One (tool_in_force m.paths.one) m.paths.one.path.position;
  two = trail_at cell Two (tool_in_force m.paths.two) m.paths.two.path.position;
}

-- the trails with a turn of this path more
abbrev pub trails_with : CellView → Both TrailView → Path → Turn → Both TrailView
trails_with cell trails of turn = record {
  one = trail_along cell One trails.one (moves_made_by One (record { path = of; turn = turn }));
  two = trail_along cell Two trails.two (moves_made_by Two (record { path = of; turn = turn }));
}

-- what is hit in the segment that goes on, so far
abbrev pub trails_finding : CellView → Option ℕ → Both TrailView → Finding
trails_finding cell met trails = record { met = met; hit = judged cell trails.one.stretches trails.two.stretches }

-- what is hit in the segments that have ended; the code of the last meeting, and the trails since
pub record FoundView : Type 0 where
  -- what is hit in the segments that have ended
  pub list : List Finding
  -- the code of the last meeting
  pub met : Option ℕ
  -- the trails since
  pub trails : Both TrailView

-- what is kept after a record that led to this machine by this turn: a meeting ends the segment,
-- and any other record adds the moves of its turn
abbrev pub found_with : CellView → Entry → Turn → MachineView → FoundView → FoundView
found_with cell e turn m k =
    if is_meeting e.kind
    then record { list = k.list ++ trails_finding cell k.met k.trails ∷ []; met = met_code turn; trails = trails_at cell m }
    else record { list = k.list; met = k.met; trails = trails_with cell k.trails e.path turn }

-- what is hit in all segments of a history, if this is kept at this machine and these records are
-- left
abbrev pub findings_from : Tapes → CellView → MachineView → FoundView → List Entry → List Finding
findings_from tapes cell m k [] = k.list ++ trails_finding cell k.met k.trails ∷ []
findings_from tapes cell m k (e ∷ entries) =
    findings_from tapes cell (behind_entry tapes e m) (found_with cell e (turn_of_entry tapes e m) (behind_entry tapes e m) k) entries
