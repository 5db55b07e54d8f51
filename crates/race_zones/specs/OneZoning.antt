-- What it means that all runs of a pair that both paths finish have the same segments between their
-- meetings, and so the same zones and hits.
use Rattle.std.specs.Prelude.{◌≡◌, List, [], ◌∷◌, None}
use Rattle.cell_settings.specs.declared.settings.Settings.{Settings}
use Rattle.run_records.specs.Entries.{Entry, edit_of}
use Rattle.tape_flow.specs.declared.flow.Flow.{Flow}
use Rattle.two_path.specs.Machine.{MachineView}
use Rattle.two_path.specs.Turns.{Tapes, tapes_of}
use Rattle.two_path.specs.Histories.{fold, IsLegal}
use Rattle.race_order.specs.Agreement.{AreDone}
use Rattle.race_report.specs.Outcomes.{opening_of}
use Rattle.zone_cell.specs.Zones.{ZonesView}
use Rattle.zone_check.specs.Laps.{laps_of, findings_of_history}
use Rattle.zone_check.specs.Segments.{zones_of_history}
use Rattle.zone_moves.specs.Stretches.{CellView}

-- none of these records is an operator's edit
abbrev pub HasNoEdit : List Entry → Type 0
HasNoEdit [] = Unit {0}
HasNoEdit (e ∷ entries) = (edit_of e.kind ≡ None) × HasNoEdit entries

-- the records of a run from this machine on that nobody edited, and that both paths finished
pub record IsFinishedRun (tapes : Tapes) (start : MachineView) (entries : List Entry) : Type 0 where
  -- each record is legal behind those before it
  pub legal : IsLegal tapes start entries
  -- none is an edit
  pub unedited : HasNoEdit entries
  -- behind them both paths have ended
  pub done : AreDone (fold tapes start entries)

-- two histories have the same segments, so the same is hit in them, and they have the same zones,
-- whatever zones are asked for
pub record HaveOneZoning (tapes : Tapes) (start : MachineView) (one other : List Entry) : Type 0 where
  -- the same meetings, and between two of them the same moves of each path from the same place with
  -- the same tool
  pub laps : laps_of tapes start one ≡ laps_of tapes start other
  -- move by move the same is hit
  pub findings : (cell : CellView) → findings_of_history tapes start cell one ≡ findings_of_history tapes start cell other
  -- the zones of whole segments are the same
  pub zones : (zones : ZonesView) → zones_of_history tapes start zones one ≡ zones_of_history tapes start zones other

-- any two runs of a pair that nobody edited, and that both paths finished, have one zoning
abbrev pub HasOneZoning : Settings → Flow → Flow → Type 0
HasOneZoning settings left right =
    (one other : List Entry)
    → IsFinishedRun (tapes_of left right) (opening_of settings left right) one
    → IsFinishedRun (tapes_of left right) (opening_of settings left right) other
    → HaveOneZoning (tapes_of left right) (opening_of settings left right) one other
