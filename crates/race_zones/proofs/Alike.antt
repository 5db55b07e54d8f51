-- Finished runs of a pair without races have the same segments, and so the same zones: for the law of
-- src/law.rt.
use Rattle.std.proofs.Common.{◌≡◌, ℕ, Bool, true, false, List, [], ◌∷◌, ◌++◌, Option, None, map, refl, ap, sym, subst, ◌∙◌}
use Rattle.nc_number.specs.declared.path.Path.{Path}
use Rattle.nc_number.specs.declared.path.Path.TheVariants.{One, Two}
use Rattle.nc_outside.specs.declared.lined_move.LinedMove.{LinedMove}
use Rattle.cell_settings.specs.declared.settings.Settings.{Settings}
use Rattle.run_records.specs.Entries.{Entry, is_meeting}
use Rattle.tape_flow.specs.declared.flow.Flow.{Flow}
use Rattle.path_state.specs.Opening.{opening_path}
use Rattle.two_path.specs.Machine.{MachineView, without_reads}
use Rattle.two_path.specs.Turns.{Tapes, tapes_of}
use Rattle.two_path.specs.Histories.{run, history, turns_of, fold, HistoriesAreRuns}
use Rattle.two_path.specs.Again.{turn_of_entry}
use Rattle.two_path.proofs.Lawful.{opening_sound}
use Rattle.race_order.specs.Agreement.{Deed, deeds_by, AreDone}
use Rattle.race_report.specs.Outcomes.{opening_of, HasOneOutcome}
use Rattle.zone_cell.specs.Zones.{ZonesView}
use Rattle.zone_check.specs.Laps.{Lap, met_code, laps_from, laps_of, lap_of, finding_of}
use Rattle.zone_check.specs.Segments.{Segment, segments_from, segments_of, zone_of}
use Rattle.race_zones.proofs.Unedited.{of_turns}
use Rattle.race_zones.proofs.DeedsLap.{laps_by, laps_of_turns}
use Rattle.race_zones.specs.OneZoning.{HasNoEdit, IsFinishedRun, HasOneZoning}

-- a segment without the lines of its moves
abbrev segment_of_lap : Lap → Segment
segment_of_lap lap = record {
  left_at = lap.left_at;
  left = map (λ (made : LinedMove). made.what) lap.left;
  right_at = lap.right_at;
  right = map (λ (made : LinedMove). made.what) lap.right;
}

-- the segments of a history are those with lines, without them
segments_are : (tapes : Tapes) (met : Option ℕ) (m : MachineView) (so_far entries : List Entry)
    → segments_from tapes m so_far entries ≡ map segment_of_lap (laps_from tapes met m so_far entries)
segments_are tapes met m so_far [] = refl
segments_are tapes met m so_far (e ∷ entries) =
    go (is_meeting e.kind) refl
    (segments_are tapes (met_code (turn_of_entry tapes e (fold tapes m so_far))) (fold tapes m (so_far ++ e ∷ [])) [] entries)
    (segments_are tapes met m (so_far ++ e ∷ []) entries)
  where
    go : (b : Bool) → is_meeting e.kind ≡ b
        → segments_from tapes (fold tapes m (so_far ++ e ∷ [])) [] entries
        ≡ map segment_of_lap (laps_from tapes (met_code (turn_of_entry tapes e (fold tapes m so_far))) (fold tapes m (so_far ++ e ∷ [])) [] entries)
        → segments_from tapes m (so_far ++ e ∷ []) entries ≡ map segment_of_lap (laps_from tapes met m (so_far ++ e ∷ []) entries)
        → segments_from tapes m so_far (e ∷ entries) ≡ map segment_of_lap (laps_from tapes met m so_far (e ∷ entries))
    go true is anew on = rw is (ap (λ more. segment_of_lap (lap_of tapes met m so_far) ∷ more) anew)
    go false is anew on = rw is on

-- the segments of a finished run are those of turns after which both paths have finished
record IsOfFinishedTurns (tapes : Tapes) (start : MachineView) (entries : List Entry) : Type 0 where
  turns : List Path
  done : AreDone (run tapes start (turns_of turns))
  laps : laps_of tapes start entries
      ≡ laps_by None start.paths.one.path start.paths.two.path [] [] (deeds_by tapes One start turns) (deeds_by tapes Two start turns)

-- so it is with each finished run from an opening on
of_finished_turns : (settings : Settings) (left right : Flow) → HistoriesAreRuns (tapes_of left right) (opening_of settings left right)
    → (entries : List Entry) → IsFinishedRun (tapes_of left right) (opening_of settings left right) entries
    → IsOfFinishedTurns (tapes_of left right) (opening_of settings left right) entries
of_finished_turns settings left right runs entries finished =
    let tapes = tapes_of left right in
    let start = opening_of settings left right in
    let ran = runs.history entries finished.legal in
    let by = of_turns tapes start ran.events (subst HasNoEdit (sym ran.records) finished.unedited) in
    let leads : without_reads (run tapes start (turns_of by.turns)) ≡ fold tapes start entries = ap without_reads by.leads ∙ ran.reaches in
    let records : history tapes start (turns_of by.turns) ≡ entries = by.records ∙ ran.records in
    record {
      turns = by.turns;
      done = record {
        first = ap (λ (m : MachineView). m.paths.one.finished) leads ∙ finished.done.first;
        second = ap (λ (m : MachineView). m.paths.two.finished) leads ∙ finished.done.second;
      };
      laps = ap (laps_of tapes start) (sym records)
          ∙ laps_of_turns tapes start by.turns (opening_sound tapes (opening_path left settings One) (opening_path right settings Two)) refl;
    }

-- finished runs of a pair that comes to one outcome have one zoning
pub one_zoning : (settings : Settings) (left right : Flow) → HistoriesAreRuns (tapes_of left right) (opening_of settings left right)
    → HasOneOutcome settings left right → HasOneZoning settings left right
one_zoning settings left right runs outcome one_run other finished also =
    let tapes = tapes_of left right in
    let start = opening_of settings left right in
    let a = of_finished_turns settings left right runs one_run finished in
    let b = of_finished_turns settings left right runs other also in
    let same = outcome a.turns b.turns a.done b.done in
    let ends = deeds_by tapes Two start in
    let laps : laps_of tapes start one_run ≡ laps_of tapes start other =
    a.laps
    ∙ (ap (λ x. laps_by None start.paths.one.path start.paths.two.path [] [] x (ends a.turns)) (same.deeds One)
    ∙ (ap (λ x. laps_by None start.paths.one.path start.paths.two.path [] [] (deeds_by tapes One start b.turns) x) (same.deeds Two) ∙ sym b.laps)) in
    record {
      laps = laps;
      findings = λ cell. ap (map (finding_of cell)) laps;
      zones = λ zones.
          ap (map (zone_of zones))
          (segments_are tapes None start [] one_run ∙ (ap (map segment_of_lap) laps ∙ sym (segments_are tapes None start [] other)));
    }
