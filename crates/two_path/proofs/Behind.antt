-- No legal history leads to paths that can't go on, if no run does: for the law
-- `no_legal_history_is_stuck` (src/laws.rt).
use Rattle.std.proofs.Common.{◌≡◌, List, None, refl, sym, ap, subst, ◌∙◌}
use Rattle.nc_number.specs.declared.path.Path.{Path}
use Rattle.nc_number.specs.declared.path.Path.TheVariants.{One, Two}
use Rattle.nc_number.specs.Both.{of_path}
use Rattle.run_records.specs.Entries.{Entry}
use Rattle.path_state.specs.View.{PathView}
use Rattle.two_path.specs.Machine.{MachineView, own_first, without_reads, opening}
use Rattle.two_path.specs.Turns.{Tapes}
use Rattle.two_path.specs.Histories.{Event, run, fold, IsLegal}
use Rattle.two_path.specs.Stuck.{IsCrossed, IsFree}
use Rattle.two_path.proofs.Scheduled.{run_of, lawful_of, fold_bare}
use Rattle.two_path.proofs.Kept.{fold_kept}

-- if the machine is free (specs/Stuck) behind every list of events, so is the fold of each legal
-- history
pub fold_free : (tapes : Tapes) (first second : PathView) → ((es : List Event) → IsFree tapes (run tapes (opening first second) es))
    → (rs : List Entry) → IsLegal tapes (opening first second) rs → IsFree tapes (fold tapes (opening first second) rs)
fold_free tapes first second free rs legal =
    let x = run_of tapes first second rs legal in
    record {
      stuck = λ s. (calmly s.calm).stuck s;
      crossed = crossed;
      alarm = λ alarm e. (free x.events).alarm alarm (ap (λ (m : MachineView). m.alarm) (x.reaches) ∙ e);
    }
  where
    calmly : (fold tapes (opening first second) rs).alarm ≡ None → IsFree tapes (fold tapes (opening first second) rs)
    calmly calm =
        let n : MachineView = fold tapes (opening first second) rs in
        let is : without_reads n ≡ n = fold_bare tapes (opening first second) rs refl in
        let x = lawful_of tapes first second rs n legal (sym is) calm (fold_kept tapes first second rs legal).lawful in
        subst (IsFree tapes) (x.reaches) (free x.events)

    crossed : (path : Path) → IsCrossed (of_path tapes path) (own_first path (fold tapes (opening first second) rs)) → ⊥
    crossed One x = (calmly x.calm).crossed One x
    crossed Two x = (calmly x.calm).crossed Two x
