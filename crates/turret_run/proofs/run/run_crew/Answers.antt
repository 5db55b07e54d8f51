-- For the proof of `run_crew` (src/run.rt): the run ended by the cause that the last turns found,
-- and each turret got what is due but what it missed; or it did not begin.
use Rattle.std.proofs.Common.{ap, sym, ◌∙◌, subst, refl}
use Rattle.nc_number.specs.declared.both.Both.{Both}
use Rattle.nc_number.specs.declared.path.Path.{Path}
use Rattle.nc_number.specs.declared.path.Path.TheVariants.{One, Two}
use Rattle.nc_number.specs.Both.{both_of, of_path}
use Rattle.nc_outside.specs.Received.{TurretState}
use Rattle.run_table.specs.Holding.{MayHold, without_turret}
use Rattle.turret_run.specs.Rests.{ArePlaced, HasCause, first_failed, who_failed}
use Rattle.drive_line.specs.Driving.{has_failed}
use Rattle.turret_run.specs.Runs.{due_to_turret}
use Rattle.turret_run.proofs.TurretsGet.{GotBy}
use Rattle.turret_run.proofs.TurretsRun.{for_each, none_since, taken_since, got, none_beside, run_ends, cause_on, failed_on, placed_only, calm_is_no_disk, calm_stays}
use Rattle.turret_run.proofs.run.run_crew.Goals as goal

pub new-requires : goal.new-requires
new-requires g c = subst (λ o. MayHold g.D.Disk.state o c.args.table) (sym c.requires.opening) (c.a_table_opens_itself.ensures c.args.table)

pub run_pair-requires : goal.run_pair-requires
run_pair-requires g c = record { fresh = none_since g.O.Opening.opened c.args.table c.new.result c.requires.opening c.new.ensures c.requires.rests }

pub returns-in-Ok : goal.returns-in-Ok
returns-in-Ok g c =
    let state = g.D.Disk.state in
    let opened = g.O.Opening.opened in
    let turret = g.T.Turret.state in
    let t = c.args.table in
    let out = c.into_table in
    let rest = c.give_rest-end in
    let held = rest.new.table in
    let ends = c.tell_ends-end in
    let now = ends.new.turrets in
    let before = rest.new.turrets in
    let is = c.requires.opening in
    let since = taken_since state opened t out.result held is out.ensures.of out.ensures.shown in
    let gets = got state opened t out.result held is out.ensures.of out.ensures.shown out.ensures.taken.resting in
    let gots : (start : Both TurretState) → ArePlaced t.machine start (both_of turret c.args.turrets)
    → (path : Path) → GotBy (of_path (who_failed now) path) (of_path (both_of (λ d. d.missed) now) path) (due_to_turret path t out.result) (of_path start path) (of_path (both_of (λ d. d.state) now) path) =
    λ start placed. for_each (λ path. GotBy (of_path (who_failed now) path) (of_path (both_of (λ d. d.missed) now) path) (due_to_turret path t out.result) (of_path start path) (of_path (both_of (λ d. d.state) now) path))
    (gets One start.one (turret c.args.turrets.one) now.one (placed One) (ends.ensures.one _ (turret c.args.turrets.one) (rest.ensures.one (turret c.args.turrets.one) c.in-Ok.ensures.one)))
    (gets Two start.two (turret c.args.turrets.two) now.two (placed Two) (ends.ensures.two _ (turret c.args.turrets.two) (rest.ensures.two (turret c.args.turrets.two) c.in-Ok.ensures.two))) in
    let cause = subst (λ e. HasCause held (first_failed (who_failed now)) e) (sym ends.ensures.end)
    (cause_on held (first_failed (who_failed before)) (first_failed (who_failed now)) rest.result
    (failed_on (has_failed before.one.phase) (has_failed before.two.phase) (has_failed now.one.phase) (has_failed now.two.phase) ends.ensures.failed.0 ends.ensures.failed.1) rest.ensures.ends) in
    record {
      run = λ start placed. rw (c.let_go.ensures, c.who_missed-missed.ensures) (run_ends state t out.result since held start (both_of (λ d. d.state) now) (who_failed now) (both_of (λ d. d.missed) now)
          (λ end has. c.a_taken_table_ended_so.ensures t out.result held end since (calm_is_no_disk t.halt c.requires.halt) out.ensures.taken has) out.ensures.taken.halt out.ensures.taken.file
          (none_beside state opened t out.result held is out.ensures.of out.ensures.shown out.ensures.again) out.ensures.stands (gots start placed) ends.result cause);
    }

pub returns-in-Err : goal.returns-in-Err
returns-in-Err g c =
    let turret = g.T.Turret.state in
    let t = c.args.table in
    let left = c.in-Err.ensures.err in
    let held = left.0 ∙ c.new.ensures in
    let since = taken_since g.D.Disk.state g.O.Opening.opened t c.into_table-in-Err.result c.in-Err.unrun.table c.requires.opening
    c.into_table-in-Err.ensures.of c.into_table-in-Err.ensures.shown in
    let taken = c.into_table-in-Err.ensures.taken in
    record {
      run = λ start placed. rw (c.unbegun.ensures, left.1) (record {
        same = record {
          verified = taken.verified ∙ ap (λ h. h.verified) held;
          machine = taken.machine ∙ ap (λ h. h.machine) held;
          history = taken.history ∙ ap (λ h. h.history) held;
          flushed = taken.flushed ∙ ap (λ h. h.flushed) held;
          file = taken.file ∙ ap (λ h. h.file) held;
          version = since.recording.version;
          halt = taken.halt ∙ ap (λ h. without_turret h.halt) held ∙ calm_stays t.halt c.requires.halt;
        };
        turrets = placed_only t.machine start (both_of turret c.args.turrets) placed;
        none = refl;
      });
    }
