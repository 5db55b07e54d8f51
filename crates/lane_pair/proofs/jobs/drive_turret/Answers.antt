-- For the proof of `drive_turret` (src/jobs.rt): the pass that comes back is of the table and path
-- of that of the job, and the turret served what was taken.
use Rattle.std.proofs.Common.{ap, ◌∙◌, sym, subst, Some}
use Rattle.drive_line.specs.Driving.{has_failed, Serves}
use Rattle.drive_line.specs.Line.{told_among}
use Rattle.nc_outside.specs.Calls.{IsCalled}
use Rattle.nc_outside.specs.Received.{TurretState}
use Rattle.path_worker.specs.Drive.{halts_at}
use Rattle.seat_table.specs.Passes.{Halter}
use Rattle.lane_pair.proofs.JobsDone.{halted_so}
use Rattle.lane_pair.proofs.jobs.drive_turret.Goals as goal

pub returns : goal.returns
returns g c =
    let job = c.args.job in
    let begun = c.halter-halter.ensures in
    let back = c.into_pass-pass.ensures.pass in
    let driven = c.run_drive.new.driven in
    record {
      table_is = ap (λ p. p.table) back ∙ (ap (λ o. o.0.table_id) c.run_drive.ensures.origin ∙ ap (λ p. p.table) begun);
      path_is = ap (λ p. p.path) back ∙ (ap (λ o. o.1) c.run_drive.ensures.origin ∙ (ap (λ p. p.path) begun ∙ ap (λ p. p.path) job.fresh));
      line_is = c.run_drive.ensures.line.0;
      ended = c.run_drive.ensures.line.1;
      serves = subst (λ (s : TurretState). Serves (told_among c.run_drive.new.line.items) s driven) (ap (λ d. d.state) c.new-driven.ensures) c.run_drive.ensures.serves;
      halted = halted_so job.path (has_failed driven.phase) c.halter-halter.result.calls c.into_pass-pass.result.calls c.into_pass-pass.result.stop (ap (λ p. p.calls) (begun ∙ job.fresh))
          (subst (λ (p : Halter). IsCalled (Some c.halter-halter.result.calls) (Some p.calls) (halts_at job.path (has_failed driven.phase))) (sym back) c.run_drive.ensures.halted) c.into_pass-pass.ensures.told;
    }
