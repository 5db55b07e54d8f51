-- For the proof of `work_path` (src/jobs.rt): the pass that comes back is of the table and path of
-- that of the job, and what its steps told was sent.
use Rattle.std.proofs.Common.{ap, ◌∙◌, sym, subst, Some}
use Rattle.path_worker.specs.Work.{Works}
use Rattle.seat_table.specs.Passes.{Pass}
use Rattle.lane_pair.proofs.JobsDone.{sent_told}
use Rattle.lane_pair.proofs.jobs.work_path.Goals as goal

pub returns : goal.returns
returns g c =
    let job = c.args.job in
    let begun = c.stepper-stepper.ensures in
    let back = c.into_pass-pass.ensures.pass in
    let w = c.run_path-why.ensures.work in
    record {
      table_is = ap (λ p. p.table) back ∙ (ap (λ o. o.0.table_id) c.run_path-why.ensures.origin ∙ ap (λ p. p.table) begun);
      path_is = ap (λ p. p.path) back ∙ (ap (λ o. o.1) c.run_path-why.ensures.origin ∙ (ap (λ p. p.path) begun ∙ ap (λ p. p.path) job.fresh));
      line_is = c.run_path-why.ensures.line;
      sent = sent_told job.path w.0 c.run_path-why.result job.line.items c.run_path-why.new.line.items c.stepper-stepper.result.calls
          c.into_pass-pass.result.calls c.into_pass-pass.result.told job.unsent (ap (λ p. p.calls) (begun ∙ job.fresh))
          (subst (λ (p : Pass). Works job.path (Some c.stepper-stepper.result.calls) (Some p.calls) job.line.items c.run_path-why.new.line.items w.0) (sym back) w.1) w.2
          c.into_pass-pass.ensures.told;
    }
