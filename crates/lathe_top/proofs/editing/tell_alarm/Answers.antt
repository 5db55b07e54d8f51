-- For the proof of `tell_alarm` (src/editing.rt): the report of a run that an alarm stopped is
-- told, with the status of the alarm.
use Rattle.std.proofs.Common.{subst}
use Rattle.nc_outside.specs.declared.reason.Reason.{Reason}
use Rattle.lathe_calls.specs.Answers.{Ends, IsJust, tells}
use Rattle.lathe_calls.specs.Reported.{report_of}
use Rattle.lathe_calls.specs.Statuses.{reason_status}
use Rattle.lathe_top.proofs.editing.tell_alarm.Goals as goal

pub returns-clause-told : goal.returns-clause-told
returns-clause-told g c =
    let found = c.args.found in
    subst
    (λ (r : Reason). Ends (IsJust (tells (reason_status r) (report_of found.verified found.entries.items r))) (g.K.Sink.state c.args.out.now)
    (g.K.Sink.state c.tell_end-status.new.out) c.tell_end-status.result)
    c.reason_of-reason.ensures c.tell_end-status.ensures
