-- For the proof of `resume_found` (src/resuming.rt): a run that is over is only reported; another
-- goes on with both turrets.
use Rattle.std.proofs.Common.{refl, sym, subst, ◌∙◌, ◌≡◌, false}
use Rattle.run_table.specs.Kept.{TableView}
use Rattle.run_table.specs.Running.{MayRun}
use Rattle.nc_restart.specs.Pair.{machine_behind}
use Rattle.lathe_calls.specs.Answers.{Ends}
use Rattle.lathe_calls.specs.Reported.{report_of}
use Rattle.lathe_looks.specs.Standing.{is_over}
use Rattle.lathe_calls.proofs.Ended.{ends_just}
use Rattle.nc_number.specs.Both.{both_of}
use Rattle.lathe_top.specs.Going.{IsReport, report, standing_run}
use Rattle.lathe_top.specs.Held.{lathe_left}
use Rattle.lathe_top.specs.Lathe.{LatheState, lathe_with}
use Rattle.lathe_top.proofs.RunsFound.{none_or_alarm, keeps_there, over_there, stays_there}
use Rattle.lathe_top.proofs.resuming.resume_found.Goals as goal

pub returns-then-is_over : goal.returns-then-is_over
returns-then-is_over g c =
    let state = g.D.Disk.state in
    let turret = g.T.Turret.state in
    let found = c.args.found in
    let run = standing_run found.header found.verified found.entries.items in
    let turrets = both_of turret c.args.turrets in
    let d : LatheState = lathe_with (state found.journal.file.disk) turrets in
    let leaves = c.a_held_journal_leaves_its_records.ensures in
    let disks = g.met.D.Disk g.world.𝓛 g.world.𝓜 g.world.𝓡 ((λ s x. x), (λ x. x), (λ x. x), λ x. x) in
    rw c.at_rest.ensures
    (subst
    (λ disk. Ends (IsReport c.args.limit report_of run d (lathe_with (state disk) turrets)) (g.K.Sink.state c.args.out.now)
    (g.K.Sink.state c.tell_end-status.new.out) c.tell_end-status.result)
    (sym c.into_disk-disk.ensures)
    (ends_just _ _
    (report found.entries.items _
    (stays_there state disks.coherent leaves c.args.limit found.header found.verified found.machine.machine found.entries.items
    found.journal c.requires turrets)
    (over_there state disks.coherent leaves c.args.limit found.header found.verified found.machine.machine found.entries.items
    found.journal c.requires turrets c.reason_of-reason.result (sym c.is_over.ensures ∙ c.if-is_over.true) c.reason_of-reason.ensures)
    (keeps_there state disks.coherent leaves c.args.limit found.header found.verified found.machine.machine found.entries.items
    found.journal c.requires turrets))
    c.tell_end-status.ensures))

pub go_on-requires-clause-may : goal.go_on-requires-clause-may
go_on-requires-clause-may g c = λ κs below.
    subst (λ (t : TableView g.row.D.Denot). MayRun t) (sym c.from_recovered.ensures.table)
    (record { all = refl; halt = none_or_alarm c.args.found.machine.machine.alarm })

pub go_on-requires-clause-behind : goal.go_on-requires-clause-behind
go_on-requires-clause-behind g c = λ κs below.
    subst (λ (t : TableView g.row.D.Denot). t.machine ≡ machine_behind t.verified t.recording.history) (sym c.from_recovered.ensures.table)
    c.requires.behind.folds

pub go_on-requires-clause-unended : goal.go_on-requires-clause-unended
go_on-requires-clause-unended g c = λ κs below.
    subst (λ (t : TableView g.row.D.Denot). is_over t.machine ≡ false) (sym c.from_recovered.ensures.table)
    (sym c.is_over.ensures ∙ c.if-is_over.false)

pub returns : goal.returns
returns g c =
    let state = g.D.Disk.state in
    let turret = g.T.Turret.state in
    let header = c.args.found.header in
    let turrets = both_of turret c.args.turrets in
    let after : LatheState = lathe_left state turret c.go_on.result in
    subst
    (λ (t : TableView g.row.D.Denot). Ends (IsReport c.args.limit report_of (standing_run header t.verified t.recording.history)
    (lathe_with (state t.recording.log.file.disk) turrets) after) (g.K.Sink.state c.args.out.now) (g.K.Sink.state c.go_on.new.out)
    c.go_on.result.status)
    c.from_recovered.ensures.table (c.go_on.ensures header (c.from_recovered.ensures.journal header c.requires.holds))
