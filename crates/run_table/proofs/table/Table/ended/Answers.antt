-- For the proof of `Table::ended` (src/table.rt): why the run ended, with its records flushed or a
-- fault of the disk in that, or that it goes on; a table that the disk stopped stays as it is.
use Rattle.std.proofs.Common.{rules, ◌≡◌, ◌≢◌, false, length, refl, sym, ◌∙◌, ap, subst, append-nil, None, Some}
use Rattle.std.specs.Prelude.{IsTrue}
use Rattle.nc_outside.specs.declared.halt.Halt.TheVariants as halt
use Rattle.nc_outside.specs.declared.reason.Reason.TheVariants as cause
use Rattle.run_table.specs.Kept.{TableView}
use Rattle.run_table.specs.Ending.{end_ahead, Asks}
use Rattle.run_table.specs.Ending.Asks.{idle, written, failed}
use Rattle.run_table.proofs.EndsTold.{open_live, some_pend, reason_flushed, flushed_table}
use Rattle.run_table.proofs.TablesKept.{table_of}
use Rattle.run_table.proofs.Then.{since_none}
use Rattle.run_table.proofs.table.Table.ended.Goals as goal

pub returns-in-Some-Disk-clause-since : goal.returns-in-Some-Disk-clause-since
returns-in-Some-Disk-clause-since g c = since_none g.D.Disk.state c.args.self.now g.met.D.Disk.coherent

pub returns-in_err-end-clause-since : goal.returns-in_err-end-clause-since
returns-in_err-end-clause-since g c = since_none g.D.Disk.state c.args.self.now g.met.D.Disk.coherent

pub returns-in_err-end-clause-asks : goal.returns-in_err-end-clause-asks
returns-in_err-end-clause-asks g c =
    let i = c.self.inside in
    let free : i.halt ≢ Some halt.Disk = search rules in
    let same : i.halt ≡ c.args.self.now.halt = ap (λ (t : TableView g.row.D.Denot). t.halt) c.self.view_is in
    let none : end_ahead c.args.self.now ≡ None = search rules in
    let gone : c.from_residual.result ≡ None = search rules in
    idle (λ is. free (same ∙ is)) none gone refl

pub flush-requires : goal.flush-requires
flush-requires g c =
    let i = c.self.inside in
    let free : i.halt ≢ Some halt.Disk = search rules in
    open_live i.machine.machine i.recording i.halt c.self.invariant.reason free

pub invariant_of-self : goal.invariant_of-self
invariant_of-self g c =
    let i = c.self.inside in
    let free : i.halt ≢ Some halt.Disk = search rules in
    let live : IsTrue c.flush.new.self.log.file.live = search rules in
    let history = c.flush.ensures.records.follows.history ∙ append-nil i.recording.history in
    flushed_table g.D.Disk.state i.verified i.machine i.recording c.flush.new.self i.halt i.halt i.budget i.resting c.self.invariant c.flush.ensures.records
    (reason_flushed i.machine.machine i.recording c.flush.new.self i.halt c.self.invariant.reason free live (c.in-Ok.ensures.flushed.flushed ∙ ap length (sym history))) (λ calm. calm)

pub returns-in-Ok-clause-asks : goal.returns-in-Ok-clause-asks
returns-in-Ok-clause-asks g c =
    let i = c.self.inside in
    let old = table_of i.verified i.machine i.recording i.halt i.budget i.resting in
    let new = table_of i.verified i.machine c.flush.new.self i.halt i.budget i.resting in
    let free : i.halt ≢ Some halt.Disk = search rules in
    let ahead : end_ahead old ≡ Some c.in_ok-end.end =
    subst (λ (t : TableView g.row.D.Denot). end_ahead t ≡ Some c.in_ok-end.end) (sym c.self.view_is) (search rules) in
    let history = c.flush.ensures.records.follows.history ∙ append-nil i.recording.history in
    let live : IsTrue c.flush.new.self.log.file.live = search rules in
    subst (λ (t : TableView g.row.D.Denot). Asks t new (Some c.in_ok-end.end)) c.self.view_is
    (written free c.in_ok-end.end ahead refl refl history live (c.in-Ok.ensures.flushed.flushed ∙ ap length (sym history)) c.flush.ensures.flushed.idle)

pub returns-in-Err-clause-asks : goal.returns-in-Err-clause-asks
returns-in-Err-clause-asks g c =
    let i = c.self.inside in
    let new = table_of i.verified i.machine c.flush.new.self (Some halt.Disk) i.budget i.resting in
    let free : i.halt ≢ Some halt.Disk = search rules in
    let history = c.flush.ensures.records.follows.history ∙ append-nil i.recording.history in
    let dead : c.flush.new.self.log.file.live ≡ false = search rules in
    let live : IsTrue i.recording.log.file.live = open_live i.machine.machine i.recording i.halt c.self.invariant.reason free in
    subst (λ (t : TableView g.row.D.Denot). Asks t new (Some cause.DiskFault)) c.self.view_is
    (failed free (some_pend i.recording c.flush.new.self c.flush.ensures.flushed.within c.flush.ensures.flushed.idle live dead) refl refl history dead c.in-Err.ensures.flushed.stays)
