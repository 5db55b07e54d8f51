-- For the proof of `Table::from_recovered` (src/table.rt): what a recovery found makes a table,
-- whose journal is that of the recovery.
use Rattle.run_table.specs.declared.resting.Resting.{Resting}
use Rattle.std.proofs.Common.{◌≡◌, length, sym, ap, subst, ◌∙◌, Option, Bool}
use Rattle.nc_number.specs.declared.path.Path.TheVariants.{One, Two}
use Rattle.nc_outside.specs.declared.halt.Halt.{Halt}
use Rattle.path_state.specs.Opening.{opening_path}
use Rattle.run_table.specs.Recording.{RecordingView, IsJournaled}
use Rattle.run_table.specs.Kept.{tapes_in, IsTable}
use Rattle.nc_number.specs.declared.both.Both.{Both}
use Rattle.run_table.specs.Begun.{reason_in}
use Rattle.run_table.proofs.TablesBegin.{recovered_is, recovered_parts, all_held}
use Rattle.run_table.proofs.table.Table.from_recovered.Goals.{in-Some, in-None}
use Rattle.run_table.proofs.table.Table.from_recovered.Goals as goal

pub invariant_of-result : goal.invariant_of-result
invariant_of-result g c =
    let d = g.D.Disk.state in
    let v = c.args.verified in
    let reason : c.match-alarm.halt ≡ reason_in c.args.machine.machine.alarm =
    elim c.match-alarm.branch [
      | in-Some w ↦ w.halt-is ∙ ap reason_in (sym w.in-Some.is ∙ c.alarm.ensures)
      | in-None w ↦ w.halt-is ∙ ap reason_in (sym w.in-None.is ∙ c.alarm.ensures)
    ] in
    let keeps = c.each_event_keeps_the_history.ensures (tapes_in v) (opening_path c.args.verified.left c.args.verified.settings One) (opening_path c.args.verified.right c.args.verified.settings Two) in
    subst (λ (h : Option Halt). IsTable d (record { verified = c.args.verified; machine = c.args.machine.machine; turns = c.args.machine.room; recording = c.over.result; halt = h; budget = 0; resting = c.none_resting.result })) (sym reason)
    (subst (λ (r : RecordingView g.row.D.Denot). IsTable d (record { verified = c.args.verified; machine = c.args.machine.machine; turns = c.args.machine.room; recording = r; halt = reason_in c.args.machine.machine.alarm; budget = 0; resting = c.none_resting.result })) (sym c.over.ensures)
    (subst (λ (o : Both Resting). IsTable d (record {
      verified = c.args.verified;
      machine = c.args.machine.machine;
      turns = c.args.machine.room;
      recording = record { history = c.args.entries.items; room = c.args.entries.room; flushed = length c.args.entries.items; log = c.args.journal };
      halt = reason_in c.args.machine.machine.alarm;
      budget = 0;
      resting = o;
    })) (sym c.none_resting.ensures)
    (recovered_is d c.args.verified c.args.machine c.args.entries c.args.journal keeps c.a_held_journal_leaves_its_records.ensures c.requires)))

pub returns-clause-table : goal.returns-clause-table
returns-clause-table g c =
    let reason : c.match-alarm.halt ≡ reason_in c.args.machine.machine.alarm =
    elim c.match-alarm.branch [
      | in-Some w ↦ w.halt-is ∙ ap reason_in (sym w.in-Some.is ∙ c.alarm.ensures)
      | in-None w ↦ w.halt-is ∙ ap reason_in (sym w.in-None.is ∙ c.alarm.ensures)
    ] in
    recovered_parts c.args.verified c.args.machine c.args.entries c.args.journal c.over.result c.match-alarm.halt c.none_resting.result
    c.over.ensures reason c.none_resting.ensures

pub returns-clause-journal : goal.returns-clause-journal
returns-clause-journal g c = λ header holds.
    subst (λ (r : RecordingView g.row.D.Denot). IsJournaled g.D.Disk.state header r) (sym c.over.ensures)
    (all_held g.D.Disk.state header c.args.entries.items c.args.entries.room c.args.journal c.a_held_journal_leaves_its_records.ensures holds)
