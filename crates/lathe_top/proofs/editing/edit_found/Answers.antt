-- For the proof of `edit_found` (src/editing.rt): the edits are made in the run that was found; or
-- an alarm or a full journal refuses them.
use Rattle.std.proofs.Common.{rules, ◌≡◌, ◌+◌, true, false, nat_le, List, length, refl, sym, subst}
use Rattle.std.specs.Prelude.{codes, is_some}
use Rattle.edit_texts.specs.declared.edit_list.PathEdit.{PathEdit}
use Rattle.lathe_calls.specs.Answers.{Ends, IsJust, tells}
use Rattle.lathe_calls.specs.Reported.{report_of}
use Rattle.lathe_calls.specs.Statuses as exit
use Rattle.lathe_looks.specs.Standing.{reason_of}
use Rattle.lathe_calls.specs.Statuses.{reason_status}
use Rattle.lathe_calls.proofs.Ended.{ends_just}
use Rattle.lathe_top.specs.Edited.{IsEditedRun, told_of_writing}
use Rattle.lathe_top.proofs.EditsMade.{alarm_due, full_due, made_due, none_of}
use Rattle.lathe_top.proofs.editing.edit_found.Goals as goal

pub returns-then-is_some : goal.returns-then-is_some
returns-then-is_some g c = λ before recovers.
    let state = g.D.Disk.state in
    let found = c.args.found in
    let some : is_some found.machine.machine.alarm ≡ true = search rules in
    ends_just _ _
    (subst (λ (d : g.row.D.Denot). IsEditedRun c.args.edits.now (state before) (state d) (tells (reason_status (reason_of found.machine.machine)) (report_of found.verified found.entries.items (reason_of found.machine.machine)))) (sym c.tell_alarm.ensures.disk)
    (alarm_due state g.met.D.Disk.coherent (state before) found.header found.verified found.machine.machine found.entries.items found.journal
    c.args.edits.now c.requires recovers found.machine.machine.alarm refl some))
    c.tell_alarm.ensures.told

pub returns-then-not-has_room : goal.returns-then-not-has_room
returns-then-not-has_room g c = λ before recovers.
    let state = g.D.Disk.state in
    let found = c.args.found in
    let calm : is_some found.machine.machine.alarm ≡ false = search rules in
    let many : nat_le (length found.entries.items + length c.args.edits.now) found.verified.settings.records ≡ false = search rules in
    ends_just _ _
    (subst (λ (d : g.row.D.Denot). IsEditedRun c.args.edits.now (state before) (state d) (tells exit.full (codes "full\n"))) (sym c.tell_full.ensures.disk)
    (full_due state g.met.D.Disk.coherent (state before) found.header found.verified found.machine.machine found.entries.items found.journal
    c.args.edits.now c.requires recovers (none_of found.machine.machine.alarm calm) many))
    c.tell_full.ensures.told

pub make_edits-disk-requires-clause-calm : goal.make_edits-disk-requires-clause-calm
make_edits-disk-requires-clause-calm g c =
    let calm : is_some c.args.found.machine.machine.alarm ≡ false = search rules in none_of c.args.found.machine.machine.alarm calm

pub returns : goal.returns
returns g c = λ before recovers.
    let state = g.D.Disk.state in
    let found = c.args.found in
    let done = c.make_edits-disk.result in
    let calm : is_some found.machine.machine.alarm ≡ false = search rules in
    ends_just _ _
    (made_due state g.met.D.Disk.coherent (state before) found.header found.verified found.machine.machine found.entries.items found.journal
    c.args.edits.now c.requires recovers done (none_of found.machine.machine.alarm calm) c.make_edits-disk.ensures.history
    c.make_edits-disk.ensures.made done.result refl)
    (subst
    (λ (l : List PathEdit). Ends (IsJust (told_of_writing (length l) done.result)) (g.K.Sink.state c.args.out.now) (g.K.Sink.state c.tell_made.new.out)
    c.tell_made.result)
    c.as_slice.ensures.edits c.tell_made.ensures)
