-- What is due to `edit` if a file gives no edits, and that one answer is due to the edits of a run.
-- DueOnce and the proof of `edit` (src/editing.rt) use it.
use Rattle.std.proofs.Common.{◌≡◌, ◌⊎◌, inl, inr, ℕ, ◌+◌, nat_lt, Bool, true, false, Option, Some, None, List, length, refl, sym, ap, subst, arith, ◌∙◌, length-append}
use Rattle.std.specs.Prelude.{codes}
use Rattle.std.proofs.lemmas.List.{length-map}
use Rattle.nc_moves.specs.declared.alarm.Alarm.{Alarm}
use Rattle.disk_model.specs.Device.{DiskState, Reads, Rose}
use Rattle.edit_texts.specs.declared.edit_list.PathEdit.{PathEdit}
use Rattle.nc_outside.specs.declared.reason.Reason.{Reason}
use Rattle.move_list.specs.Report.{report_text}
use Rattle.nc_number.proofs.Counts.{lt_false, lt_true}
use Rattle.nc_outside.specs.Files.{ShelfState}
use Rattle.run_edits.specs.Made.{record_of, records_of}
use Rattle.run_records.specs.Entries.{Entry}
use Rattle.run_journal.specs.Meaning.{a_run}
use Rattle.two_path.specs.Histories.{fold}
use Rattle.two_path.specs.Machine.{MachineView}
use Rattle.two_path.specs.Turns.{Tapes}
use Rattle.nc_restart.specs.Meaning.{StandsForRun}
use Rattle.nc_restart.specs.Pair.{IsPairOf, IsSamePair, machine_behind, opening_of, tapes_in, texts_of}
use Rattle.lathe_calls.specs.Answers.{Answer, tells, nothing}
use Rattle.lathe_calls.specs.Statuses as exit
use Rattle.lathe_looks.specs.Fetched.{IsOfFiles, not_had, unread, answers}
use Rattle.lathe_looks.specs.Named.{only_text, edits_named}
use Rattle.lathe_looks.specs.Edited as looked
use Rattle.lathe_looks.specs.Edited.{IsUnedited}
use Rattle.lathe_top.specs.Edited.{IsEdited, bad_edits, unread_edits, IsEditOf, alarmed, full, unready, none_asked, made, failed, edited_text}
use Rattle.lathe_top.specs.Kept.{Editing, RestsWhole}
use Rattle.lathe_top.specs.Lathe.{LatheState}
use Rattle.lathe_top.proofs.Agreed.{Agree, agree_nothing}

-- what is told of a text that gives no edits is due to `edit`, if neither the disk nor a turret was
-- called
unedited_text : (old new : LatheState) (text : List ℕ) (answer : Answer) → IsUnedited text answer → RestsWhole old new → IsEdited old new text answer
unedited_text old new text answer (looked.bad_edits is) rests = bad_edits is rests
unedited_text old new text answer looked.unread_edits rests = unread_edits rests

-- what is told of a file that gives no edits is due to `edit`, if neither the disk nor a turret was
-- called
pub unedited_due : (name : List ℕ) (shelf shelf' : ShelfState) (old new : LatheState) (answer : Answer)
    → IsOfFiles only_text (edits_named name) (Unit {0}) IsUnedited shelf shelf' answer → RestsWhole old new
    → IsOfFiles only_text (edits_named name) (RestsWhole old new) (IsEdited old new) shelf shelf' answer
unedited_due name shelf shelf' old new answer (not_had missing none) rests = not_had missing rests
unedited_due name shelf shelf' old new answer (unread some none) rests = unread some rests
unedited_due name shelf shelf' old new answer (answers text had is) rests = answers text had (unedited_text old new (only_text text) answer is rests)

-- what is told by the alarm of a run, and by whether there would be too many records
abbrev told_by : (Alarm → List ℕ) → ℕ → Option Alarm → Bool → Answer
told_by report count (Some alarm) many = tells exit.alarm (report alarm)
told_by report count None true = tells exit.full (codes "full\n")
told_by report count None false = tells exit.done (edited_text count)

-- what is told of edits in a run, unless the disk fails or memory runs out
abbrev told_in : Tapes → MachineView → ℕ → List Entry → List PathEdit → Answer
told_in tapes opening records found edits =
    told_by (λ alarm. report_text tapes opening found (Reason.Alarm alarm)) (length edits) (fold tapes opening found).alarm
    (nat_lt records (length found + length edits))

-- what is told of an editing, unless the disk fails or memory runs out: an alarm, a full journal,
-- or that the edits are made
abbrev told_of : Editing → Answer
told_of e = told_in (tapes_in e.pair) (opening_of e.pair) e.pair.settings.records e.found e.edits

-- what is due to edits depends on the alarm of the machine, and on whether there is room for them
by_alarm : (e : Editing) (alarm : Option Alarm) (many : Bool) → (machine_behind e.pair e.found).alarm ≡ alarm
    → nat_lt e.pair.settings.records (length e.found + length e.edits) ≡ many
    → told_of e ≡ told_by (λ a. report_text (tapes_in e.pair) (opening_of e.pair) e.found (Reason.Alarm a)) (length e.edits) alarm many
by_alarm e alarm many is so =
    λ i. told_by (λ a. report_text (tapes_in e.pair) (opening_of e.pair) e.found (Reason.Alarm a)) (length e.edits) (is i) (so i)

-- edits of a run, over a disk before and after them
module _ (e : Editing) (old new : DiskState) where
  -- if the disk did not fail, the answer to edits is `told_of` them, or nothing
  pub one_told : (Rose old.faults new.faults → ⊥) → (a : Answer) → IsEditOf e old new a → (a ≡ nothing) ⊎ (a ≡ told_of e)
  one_told calm a (alarmed {alarm} is only) = inr (sym (by_alarm e (Some alarm) _ is refl))
  one_told calm a (full none more only) =
      let many : nat_lt e.pair.settings.records (length e.found + length e.edits) ≡ true =
      lt_true e.pair.settings.records (length e.found + length e.edits) more in
      inr (sym (by_alarm e None true none many))
  one_told calm a (unready only) = inl refl
  one_told calm a (none_asked none are only) =
      let few = only.found_is.few in
      let count : length e.edits ≡ 0 = ap length are in
      let many : nat_lt e.pair.settings.records (length e.found + length e.edits) ≡ false =
      lt_false e.pair.settings.records (length e.found + length e.edits) (omega (arith, few, count)) in
      inr (ap (λ n. tells exit.done (edited_text n)) (sym count) ∙ sym (by_alarm e None false none many))
  one_told calm a (made none some are) =
      let few = are.writing.is.history_is.few in
      let counted = length-append e.found (records_of e.edits) in
      let each = length-map e.edits record_of in
      let many : nat_lt e.pair.settings.records (length e.found + length e.edits) ≡ false =
      lt_false e.pair.settings.records (length e.found + length e.edits) (omega (arith, few, counted, each)) in
      inr (sym (by_alarm e None false none many))
  one_told calm a (failed none some writing rose) = absurd (calm rose)

  -- the disk stood for the run that was to be edited
  pub found_there : (a : Answer) → IsEditOf e old new a → (bytes : List ℕ) → Reads old bytes → StandsForRun (a_run e.header e.found) bytes
  found_there a (alarmed is only) bytes reads = only.recovers.found.means bytes reads
  found_there a (full none more only) bytes reads = only.recovers.found.means bytes reads
  found_there a (unready only) bytes reads = only.recovers.found.means bytes reads
  found_there a (none_asked none are only) bytes reads = only.recovers.found.means bytes reads
  found_there a (made none some are) bytes reads = are.writing.opened bytes reads
  found_there a (failed none some writing rose) bytes reads = writing.opened bytes reads

  -- an answer to edits of a run is one of the pair of its journal
  pub pair_there : (a : Answer) → IsEditOf e old new a → IsPairOf (texts_of e.header) e.pair
  pair_there a (alarmed is only) = only.accepted
  pair_there a (full none more only) = only.accepted
  pair_there a (unready only) = only.accepted
  pair_there a (none_asked none are only) = only.accepted
  pair_there a (made none some are) = are.writing.is.accepted
  pair_there a (failed none some writing rose) = writing.is.accepted

-- to the same edits of the same run the same is due
pub same_told : (e e' : Editing) → IsSamePair e.pair e'.pair → e.found ≡ e'.found → e.edits ≡ e'.edits → told_of e ≡ told_of e'
same_told e e' same found edits = λ i. told_in (same.tapes i) (same.opening i) (same.records i) (found i) (edits i)

-- each answer agrees with itself
agree_same : (a : Answer) → Agree a a
agree_same nothing = tt
agree_same (tells status text) = (refl, refl)

-- two answers that are each `nothing` or one and the same agree
pub agree_told : (a b told : Answer) → (a ≡ nothing) ⊎ (a ≡ told) → (b ≡ nothing) ⊎ (b ≡ told) → Agree a b
agree_told a b told (inl none) other = subst (λ x. Agree x b) (sym none) tt
agree_told a b told (inr is) (inl none) = subst (Agree a) (sym none) (agree_nothing a)
agree_told a b told (inr is) (inr too) = subst (Agree a) (is ∙ sym too) (agree_same a)
