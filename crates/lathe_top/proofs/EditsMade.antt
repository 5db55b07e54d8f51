-- What is answered to edits of a run that was found is what is due to them.
-- For the proof of `edit_found` (src/editing.rt).
use Rattle.std.proofs.Common.{◌≡◌, ◌⊎◌, inl, inr, ℕ, ◌+◌, ◌*◌, ◌≤◌, ◌<◌, max, nat_le, true, false, Option, Some, None, List, [], ◌∷◌, ◌++◌, length, Result, Ok, Err, OnOk, IsOk, refl, sym, ap, subst, arith, ◌∙◌, length-append}
use Rattle.std.specs.Prelude.{codes, is_some, IfErr}
use Rattle.std.proofs.lemmas.List.{length-map}
use Rattle.disk_model.specs.Device.{DiskState, IsCoherent, Reads, Rose}
use Rattle.disk_model.specs.Moments.{LeavesOnly}
use Rattle.disk_model.proofs.Runs.{image_now, joined, uses_add, uses_widened}
use Rattle.edit_texts.specs.declared.edit_list.PathEdit.{PathEdit}
use Rattle.gate_file.specs.declared.fault.DiskFault.{DiskFault}
use Rattle.nc_outside.specs.declared.reason.Reason.{Reason}
use Rattle.nc_moves.specs.declared.alarm.Alarm.{Alarm}
use Rattle.nc_number.specs.declared.fault.Failing.{Failing}
use Rattle.nc_number.specs.declared.fault.Failing.TheVariants.{Fault, NoMemory}
use Rattle.nc_verify.specs.declared.verified.Verified.{Verified}
use Rattle.run_edits.specs.declared.making.Made.{Made}
use Rattle.run_edits.specs.Made.{FailsFor, MakesEdits, edits_end, record_of, records_of}
use Rattle.run_records.specs.Entries.{Entry}
use Rattle.run_records.specs.declared.header.Header.{Header}
use Rattle.run_journal.specs.Kept.{Log}
use Rattle.run_journal.specs.Stands.{Stands}
use Rattle.two_path.specs.Machine.{MachineView}
use Rattle.nc_restart.specs.History.{IsHistory}
use Rattle.nc_restart.specs.Pair.{machine_behind}
use Rattle.nc_restart.specs.Recovered.{IsRecovered, Recovers}
use Rattle.lathe_calls.specs.Answers.{Answer, tells}
use Rattle.lathe_calls.specs.Reported.{report_of}
use Rattle.lathe_calls.specs.Statuses as exit
use Rattle.lathe_looks.specs.Standing.{are_finished, reason_by, reason_of}
use Rattle.lathe_top.specs.Edited.{IsEditedRun, in_run, IsOnlyFound, alarmed, full, unready, none_asked, made, failed, edited_text, told_of_writing}
use Rattle.lathe_top.specs.Kept.{Editing, HasAllOrNone, IsWriting, KeepsEdits, history_with}
use Rattle.lathe_calls.specs.Statuses.{reason_status}

-- a number that is not at most another is above it
less_of : (a b : ℕ) → nat_le a b ≡ false → b < a
less_of a b more = grind arith

-- what has nothing is None
pub none_of : {A : Type 0} (o : Option A) → is_some o ≡ false → o ≡ None
none_of None none = refl
none_of (Some x) some = absurd cc

-- A run was found on the disk, and these edits are asked for. `a` is the disk before the call.
module _ {D : Type 0} (state : D → DiskState) (coherent : (disk : D) → IsCoherent (state disk)) (a : DiskState) (header : Header) (pair : Verified)
    (machine : MachineView) (entries : List Entry) (log : Log D) (edits : List PathEdit)
    (is : IsRecovered state header pair machine entries log)
    (recovers : Recovers a (state log.file.disk) (Ok (record { header = header; entries = entries }))) where
  -- the edits with the run that they are for
  abbrev pub editing : Editing
  editing = record { header = header; pair = pair; found = entries; edits = edits }

  -- the disk after the run was found, before anything is written
  abbrev mid : DiskState
  mid = state log.file.disk

  -- no edit is written yet, and the disk was only read
  only : IsOnlyFound editing a mid
  only = record { accepted = is.accepted; found_is = is.behind.history; recovers = recovers }

  -- the alarm of the machine is that of the records done again
  alarm_is : (alarm : Option Alarm) → machine.alarm ≡ alarm → (machine_behind pair entries).alarm ≡ alarm
  alarm_is alarm stands = sym (ap (λ (m : MachineView). m.alarm) is.behind.folds) ∙ stands

  -- a run that an alarm stopped gets no edit: its report is told
  pub alarm_due : (alarm : Option Alarm) → machine.alarm ≡ alarm → is_some alarm ≡ true
      → IsEditedRun edits a mid (tells (reason_status (reason_of machine)) (report_of pair entries (reason_of machine)))
  alarm_due None stands some = absurd cc
  alarm_due (Some alarm) stands some =
      let reason : reason_of machine ≡ Reason.Alarm alarm = ap (λ x. reason_by x (are_finished machine)) stands in
      subst (λ (r : Reason). IsEditedRun edits a mid (tells (reason_status r) (report_of pair entries r))) (sym reason)
      (in_run editing refl (alarmed (alarm_is (Some alarm) stands) only))

  -- a journal without room for the edits gets none of them
  pub full_due : machine.alarm ≡ None → nat_le (length entries + length edits) pair.settings.records ≡ false
      → IsEditedRun edits a mid (tells exit.full (codes "full\n"))
  full_due none many =
      in_run editing refl (full (alarm_is None none) (less_of (length entries + length edits) pair.settings.records many) only)

  -- the run may be edited, and this came of the writing
  module _ (done : Made D) (none : machine.alarm ≡ None) (history_is : IsHistory pair (entries ++ records_of edits))
      (makes : MakesEdits state header entries (records_of edits) log.file.disk done.disk done.result) where
    -- the disk after the edits
    abbrev new : DiskState
    new = state done.disk

    -- a disk that told its bytes tells them after the run was found
    reads_on : (bytes : List ℕ) → Reads a bytes → Reads mid bytes
    reads_on bytes reads = recovers.unwritten.same ∙ reads

    -- a crash at any moment leaves the journal from before, or all edits, or none
    moments : (bytes : List ℕ) → Reads a bytes → LeavesOnly (λ c. a.image c ⊎ HasAllOrNone editing c) a new
    moments bytes reads =
        joined a.image (HasAllOrNone editing) (λ c. a.image c ⊎ HasAllOrNone editing c) a mid new recovers.unwritten.moments
        (makes.any_moment bytes (reads_on bytes reads)) (λ x here. inl here) (λ x here. inr here)

    -- what was done to the disk is what edits may do
    keeps : 1 ≤ length edits → KeepsEdits editing a new
    keeps some =
        let count = length-append entries (records_of edits) in
        let each = length-map edits record_of in
        let enough : 4 * length entries + 16 + 8 ≤ 20 + 4 * length (history_with editing) = omega (arith, some, count, each) in
        let end = edits_end header (history_with editing) in
        record {
          any_moment = moments;
          left = λ bytes reads. image_now (HasAllOrNone editing) mid new (coherent done.disk) (makes.any_moment bytes (reads_on bytes reads));
          uses = uses_widened (4 * length entries + 16 + 8) (20 + 4 * length (history_with editing)) (max 0 end) end a new
              (uses_add (4 * length entries + 16) 8 0 end a mid new recovers.found.uses makes.uses) enough (omega arith);
          later = omega (arith, recovers.later, makes.later);
        }

    -- what was done to the disk is a writing of these edits
    writing : 1 ≤ length edits → IsWriting editing a new
    writing some = record {
      is = record { accepted = is.accepted; found_is = is.behind.history; history_is = history_is };
      opened = recovers.found.means;
      keeps = keeps some;
    }

    -- without a call of the disk nothing was written
    unchanged : done.disk ≡ log.file.disk → (answer : Answer) → IsEditedRun edits a mid answer → IsEditedRun edits a new answer
    unchanged same answer there = subst (λ (d : D). IsEditedRun edits a (state d) answer) (sym same) there

    -- after the edits each image stands for the run with all of them
    abbrev Wholly : Type 0
    Wholly = (bytes : List ℕ) → Reads mid bytes → (c : List ℕ) → new.image c → Stands header (entries ++ records_of edits) c

    -- if the edits were written, the answer is how many they are
    all_made : (asked : List PathEdit) → edits ≡ asked → done.result ≡ Ok tt → IsEditedRun edits a new (tells exit.done (edited_text (length edits)))
    all_made [] are ok =
        let count : length edits ≡ 0 = ap length are in
        subst (λ n. IsEditedRun edits a new (tells exit.done (edited_text n))) (sym count)
        (unchanged (makes.none (ap records_of are)).0 _ (in_run editing refl (none_asked (alarm_is None none) are only)))
    all_made (first ∷ others) are ok =
        let some : 1 ≤ length edits = omega (arith, ap length are) in
        let whole : Wholly = subst (λ (r : Result (Unit {0}) (Failing DiskFault)). OnOk r Wholly) ok makes.whole in
        let calm : new.faults ≡ mid.faults = subst (λ (r : Result (Unit {0}) (Failing DiskFault)). OnOk r (new.faults ≡ mid.faults)) ok makes.calm in
        in_run editing refl
        (made (alarm_is None none) some
        (record {
          writing = writing some;
          whole = λ bytes reads. whole bytes (reads_on bytes reads);
          calm = calm ∙ recovers.calm (λ fault. fault);
        }))

    -- if the writing failed, there was at least one edit
    some_asked : (asked : List PathEdit) → edits ≡ asked → (fault : Failing DiskFault) → done.result ≡ Err fault → 1 ≤ length edits
    some_asked [] are fault bad =
        let fine = subst (λ (r : Result (Unit {0}) (Failing DiskFault)). IsOk r) bad (makes.none (ap records_of are)).1 in absurd cc
    some_asked (first ∷ others) are fault bad = omega (arith, ap length are)

    -- what is told of the writing is due to the edits
    pub made_due : (result : Result (Unit {0}) (Failing DiskFault)) → done.result ≡ result
        → IsEditedRun edits a new (told_of_writing (length edits) result)
    made_due (Ok tt) ok = all_made edits refl ok
    made_due (Err (Fault fault)) bad =
        let some = some_asked edits refl (Fault fault) bad in
        let rose : Rose mid.faults new.faults =
        subst (λ (r : Result (Unit {0}) (Failing DiskFault)). IfErr r (FailsFor state log.file.disk done.disk)) bad makes.refused in
        in_run editing refl
        (failed (alarm_is None none) some (writing some) (omega (arith, recovers.calm (λ fault. fault), rose)))
    made_due (Err NoMemory) bad =
        let same : done.disk ≡ log.file.disk =
        subst (λ (r : Result (Unit {0}) (Failing DiskFault)). IfErr r (FailsFor state log.file.disk done.disk)) bad makes.refused in
        unchanged same _ (in_run editing refl (unready only))
