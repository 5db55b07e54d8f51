-- What is answered after a recovery.
-- DueOnce and the proofs of `resume` and `resume_found` (src/resuming.rt) use it.
use Rattle.std.proofs.Common.{◌≡◌, inr, ℕ, ◌-◌, ◌*◌, Bool, true, false, List, length, Ok, Some, None, Option, refl, sym, ap, subst, arith, ◌∙◌}
use Rattle.std.proofs.Math.Seq.{take-length}
use Rattle.nc_outside.specs.Received.{TurretState}
use Rattle.nc_number.specs.declared.both.Both.{Both}
use Rattle.disk_model.specs.Device.{DiskState, IsCoherent, Reads}
use Rattle.disk_model.proofs.Runs.{no_call, unwritten_none, uses_none}
use Rattle.nc_outside.specs.declared.reason.Reason.{Reason}
use Rattle.nc_moves.specs.declared.alarm.Alarm.{Alarm}
use Rattle.nc_verify.specs.declared.verified.Verified.{Verified}
use Rattle.run_records.specs.Entries.{Entry}
use Rattle.run_records.specs.declared.header.Header.{Header}
use Rattle.run_records.specs.declared.version.Version.{Version}
use Rattle.run_journal.specs.Kept.{Log}
use Rattle.run_journal.specs.Stands.{Stands, Holds}
use Rattle.run_table.specs.Begun.{reason_in}
use Rattle.run_table.specs.Recording.{StandsForPrefix}
use Rattle.run_table.specs.Recovered as table
use Rattle.run_table.specs.Running.{IsNoneOrAlarm}
use Rattle.two_path.specs.Machine.{MachineView}
use Rattle.nc_restart.specs.Pair.{texts_of, IsPairOf, machine_behind}
use Rattle.nc_restart.specs.Recovered.{FoundRun, IsRecovered, Recovers}
use Rattle.lathe_calls.specs.Answers.{Answer}
use Rattle.lathe_calls.specs.Reported.{report_of}
use Rattle.lathe_looks.specs.Standing.{are_finished, is_over, reason_by, reason_of}
use Rattle.lathe_top.specs.Going.{IsReport, report, stayed, KeepsGoing, standing_run}
use Rattle.lathe_top.specs.Kept.{end_of}
use Rattle.lathe_top.specs.Lathe.{LatheState, lathe_with}
use Rattle.lathe_top.specs.Ran.{IsResumed, resumed, reported, unprepared}
use Rattle.lathe_top.specs.Session.{Session, GoesOn, IsLeast, EndsBy, over}
use Rattle.lathe_top.specs.Turrets.{IsEnding}
use Rattle.lathe_top.proofs.VersionsKept.{version_stays}
use Rattle.lathe_top.proofs.Opened.{NoneIsStuck, found_keeps, ending_since, is_session, unprepared_since}

-- A run was found on the disk, and its pair is accepted. `a` is the disk before the call and
-- `begun` after the recovery; `before` are the turrets before, and `c` is what the run leaves.
module _ {D : Type 0} (state : D → DiskState) (law : NoneIsStuck) (limit : ℕ) (found : FoundRun) (pair : Verified) (a : DiskState) (begun : D)
    (before : Both TurretState) (c : LatheState) (recovers : Recovers a (state begun) (Ok found)) (accepted : IsPairOf (texts_of found.header) pair) where
  -- what is told of the run that goes on after the recovery is what `resume` answers
  pub found_run : (answer : Answer)
      → IsReport limit report_of (standing_run found.header pair found.entries) (lathe_with (state begun) before) c answer
      → IsResumed state limit (lathe_with a before) c answer
  found_run answer (report history {reason} least goes ends keeps) =
      let s : Session = record { header = found.header; pair = pair; found = found.entries; history = history } in
      resumed s (is_session law (standing_run found.header pair found.entries) history accepted goes) recovers.found.means
      (reported least (ending_since limit s a (state begun) before c reason least (recovers.calm (λ fault. fault)) ends)
      (found_keeps state found a begun c.disk recovers pair history least goes.extends keeps))
  found_run answer (stayed history least goes none keeps) =
      let s : Session = record { header = found.header; pair = pair; found = found.entries; history = history } in
      resumed s (is_session law (standing_run found.header pair found.entries) history accepted goes) recovers.found.means
      (unprepared least (unprepared_since s a (state begun) before c least none)
      (found_keeps state found a begun c.disk recovers pair history least goes.extends keeps))

-- the parts of a recovery as the table takes them
parts_of : {D : Type 0} (state : D → DiskState) (header : Header) (pair : Verified) (machine : MachineView) (entries : List Entry) (log : Log D)
    → IsRecovered state header pair machine entries log → table.IsRecovered state pair machine entries log
parts_of state header pair machine entries log is = record {
  legal = is.behind.history.legal;
  few = is.behind.history.few;
  machine_is = is.behind.folds;
  waits = is.behind.waits;
  fresh = is.fresh;
  stands = (header, is.accepted, is.holds);
}

-- the reason of a recovered table is an alarm, or none
pub none_or_alarm : (alarm : Option Alarm) → IsNoneOrAlarm (reason_in alarm)
none_or_alarm None = tt
none_or_alarm (Some alarm) = tt

-- the law that a disk that holds these records in a journal leaves all of them at a crash
abbrev pub LeavesRecords : {D : Type 0} → (D → DiskState) → Type 0
LeavesRecords {D} state = (disk : D) (header : Header) (version : Version) (entries : List Entry) (end : ℕ) → Holds header version entries (state disk) end
    → (c : List ℕ) → (state disk).image c → Stands header entries c

-- for a run that is over, the disk holds all its records: that is what its reason asks for
least_by : (s : Session) (alarm : Option Alarm) (finished : Bool) → IsLeast (reason_by alarm finished) s (length s.history)
least_by s (Some alarm) finished = refl
least_by s None true = refl
least_by s None false = refl

-- the disk holds all records of a run that is over
pub least_is : (s : Session) (least : ℕ) (alarm : Option Alarm) (finished : Bool) → IsLeast (reason_by alarm finished) s least
    → least ≡ length s.history
least_is s least (Some alarm) finished is = is
least_is s least None true is = is
least_is s least None false is = is

-- a run that is over, and is only reported
module _ {D : Type 0} (state : D → DiskState) (coherent : (disk : D) → IsCoherent (state disk)) (leaves : LeavesRecords state) (limit : ℕ)
    (header : Header) (pair : Verified) (machine : MachineView) (entries : List Entry) (log : Log D)
    (is : IsRecovered state header pair machine entries log) (turrets : Both TurretState) where
  -- the disk after the run was found
  abbrev pub disk : DiskState
  disk = state log.file.disk

  -- the disk and the turrets, which rest
  abbrev pub lathe : LatheState
  lathe = lathe_with disk turrets

  -- a session that makes no record
  abbrev pub session : Session
  session = record { header = header; pair = pair; found = entries; history = entries }

  -- a run that is over goes on to the same records
  pub stays_there : GoesOn pair entries entries
  stays_there = record { history_is = is.behind.history; extends = take-length entries; rests = λ over. refl }

  -- each image of the disk stands for all records
  all_left : (bytes : List ℕ) → Reads disk bytes → (c : List ℕ) → disk.image c → StandsForPrefix header (length entries) entries c
  all_left bytes reads c image = (
    length entries,
    omega arith,
    omega arith,
    subst (λ (l : List Entry). Stands header l c) (sym (take-length entries))
        (leaves log.file.disk header log.version entries log.file.end (is.holds bytes reads) c image),
  )

  -- nothing was done to the disk after the run was found
  pub keeps_there : KeepsGoing session (length entries) disk disk
  keeps_there = record {
    left = all_left;
    moments = λ bytes reads. no_call (StandsForPrefix header (length entries) entries) disk (coherent log.file.disk) (all_left bytes reads);
    over = λ over. unwritten_none disk (coherent log.file.disk);
    version = λ bytes reads. inr (version_stays header pair entries disk log.version log.file.end (is.holds bytes reads));
    uses = uses_none (4 * (length entries - length entries)) (end_of session) disk;
    later = omega arith;
  }

  -- a session of a run that is over ends by the reason of its machine, with turrets that rest
  pub over_there : (reason : Reason) → is_over machine ≡ true → reason ≡ reason_of machine
      → IsEnding limit reason session (length entries) lathe lathe
  over_there reason ends same =
      let there : is_over (machine_behind pair entries) ≡ true = subst (λ (m : MachineView). is_over m ≡ true) is.behind.folds ends in
      let by : reason ≡ reason_of (machine_behind pair entries) = same ∙ ap reason_of is.behind.folds in
      record {
        few = omega arith;
        cause = subst (EndsBy limit session lathe lathe) (sym by) (over there (record { disk = refl; turrets = λ path. refl }));
        enough =
            subst (λ (r : Reason). IsLeast r session (length entries)) (sym by)
            (least_by session (machine_behind pair entries).alarm (are_finished (machine_behind pair entries)));
        turrets = record { over = λ is_there. (refl, refl); goes_on = λ open_there. absurd (cc) };
      }
