-- What is told of a run that went on, and of one that did not begin, as memory ran out or a thread
-- was refused.
-- For the proof of `go_on` (src/going.rt).
use Rattle.std.proofs.Common.{◌≡◌, inl, inr, ℕ, ◌+◌, ◌-◌, ◌*◌, ◌≤◌, false, List, [], length, take, refl, sym, ap, subst, arith, ◌∙◌, Result, Ok, Err}
use Rattle.std.specs.Prelude.{IsTrue}
use Rattle.std.proofs.Math.Seq.{take-length}
use Rattle.nc_outside.specs.Received.{TurretState}
use Rattle.nc_number.specs.declared.both.Both.{Both}
use Rattle.nc_number.specs.Both.{of_path}
use Rattle.disk_model.specs.Device.{DiskState, IsCoherent, Reads}
use Rattle.disk_model.proofs.Runs.{no_call, unwritten_none, uses_none}
use Rattle.gate_file.specs.Gate.{Gate}
use Rattle.nc_number.specs.declared.fault.NoMemory.{NoMemory}
use Rattle.nc_outside.specs.declared.reason.Reason.{Reason}
use Rattle.nc_verify.specs.declared.verified.Verified.{Verified}
use Rattle.run_records.specs.Entries.{Entry}
use Rattle.run_records.specs.declared.header.Header.{Header}
use Rattle.run_journal.specs.Stands.{Holds}
use Rattle.run_table.specs.Kept.{TableView}
use Rattle.run_table.specs.Recording.{StandsForPrefix, IsJournaled}
use Rattle.run_table.specs.Running.{MayRun}
use Rattle.turret_run.specs.Served.{place_told, GetsPart}
use Rattle.turret_run.specs.Runs.{HasEnded, HasNotBegun, RunsWith}
use Rattle.two_path.specs.Machine.{MachineView, position_of}
use Rattle.two_path.specs.Histories.{IsKept}
use Rattle.nc_restart.specs.Pair.{tapes_in, opening_of, machine_behind}
use Rattle.nc_restart.specs.History.{IsHistory}
use Rattle.lathe_calls.specs.Answers.{nothing}
use Rattle.lathe_looks.specs.Standing.{is_over}
use Rattle.lathe_top.specs.Lathe.{LatheState, lathe_with}
use Rattle.lathe_top.specs.Ran.{TextOf}
use Rattle.lathe_top.specs.Kept.{end_of}
use Rattle.lathe_top.specs.Going.{Standing, standing_run, session_to, IsReport, report, stayed, told_of}
use Rattle.lathe_top.proofs.VersionsKept.{version_stays}
use Rattle.lathe_top.proofs.GoingOn.{AreSmall, IsLive, no_disk_fault, goes_on, ending, failing, unplaced, keeps_going}

-- what holds of a run and the disk that it leaves holds of a run of the same pair with the same
-- disk
pub for_pair : {D : Type 0} (state : D → DiskState) (Of : Standing → DiskState → Type 0) (header : Header) (found : List Entry) (pair other : Verified)
    (disk left : D) → pair ≡ other → left ≡ disk → Of (standing_run header pair found) (state disk) → Of (standing_run header other found) (state left)
for_pair state Of header found pair other disk left same is there =
    subst (λ (p : Verified). Of (standing_run header p found) (state left)) same
    (subst (λ f. Of (standing_run header pair found) (state f)) (sym is) there)

-- what is told of a pair and of records is told of the same pair and records
pub told_same : (text_of : TextOf) (pair other : Verified) (items entries : List Entry) (reason : Result Reason NoMemory) → pair ≡ other → items ≡ entries
    → told_of text_of pair items reason ≡ told_of text_of other entries reason
told_same text_of pair other items entries reason same are = λ i. told_of text_of (same i) (are i) reason

-- a run with turrets of the table `old`, which was not over, that came to the table `new`
module _ {D : Type 0} (state : D → DiskState) (coherent : (disk : D) → IsCoherent (state disk)) (small : AreSmall state) (limit : ℕ)
    (old new : TableView D) (may : MayRun old)
    (behind : old.machine ≡ machine_behind old.verified old.recording.history) (unended : is_over old.machine ≡ false)
    (kept : IsKept (tapes_in new.verified) (opening_of new.verified) new.recording.history new.machine)
    (few : length new.recording.history ≤ new.verified.settings.records)
    (pending : length new.recording.history ≤ new.recording.flushed + 64) (live : IsLive new)
    (header : Header) (journaled : IsJournaled state header old.recording) (before after : Both TurretState) (missed : Both ℕ) where
  -- the run that goes on
  abbrev pub run : Standing
  run = standing_run header new.verified old.recording.history

  -- the disk and the turrets before the run
  abbrev pub d : LatheState
  d = lathe_with (state old.recording.log.file.disk) before

  -- the disk and the turrets after the run, with the moves missed
  abbrev pub e : LatheState
  e = record { disk = state new.recording.log.file.disk; turrets = after; missed = missed }

  -- the run did not begin, and the table is what it was
  module _ (not_begun : HasNotBegun state limit old new before after missed) where
    -- a run that did not begin has no further record
    history_is : new.recording.history ≡ old.recording.history
    history_is = not_begun.same.history

    -- each record of a run that did not begin is flushed
    all : new.recording.flushed ≡ length old.recording.history
    all = not_begun.same.flushed ∙ may.all

    -- each image of the disk stands for all its records
    left : (bytes : List ℕ) → Reads d.disk bytes → (c : List ℕ) → d.disk.image c
        → StandsForPrefix header (length old.recording.history) old.recording.history c
    left bytes reads c image =
        subst (λ n. StandsForPrefix header n old.recording.history c) may.all (journaled.left bytes reads c image)

    -- the records of a run that did not begin are a history of the pair
    there : IsHistory new.verified old.recording.history
    there =
        subst (λ (l : List Entry). IsHistory new.verified l) history_is (record { legal = kept.legal; few = few })

    -- the machine of a run that did not begin is the one after these records
    machine_is : old.machine ≡ machine_behind new.verified old.recording.history
    machine_is = behind ∙ ap (λ (pair : Verified). machine_behind pair old.recording.history) (sym not_begun.same.verified)

    -- the journal of a run that did not begin may be written
    lives : IsTrue old.recording.log.file.live
    lives = subst (λ (file : Gate D). IsTrue file.live) not_begun.same.file
        (live (λ is. no_disk_fault old.halt may.halt (sym not_begun.same.halt ∙ is)))

    -- the journal of a run that did not begin holds all its records
    held : (bytes : List ℕ) → Reads d.disk bytes
        → Holds header old.recording.log.version old.recording.history d.disk old.recording.log.file.end
    held bytes reads =
        subst (λ (l : List Entry). Holds header old.recording.log.version l d.disk old.recording.log.file.end)
        (ap (λ n. take n old.recording.history) may.all ∙ take-length old.recording.history) (journaled.held bytes reads lives)

    -- nothing is told of a run that did not begin, over the same disk
    stays : (text_of : TextOf) → IsReport limit text_of run d (record { disk = d.disk; turrets = after; missed = missed }) nothing
    stays text_of = stayed old.recording.history (length old.recording.history)
        (record { history_is = there; extends = take-length old.recording.history; rests = λ over. refl })
        (record {
          unended = ap is_over (sym machine_is) ∙ unended;
          none = refl;
          all = refl;
          places = λ path.
              subst (λ (m : MachineView). GetsPart (place_told (position_of path m)) (of_path before path) (of_path after path)) machine_is
              (not_begun.turrets path);
          missed = not_begun.none;
        })
        (record {
          left = left;
          moments = λ bytes reads.
              no_call (StandsForPrefix header (length old.recording.history) old.recording.history) d.disk (coherent old.recording.log.file.disk)
              (left bytes reads);
          over = λ over. unwritten_none d.disk (coherent old.recording.log.file.disk);
          version = λ bytes reads.
              inr (version_stays header new.verified old.recording.history d.disk old.recording.log.version old.recording.log.file.end (held bytes reads));
          uses = uses_none (4 * (length old.recording.history - length old.recording.history)) (end_of (session_to run old.recording.history)) d.disk;
          later = omega arith;
        })

    -- nothing is told of a run that did not begin, over the disk that it left
    has_stayed : (text_of : TextOf) → IsReport limit text_of run d e nothing
    has_stayed text_of =
        subst (λ (file : Gate D). IsReport limit text_of run d (record { disk = state file.disk; turrets = after; missed = missed }) nothing)
        (sym not_begun.same.file) (stays text_of)

  -- a run that ended is told with its reason
  ended_report : (text_of : TextOf) (end : Reason) → HasEnded state limit old new before after missed end
      → IsReport limit text_of run d e (told_of text_of new.verified new.recording.history (Ok end))
  ended_report text_of end ran =
      report new.recording.history new.recording.flushed
      (goes_on state small limit old new may behind unended ran.since kept few pending header journaled before after missed)
      (ending state small limit old new may behind unended ran.since kept few pending header journaled before after missed end ran.ends ran.turrets ran.rests ran.misses)
      (keeps_going state small limit old new may behind unended ran.since kept few pending header journaled before after missed live)

  -- what is told of a run is what is due to its end, or nothing if it did not begin
  pub told_report : (text_of : TextOf) (end : Result Reason NoMemory) → RunsWith state limit old new before after missed end
      → IsReport limit text_of run d e (told_of text_of new.verified new.recording.history end)
  told_report text_of (Ok Reason.Done) ran = ended_report text_of Reason.Done ran
  told_report text_of (Ok (Reason.Alarm alarm)) ran = ended_report text_of (Reason.Alarm alarm) ran
  told_report text_of (Ok Reason.Stopped) ran = ended_report text_of Reason.Stopped ran
  told_report text_of (Ok Reason.Full) ran = ended_report text_of Reason.Full ran
  told_report text_of (Ok Reason.DiskFault) ran = ended_report text_of Reason.DiskFault ran
  told_report text_of (Ok (Reason.TurretFault path)) (inl ran) =
      report new.recording.history new.recording.flushed
      (goes_on state small limit old new may behind unended ran.since kept few pending header journaled before after missed)
      (failing state small limit old new may behind unended ran.since kept few pending header journaled before after missed path ran.calm ran.whole ran.failed ran.other ran.rests ran.misses)
      (keeps_going state small limit old new may behind unended ran.since kept few pending header journaled before after missed live)
  told_report text_of (Ok (Reason.TurretFault path)) (inr ran) =
      report new.recording.history new.recording.flushed
      (goes_on state small limit old new may behind unended ran.since kept few pending header journaled before after missed)
      (unplaced state small limit old new may behind unended ran.since kept few pending header journaled before after missed path ran.same ran.failed
      ran.other ran.none)
      (keeps_going state small limit old new may behind unended ran.since kept few pending header journaled before after missed live)
  told_report text_of (Err none) ran = has_stayed ran text_of

  -- the pair of the new table is that of the old one
  pub pair_is : (end : Result Reason NoMemory) → RunsWith state limit old new before after missed end → new.verified ≡ old.verified
  pair_is (Ok Reason.Done) ran = ran.since.verified
  pair_is (Ok (Reason.Alarm alarm)) ran = ran.since.verified
  pair_is (Ok Reason.Stopped) ran = ran.since.verified
  pair_is (Ok Reason.Full) ran = ran.since.verified
  pair_is (Ok Reason.DiskFault) ran = ran.since.verified
  pair_is (Ok (Reason.TurretFault path)) (inl ran) = ran.since.verified
  pair_is (Ok (Reason.TurretFault path)) (inr ran) = ran.since.verified
  pair_is (Err none) ran = ran.same.verified
