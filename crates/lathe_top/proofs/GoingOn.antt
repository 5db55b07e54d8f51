-- What going on with a run comes to: a run with turrets is a session but for its opening. What is
-- told of it is in GoingReported.
-- GoingReported and the proof of `go_on` (src/going.rt) use it.
use Rattle.std.proofs.Common.{◌≡◌, ◌≢◌, ◌++◌, ◌⊎◌, inl, inr, ⊎_elim, ℕ, ◌+◌, ◌-◌, ◌*◌, ◌≤◌, max, Bool, true, false, ◌||◌, ◌&&◌, is_some, if◌then◌else◌, List, [], length, take, drop, Option, Some, None, refl, sym, ◌∙◌, ap, subst, arith}
use Rattle.std.specs.Prelude.{IsTrue}
use Rattle.std.proofs.Math.Seq.{take-append_seam, drop-append_seam, take-length}
use Rattle.std.proofs.lemmas.List.{length-append}
use Rattle.std.proofs.lemmas.Grind.{flat_map-append}
use Rattle.nc_outside.specs.Received.{TurretState}
use Rattle.nc_number.specs.declared.both.Both.{Both}
use Rattle.nc_number.specs.Both.{of_path}
use Rattle.disk_model.specs.Device.{DiskState, Reads, Rose}
use Rattle.disk_model.specs.Moments.{LeavesOnly, Uses}
use Rattle.gate_file.specs.Gate.{Gate}
use Rattle.nc_outside.specs.declared.halt.Halt.{Halt}
use Rattle.nc_outside.specs.declared.halt.Halt.TheVariants as halt
use Rattle.nc_outside.specs.declared.reason.Reason.{Reason}
use Rattle.nc_outside.specs.Reasons.{end_by}
use Rattle.nc_number.specs.declared.path.Path.{Path}
use Rattle.nc_number.specs.declared.path.Path.TheVariants.{One, Two}
use Rattle.nc_number.specs.Path.{other_of}
use Rattle.nc_moves.specs.declared.alarm.Alarm.{Alarm}
use Rattle.nc_outside.specs.declared.got.Got.{Got}
use Rattle.nc_verify.specs.declared.verified.Verified.{Verified}
use Rattle.run_records.specs.Entries.{Entry}
use Rattle.run_records.specs.declared.header.Header.{Header}
use Rattle.run_records.specs.declared.version.Version.{Version}
use Rattle.run_records.specs.Headers.{header_bytes}
use Rattle.run_records.specs.Spelling.{entry_bytes}
use Rattle.run_journal.specs.Batches.{records_bytes}
use Rattle.run_journal.specs.Stands.{Holds}
use Rattle.run_table.specs.Kept.{TableView}
use Rattle.run_table.specs.declared.resting.Resting.{Resting}
use Rattle.run_table.specs.declared.resting.Resting.TheVariants.{Unasked, Asked, Rests}
use Rattle.run_table.specs.Draining.{rest_told, StandsAsTold}
use Rattle.run_table.specs.Made.{told_made}
use Rattle.run_table.specs.Recording.{StandsForPrefix, IsJournaled, sent_count, most_bytes}
use Rattle.run_table.specs.Running as running
use Rattle.run_table.specs.Running.{IsNoneOrAlarm, MayRun}
use Rattle.run_table.specs.Since.{Since}
use Rattle.turret_run.specs.Served.{turret_told, FailsPlace, GetsAll, GetsSome, FailsAmong, Misses}
use Rattle.turret_run.specs.Runs.{due_to_turret, due_by_all, GetsAt, GetsBeside, StandsBeside, none_missed, Stays}
use Rattle.two_path.specs.Machine.{MachineView, position_of, without_reads}
use Rattle.two_path.specs.Ending.{end_of as machine_end}
use Rattle.two_path.specs.Histories.{IsKept}
use Rattle.nc_restart.specs.Pair.{tapes_in, opening_of, machine_behind}
use Rattle.lathe_looks.specs.Standing.{is_over, reason_by, reason_of}
use Rattle.lathe_top.specs.Lathe.{LatheState, lathe_with}
use Rattle.lathe_top.specs.Session.{Session, AreMost, IsLeast, NoneFailed, EndsBy, over, full, stopped, disk_failed, turret_failed, GoesOn}
use Rattle.lathe_top.specs.Turrets.{due_to, AreAsTold, AreServed, AreFailed, GetTheirs, IsEnding}
use Rattle.lathe_top.specs.Kept.{end_of, KeepsVersion}
use Rattle.lathe_top.specs.Going.{KeepsGoing}
use Rattle.lathe_top.proofs.VersionsKept.{is_disk_or_not, keeps_version}

-- the law that a journal ends no further on than its header and its records with their gates reach
abbrev pub AreSmall : {D : Type 0} → (D → DiskState) → Type 0
AreSmall {D} state = (disk : D) (header : Header) (version : Version) (entries : List Entry) (end : ℕ) → Holds header version entries (state disk) end
    → end ≤ 13 + length (header_bytes header) + length (records_bytes entries) + 6 * length entries

-- a machine that gives a reason to end is over, and stands there for that reason
over_by : (alarm : Option Alarm) (finished : Bool) (e : Reason) → end_by alarm finished ≡ Some e
    → ((is_some alarm || finished) ≡ true) × (reason_by alarm finished ≡ e)
over_by (Some alarm) finished e is = (refl, cc)
over_by None true e is = (refl, cc)
over_by None false e is = absurd (cc)

-- a machine that gives no reason to end has no alarm, and not both paths are at their ends
open_by : (alarm : Option Alarm) (finished : Bool) → end_by alarm finished ≡ None → (is_some alarm || finished) ≡ false
open_by (Some alarm) finished is = absurd (cc)
open_by None true is = absurd (cc)
open_by None false is = refl

-- if there is no alarm and not both paths are at their ends, the machine has no reason to end
no_end_by : (alarm : Option Alarm) (finished : Bool) → (is_some alarm || finished) ≡ false → end_by alarm finished ≡ None
no_end_by (Some alarm) finished is = absurd (cc)
no_end_by None true is = absurd (cc)
no_end_by None false is = refl

-- a machine that is not over has no reason to end
pub not_ended : (m : MachineView) → is_over m ≡ false → machine_end m ≡ None
not_ended m is = no_end_by m.alarm (m.paths.one.finished && m.paths.two.finished) is

-- if all records are flushed, all are sent, whether the journal can be written or not
sent_all : (live : Bool) (flushed all : ℕ) → flushed ≡ all → (if live then flushed else all) ≡ all
sent_all true flushed all same = same
sent_all false flushed all same = refl

-- if no more than all records are flushed, no more than all are sent
sent_within : (live : Bool) (flushed all : ℕ) → flushed ≤ all → (if live then flushed else all) ≤ all
sent_within true flushed all within = within
sent_within false flushed all within = omega arith

-- the journal of a table may be written, unless the table was stopped by a fault of the disk
abbrev pub IsLive : {D : Type 0} → TableView D → Type 0
IsLive t = (t.halt ≡ Some halt.Disk → ⊥) → IsTrue t.recording.log.file.live

-- what stopped a table that may be run is no fault of the disk
pub no_disk_fault : (why : Option Halt) → IsNoneOrAlarm why → why ≡ Some halt.Disk → ⊥
no_disk_fault why may is = subst IsNoneOrAlarm is may

-- what unfinished blocks have read says nothing of where a path stands
bare_stands : (pair : Verified) (m : MachineView) (path : Path) (r : Resting) → StandsAsTold pair m path r → StandsAsTold pair (without_reads m) path r
bare_stands pair m One Unasked stands = stands
bare_stands pair m One (Asked code) stands = stands
bare_stands pair m One (Rests code) stands = stands
bare_stands pair m Two Unasked stands = stands
bare_stands pair m Two (Asked code) stands = stands
bare_stands pair m Two (Rests code) stands = stands

-- A table that was run for so many records at most, and what has come of it: the table `old` before
-- and `new` after, with the turrets before and after and how many moves each missed. It was not
-- over, and at most 64 records wait to be flushed.
module _ {D : Type 0} (state : D → DiskState) (small : AreSmall state) (limit : ℕ) (old new : TableView D) (may : MayRun old)
    (behind : old.machine ≡ machine_behind old.verified old.recording.history) (unended : is_over old.machine ≡ false)
    (since : Since state (record old { budget = limit }) new)
    (kept : IsKept (tapes_in new.verified) (opening_of new.verified) new.recording.history new.machine)
    (few : length new.recording.history ≤ new.verified.settings.records)
    (pending : length new.recording.history ≤ new.recording.flushed + 64)
    (header : Header) (journaled : IsJournaled state header old.recording) (before after : Both TurretState) (missed : Both ℕ) where
  -- the records that the table found
  abbrev pub found : List Entry
  found = old.recording.history

  -- all records at the end
  abbrev pub history : List Entry
  history = new.recording.history

  -- how many records the disk holds at least
  abbrev pub least : ℕ
  least = new.recording.flushed

  -- the records that the run of this table made
  abbrev pub made : List Entry
  made = since.made

  -- the disk and the turrets before the run
  abbrev pub d : LatheState
  d = lathe_with (state old.recording.log.file.disk) before

  -- the disk and the turrets after the run, with the moves missed
  abbrev pub e : LatheState
  e = record { disk = state new.recording.log.file.disk; turrets = after; missed = missed }

  -- the session that the run of this table is
  abbrev pub session : Session
  session = record { header = header; pair = new.verified; found = found; history = history }

  -- all records begin with those that were found
  begins : take (length found) history ≡ found
  begins = ap (take (length found)) since.recording.history ∙ take-append_seam found made

  -- there are as many records as were found and made
  longer : length history ≡ length found + length made
  longer = ap length since.recording.history ∙ length-append found made

  -- the machine at the opening
  machine_is : old.machine ≡ machine_behind new.verified found
  machine_is = behind ∙ ap (λ (pair : Verified). machine_behind pair found) (sym since.verified)

  -- the run was not over when it was found
  still : is_over (machine_behind new.verified found) ≡ false
  still = ap is_over (sym machine_is) ∙ unended

  -- the records go on, from those found to those at the end
  pub goes_on : GoesOn new.verified found history
  goes_on = record {
    history_is = record { legal = kept.legal; few = few };
    extends = begins;
    rests = λ over_now. let open_now = still in absurd (cc);
  }

  -- if the machine of the table gives a reason to end, the session ended for it
  is_ended : (x : Reason) → machine_end new.machine ≡ Some x → NoneFailed d e → EndsBy limit session d e x
  is_ended x is calm =
      let by = over_by new.machine.alarm (new.machine.paths.one.finished && new.machine.paths.two.finished) x is in
      let here : is_over (machine_behind new.verified history) ≡ true = subst (λ (m : MachineView). is_over m ≡ true) (sym kept.folds) by.0 in
      let says : reason_of (machine_behind new.verified history) ≡ x =
      subst (λ (m : MachineView). reason_of m ≡ x) (sym kept.folds) by.1 in
      subst (EndsBy limit session d e) says (over here calm)

  -- a machine without a reason is not over at the end
  is_open : machine_end new.machine ≡ None → is_over (machine_behind new.verified history) ≡ false
  is_open is =
      subst (λ (m : MachineView). is_over m ≡ false) (sym kept.folds)
      (open_by new.machine.alarm (new.machine.paths.one.finished && new.machine.paths.two.finished) is)

  -- if nothing is left to be made, as many records were made as were allowed
  spent : new.budget ≡ 0 → length history ≡ length found + limit
  spent none = omega (arith, none, longer, since.budget)

  -- if the journal may be written and each turret got all that is due, no call failed
  calm_by : IsTrue new.recording.log.file.live → ((path : Path) → GetsAll (due_to_turret path old new) (of_path before path) (of_path after path))
      → NoneFailed d e
  calm_by live got = record { disk = since.recording.calm live; turrets = λ path. (got path).gets.counted.kept (λ is. absurd cc) }

  -- why the table ended is why the session ended
  ends_by : (x : Reason) → running.EndsBy state old new x
      → ((path : Path) → GetsAt x (due_to_turret path old new) (of_path before path) (of_path after path)) → EndsBy limit session d e x
  ends_by Reason.Done ends got = is_ended Reason.Done ends.machine (calm_by ends.live got)
  ends_by (Reason.Alarm alarm) ends got = is_ended (Reason.Alarm alarm) ends.machine (calm_by ends.live got)
  ends_by Reason.Full ends got = full (is_open ends.0.machine) ends.1 (calm_by ends.0.live got)
  ends_by Reason.Stopped ends got = stopped (is_open ends.0.machine) (spent ends.2) ends.1 (calm_by ends.0.live got)
  ends_by Reason.DiskFault ends got = disk_failed ends.1
  ends_by (Reason.TurretFault path) ends got = absurd ends

  -- no more records were made than were allowed
  no_more : length history ≤ length found + limit
  no_more = omega (arith, longer, since.budget)

  -- no more records were flushed before the run than were found
  within : old.recording.flushed ≤ length found
  within = omega (arith, may.all)

  -- the disk holds all that were found, no more than there are, and all but 64 at most
  most : AreMost session least
  most = record {
    found = omega (arith, may.all, since.recording.flushed);
    most = pending;
    within = (since.recording.sends within).within;
  }

  -- the disk holds as many records as the reason asks for
  enough : (x : Reason) → running.EndsBy state old new x → IsLeast x session least
  enough Reason.Done ends = ends.may.all
  enough (Reason.Alarm alarm) ends = ends.may.all
  enough Reason.Full ends = ends.0.may.all
  enough Reason.Stopped ends = ends.0.may.all
  enough Reason.DiskFault ends = most
  enough (Reason.TurretFault path) ends = absurd ends

  -- what is due by the table is due by the session
  due_is : (path : Path) → due_to_turret path old new ≡ due_to session least new.resting path
  due_is path =
      ap (λ (m : MachineView). turret_told (position_of path m) (told_made new.verified path (length found) least history ++ rest_told (of_path new.resting path))) machine_is

  -- what a turret got in full by the table, it got by the session
  got_all : (path : Path) → GetsAll (due_to_turret path old new) (of_path before path) (of_path after path)
      → GetsAll (due_to session least new.resting path) (of_path before path) (of_path after path)
  got_all path got = subst (λ (what : List Got). GetsAll what (of_path before path) (of_path after path)) (due_is path) got

  -- a turret that got a prefix of what is due by the table got a prefix of what is due by the
  -- session
  got_some : (path : Path) → GetsSome (due_to_turret path old new) (of_path before path) (of_path after path)
      → GetsSome (due_to session least new.resting path) (of_path before path) (of_path after path)
  got_some path got = subst (λ (what : List Got). GetsSome what (of_path before path) (of_path after path)) (due_is path) got

  -- each turret missed what it did not get of what is due by the table
  abbrev pub Missing : Type 0
  Missing = (path : Path) → Misses (due_to_turret path old new) (of_path missed path) (of_path before path) (of_path after path)

  -- what a turret missed by the table it missed by the session
  missing : Missing → (path : Path) → Misses (due_to session least new.resting path) (of_path missed path) (of_path before path) (of_path after path)
  missing miss path =
      subst (λ (what : List Got). Misses what (of_path missed path) (of_path before path) (of_path after path)) (due_is path) (miss path)

  -- unless the disk failed, a path whose turret was told to rest for a wait that is not recorded stands
  -- before that wait
  abbrev pub Standing : Type 0
  Standing = new.halt ≢ Some halt.Disk → (path : Path) → StandsAsTold new.verified new.machine path (of_path new.resting path)

  -- then it does so at the end of the session
  stands_end : ((path : Path) → StandsAsTold new.verified new.machine path (of_path new.resting path)) → AreAsTold session new.resting
  stands_end stands path = subst (λ (m : MachineView). StandsAsTold new.verified m path (of_path new.resting path)) (sym kept.folds)
      (bare_stands new.verified new.machine path (of_path new.resting path) (stands path))

  -- both turrets are served as the reason says
  served : (x : Reason) → running.EndsBy state old new x → ((path : Path) → GetsAt x (due_to_turret path old new) (of_path before path) (of_path after path))
      → Standing → Missing → AreServed x session least before after missed
  served Reason.Done ends got stand miss = (new.resting, stands_end (stand (no_disk_fault new.halt ends.may.halt)), λ path. got_all path (got path), missing miss)
  served (Reason.Alarm alarm) ends got stand miss = (new.resting, stands_end (stand (no_disk_fault new.halt ends.may.halt)), λ path. got_all path (got path), missing miss)
  served Reason.Full ends got stand miss = (new.resting, stands_end (stand (no_disk_fault new.halt ends.0.may.halt)), λ path. got_all path (got path), missing miss)
  served Reason.Stopped ends got stand miss = (new.resting, stands_end (stand (no_disk_fault new.halt ends.0.may.halt)), λ path. got_all path (got path), missing miss)
  served Reason.DiskFault ends got stand miss = (new.resting, λ path. got_some path (got path), missing miss)
  served (Reason.TurretFault path) ends got stand miss = absurd ends

  -- what is due by the table is due by all records of the session, if the others make no moves
  due_whole : (whole : (p : Path) → due_by_all p old new ≡ due_to_turret p old new) (path : Path) → due_to_turret path old new ≡ due_to session (length history) new.resting path
  due_whole whole path =
      sym (whole path) ∙ ap (λ (m : MachineView). turret_told (position_of path m) (told_made new.verified path (length found) (length history) history ++ rest_told (of_path new.resting path))) machine_is

  -- what the turrets got and missed beside a fault of one by the table, they did by all records of
  -- the session
  failed_so : (path : Path) → ((p : Path) → due_by_all p old new ≡ due_to_turret p old new) → FailsAmong (due_to_turret path old new) (of_path before path) (of_path after path)
      → GetsBeside path (due_to_turret (other_of path) old new) (of_path before (other_of path)) (of_path after (other_of path))
      → ((p : Path) → StandsAsTold new.verified new.machine p (of_path new.resting p)) → Missing → AreFailed path session before after missed
  failed_so path whole failed other stands miss = record {
    resting = new.resting;
    stands = stands_end stands;
    failed = subst (λ (what : List Got). FailsAmong what (of_path before path) (of_path after path)) (due_whole whole path) failed;
    other =
        subst (λ (what : List Got). GetsBeside path what (of_path before (other_of path)) (of_path after (other_of path))) (due_whole whole (other_of path)) other;
    misses = λ p. subst (λ (what : List Got). Misses what (of_path missed p) (of_path before p) (of_path after p)) (due_whole whole p) (miss p);
  }

  -- what the turrets got and missed, as a session has it: the run was not over at its opening
  theirs : (reason : Reason) → AreServed reason session least before after missed → GetTheirs reason session least d e
  theirs reason are = record { over = λ over_now. let open_now = still in absurd (cc); goes_on = λ open_now. are }

  -- how the run ended is how the session ended
  pub ending : (x : Reason) → running.EndsBy state old new x
      → ((path : Path) → GetsAt x (due_to_turret path old new) (of_path before path) (of_path after path)) → Standing → Missing
      → IsEnding limit x session least d e
  ending x ends got stand miss = record {
    few = no_more;
    cause = ends_by x ends got;
    enough = enough x ends;
    turrets = theirs x (served x ends got stand miss);
  }

  -- if the turret of a path failed and no call of the disk, that is how the session ended
  pub failing : (path : Path) → e.disk.faults ≡ d.disk.faults → ((p : Path) → due_by_all p old new ≡ due_to_turret p old new)
      → FailsAmong (due_to_turret path old new) (of_path before path) (of_path after path)
      → GetsBeside path (due_to_turret (other_of path) old new) (of_path before (other_of path)) (of_path after (other_of path))
      → ((p : Path) → StandsAsTold new.verified new.machine p (of_path new.resting p)) → Missing → IsEnding limit (Reason.TurretFault path) session least d e
  failing path calm whole failed other stands miss = record {
    few = no_more;
    cause = turret_failed path (failed.1.gets.counted.rose refl) calm;
    enough = most;
    turrets = theirs (Reason.TurretFault path) (inl (failed_so path whole failed other stands miss));
  }

  -- a turret that failed at its place, in a run without a record
  pub unplaced : (path : Path) → Stays old new → FailsPlace (position_of path old.machine) (of_path before path) (of_path after path)
      → StandsBeside path (position_of (other_of path) old.machine) (of_path before (other_of path)) (of_path after (other_of path))
      → missed ≡ none_missed → IsEnding limit (Reason.TurretFault path) session least d e
  unplaced path same failed other none = record {
    few = no_more;
    cause = turret_failed path failed.rose (ap (λ (file : Gate D). (state file.disk).faults) same.file);
    enough = most;
    turrets = theirs (Reason.TurretFault path)
        (inr (record {
          none = same.history;
          failed = subst (λ (m : MachineView). FailsPlace (position_of path m) (of_path before path) (of_path after path)) machine_is failed;
          other =
              subst (λ (m : MachineView). StandsBeside path (position_of (other_of path) m) (of_path before (other_of path)) (of_path after (other_of path)))
              machine_is other;
          misses = none;
        }));
  }

  -- the records that were sent before the run are those found
  sent_old : sent_count old.recording ≡ length found
  sent_old = sent_all old.recording.log.file.live old.recording.flushed (length found) may.all

  -- no more records are sent than there are
  sent_new : sent_count new.recording ≤ length history
  sent_new = sent_within new.recording.log.file.live new.recording.flushed (length history) (since.recording.sends within).within

  -- the records that were not flushed before are those made
  rest_is : drop old.recording.flushed history ≡ made
  rest_is = ap (λ n. drop n history) may.all ∙ ap (drop (length found)) since.recording.history ∙ drop-append_seam found made

  -- the bytes of all records are those of the found and of the made ones
  bytes_are : length (records_bytes history) ≡ length (records_bytes found) + length (records_bytes made)
  bytes_are =
      ap (λ (l : List Entry). length (records_bytes l)) since.recording.history ∙ ap length (flat_map-append entry_bytes found made)
      ∙ length-append (records_bytes found) (records_bytes made)

  -- each record found was flushed
  all_flushed : take old.recording.flushed found ≡ found
  all_flushed = ap (λ n. take n found) may.all ∙ take-length found

  -- a journal that may be written holds all that was found
  found_held : (bytes : List ℕ) → Reads d.disk bytes → IsTrue old.recording.log.file.live
      → Holds header old.recording.log.version found d.disk old.recording.log.file.end
  found_held bytes reads live =
      subst (λ (l : List Entry). Holds header old.recording.log.version l d.disk old.recording.log.file.end) all_flushed (journaled.held bytes reads live)

  -- a journal that may be written now could be written before
  lived : (live : Bool) → old.recording.log.file.live ≡ live → IsTrue new.recording.log.file.live → IsTrue old.recording.log.file.live
  lived true is now = is
  lived false dead now = subst (λ (file : Gate D). IsTrue file.live) (since.recording.rests dead) now

  -- a journal that may be written now has the version that it had
  same_version : IsTrue new.recording.log.file.live → (bytes : List ℕ) → Reads d.disk bytes → KeepsVersion session least d.disk e.disk
  same_version live bytes reads =
      let told = since.recording.told bytes reads in
      let held = (since.recording.journal header journaled).journaled.held told.0 told.1 live in
      keeps_version session least d.disk e.disk old.recording.log.version
      (old.recording.log.file.end, found_held bytes reads (lived old.recording.log.file.live refl live)) (
        new.recording.log.file.end,
        subst (λ (v : Version). Holds header v (take least history) e.disk new.recording.log.file.end) since.recording.version held,
      )

  -- a call of the disk failed, or the journal has the version that it had
  version_kept : IsLive new → (bytes : List ℕ) → Reads d.disk bytes → Rose d.disk.faults e.disk.faults ⊎ KeepsVersion session least d.disk e.disk
  version_kept live bytes reads =
      ⊎_elim (λ is. ⊎_elim (λ was. absurd (no_disk_fault old.halt may.halt was)) (λ rose. inl rose) (since.cause is))
      (λ other. inr (same_version (live other) bytes reads)) (is_disk_or_not new.halt)

  -- how far the disk was written: not past the end of the session's journal
  reaches : (live : Bool) → old.recording.log.file.live ≡ live → (bytes : List ℕ) → Reads d.disk bytes → e.disk.reach ≤ max d.disk.reach (end_of session)
  reaches false dead bytes reads =
      let same : e.disk.reach ≡ d.disk.reach = ap (λ (file : Gate D). (state file.disk).reach) (since.recording.rests dead) in
      omega (arith, same)
  reaches true is bytes reads =
      let live : IsTrue old.recording.log.file.live = is in
      let holds = found_held bytes reads live in
      let end_is = small old.recording.log.file.disk header old.recording.log.version found old.recording.log.file.end holds in
      let most : most_bytes (drop old.recording.flushed history) ≡ most_bytes made = ap most_bytes rest_is in
      omega (arith, end_is, most, bytes_are, longer, (since.recording.sends within).uses.reach bytes reads)

  -- how many calls the disk got, and how far they reach: at most four for each record made
  uses : Uses (4 * (length history - length found)) (end_of session) d.disk e.disk
  uses = record {
    calls = λ bytes reads. omega (arith, (since.recording.sends within).uses.calls bytes reads, sent_old, sent_new, (since.recording.sends within).more);
    reach = reaches old.recording.log.file.live refl;
    told = (since.recording.sends within).uses.told;
    untold = (since.recording.sends within).uses.untold;
    allows = (since.recording.sends within).uses.allows;
  }

  -- what the run did to the disk is what going on may do
  pub keeps_going : IsLive new → KeepsGoing session least d.disk e.disk
  keeps_going live = record {
    left = λ bytes reads c image.
        let moves_told = since.recording.told bytes reads in
        (since.recording.journal header journaled).journaled.left moves_told.0 moves_told.1 c image;
    moments = λ bytes reads.
        subst (λ n. LeavesOnly (StandsForPrefix header n history) d.disk e.disk) may.all ((since.recording.journal header journaled).any_moment bytes reads);
    over = λ over_now. let open_now = still in absurd (cc);
    version = version_kept live;
    uses = uses;
    later = since.recording.later;
  }
