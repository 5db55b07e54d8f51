-- A session: an opening of the disk, and a run that goes on from it.
-- RunsBegun, RunsFound and the proofs of most commands use it.
use Rattle.std.proofs.Common.{◌≡◌, inl, inr, ⊎_elim, ℕ, ◌+◌, ◌-◌, ◌*◌, ◌≤◌, max, List, [], length, take, Ok, refl, ap, arith, ◌∙◌}
use Rattle.std.proofs.lemmas.List.{length-take}
use Rattle.nc_outside.specs.Received.{TurretState}
use Rattle.nc_number.specs.declared.both.Both.{Both}
use Rattle.disk_model.specs.Device.{DiskState, IsCoherent, Reads}
use Rattle.disk_model.specs.Moments.{LeavesOnly, Uses}
use Rattle.disk_model.proofs.Runs.{uses_add, uses_widened, unwritten_none, uses_none}
use Rattle.nc_outside.specs.declared.reason.Reason.{Reason}
use Rattle.nc_verify.specs.declared.verified.Verified.{Verified}
use Rattle.nc_verify.specs.Verdict.{Texts}
use Rattle.run_records.specs.Entries.{Entry}
use Rattle.run_records.specs.declared.header.Header.{Header}
use Rattle.run_records.specs.Headers.{header_bytes}
use Rattle.run_journal.specs.Beginning.{BeginsRun}
use Rattle.two_path.specs.Stuck.{IsFree}
use Rattle.nc_restart.specs.Pair.{texts_of, IsPairOf, tapes_in, machine_behind}
use Rattle.nc_restart.specs.History.{IsHistory}
use Rattle.nc_restart.specs.Recovered.{FoundRun, Recovers}
use Rattle.lathe_top.specs.Lathe.{LatheState, lathe_with}
use Rattle.lathe_top.specs.Session.{Session, NoneFailed, EndsBy, over, full, stopped, disk_failed, turret_failed, GoesOn, IsSession}
use Rattle.lathe_top.specs.Turrets.{IsEnding, IsUnprepared}
use Rattle.lathe_top.specs.Kept.{Opening, anew, again, opening_calls, IsOfOpening, end_of, KeepsSession, RestsWhole}
use Rattle.lathe_top.specs.Going.{Standing, session_to, KeepsGoing}

-- An opening, in which no call failed and no turret was called, and a run after it. `a` is the disk
-- before the call, `b` after the opening; `before` are the turrets before, and `c` is what the run
-- leaves.
module _ (limit : ℕ) (s : Session) (a b : DiskState) (before : Both TurretState) (c : LatheState) (opened : b.faults ≡ a.faults) where
  -- what did not fail since the opening did not fail since the call began
  calm_since : NoneFailed (lathe_with b before) c → NoneFailed (lathe_with a before) c
  calm_since calm = record { disk = calm.disk ∙ opened; turrets = calm.turrets }

  -- a reason that holds since the opening holds since the call began
  ends_since : {reason : Reason} → EndsBy limit s (lathe_with b before) c reason
      → EndsBy limit s (lathe_with a before) c reason
  ends_since (over is calm) = over is (calm_since calm)
  ends_since (full unended is calm) = full unended is (calm_since calm)
  ends_since (stopped unended is less calm) = stopped unended is less (calm_since calm)
  ends_since (disk_failed rose) = disk_failed (omega (arith, opened, rose))
  ends_since (turret_failed path rose calm) = turret_failed path rose (calm ∙ opened)

-- an end of a session that holds since the opening holds since the call began
pub ending_since : (limit : ℕ) (s : Session) (a b : DiskState) (before : Both TurretState) (c : LatheState) (reason : Reason) (least : ℕ) → b.faults ≡ a.faults
    → IsEnding limit reason s least (lathe_with b before) c
    → IsEnding limit reason s least (lathe_with a before) c
ending_since limit s a b before c reason least opened ends = record {
  few = ends.few;
  cause = ends_since limit s a b before c opened ends.cause;
  enough = ends.enough;
  turrets = record { over = ends.turrets.over; goes_on = ends.turrets.goes_on };
}

-- the records that were found are no more than those at the end
no_fewer : (found history : List Entry) → take (length found) history ≡ found → length found ≤ length history
no_fewer found history begins = omega (arith, ap length begins, length-take (length found) history)

-- An opening that makes so many calls and leaves an image of its kind, before a run that goes on.
-- `a` is the disk before the call, `begun` after the opening, and `c` at the end.
module _ {D : Type 0} (state : D → DiskState) (opening : Opening) (s : Session) (least calls end : ℕ) (a : DiskState) (begun : D) (c : DiskState)
    (uses : Uses calls end a (state begun))
    (moments : (bytes : List ℕ) → Reads a bytes → LeavesOnly (IsOfOpening opening s a.image) a (state begun))
    (later : a.faults ≤ (state begun).faults) (few : calls ≤ opening_calls opening + 4 * length s.found) (within : end ≤ end_of s)
    (no_less : length s.found ≤ length s.history) (keeps : KeepsGoing s least (state begun) c) where
  -- the opening and the run that goes on are what a session may do to the disk
  pub keeps_session : KeepsSession state opening s least a c
  keeps_session = record {
    begun = begun;
    opens = moments;
    goes = λ bytes reads. let told = uses.told bytes reads in keeps.moments told.0 told.1;
    left = λ bytes reads. let told = uses.told bytes reads in keeps.left told.0 told.1;
    over = keeps.over;
    version = λ bytes reads.
        let told = uses.told bytes reads in
        ⊎_elim (λ rose. inl (omega (arith, later, rose))) (λ version. inr version) (keeps.version told.0 told.1);
    uses = uses_widened (calls + 4 * (length s.history - length s.found)) (opening_calls opening + 4 * length s.history) (max end (end_of s)) (end_of s) a c
        (uses_add calls (4 * (length s.history - length s.found)) end (end_of s) a (state begun) c uses keeps.uses)
        (omega (arith, few, no_less)) (omega (arith, within));
    later = omega (arith, later, keeps.later);
  }

-- the law that no history of a pair is stuck
abbrev pub NoneIsStuck : Type 0
NoneIsStuck = (texts : Texts) (pair : Verified) (entries : List Entry) → IsPairOf texts pair → IsHistory pair entries
    → IsFree (tapes_in pair) (machine_behind pair entries)

-- a run that goes on is a session
pub is_session : NoneIsStuck → (run : Standing) (history : List Entry) → IsPairOf (texts_of run.header) run.pair → GoesOn run.pair run.found history
    → IsSession (session_to run history)
is_session law run history accepted goes = record {
  accepted = accepted;
  goes_on = goes;
  free = law (texts_of run.header) run.pair history accepted goes.history_is;
}

-- a new journal and the run that goes on after it do to the disk what a session may
pub begun_keeps : {A D : Type 0} (state : D → DiskState) (header : Header) (a : DiskState) (begun : D) (c : DiskState) (answer : A)
    → BeginsRun {A = A} header a (state begun) (Ok answer) → (pair : Verified) (history : List Entry) (least : ℕ)
    → KeepsGoing (record { header = header; pair = pair; found = []; history = history }) least (state begun) c
    → KeepsSession state anew (record { header = header; pair = pair; found = []; history = history }) least a c
begun_keeps state header a begun c answer begins pair history least keeps =
    let s : Session = record { header = header; pair = pair; found = []; history = history } in
    keeps_session state anew s least 12 (length (header_bytes header) + 6) a begun c begins.uses begins.any_moment begins.later
    (omega arith) (omega arith) (omega arith) keeps

-- a recovery and the run that goes on after it do to the disk what a session may
pub found_keeps : {D : Type 0} (state : D → DiskState) (found : FoundRun) (a : DiskState) (begun : D) (c : DiskState)
    → Recovers a (state begun) (Ok found) → (pair : Verified) (history : List Entry) (least : ℕ)
    → take (length found.entries) history ≡ found.entries
    → KeepsGoing (record { header = found.header; pair = pair; found = found.entries; history = history }) least (state begun) c
    → KeepsSession state again (record { header = found.header; pair = pair; found = found.entries; history = history }) least a c
found_keeps state found a begun c recovers pair history least begins keeps =
    let s : Session = record { header = found.header; pair = pair; found = found.entries; history = history } in
    let no_less = no_fewer found.entries history begins in
    let more : 4 * length found.entries + 16 ≤ 20 + 4 * length found.entries = omega arith in
    let nothing_written : 0 ≤ end_of s = omega arith in
    keeps_session state again s least (4 * length found.entries + 16) 0 a begun c recovers.found.uses (λ bytes reads. recovers.unwritten.moments)
    recovers.later more nothing_written no_less keeps

-- if no call of the disk and none of a turret was made, both rest
pub none_called : (disk : DiskState) (turrets : Both TurretState) → IsCoherent disk
    → RestsWhole (lathe_with disk turrets) (lathe_with disk turrets)
none_called disk turrets coherent = record {
  disk = record { unwritten = unwritten_none disk coherent; uses = uses_none 0 0 disk; faults = refl };
  turrets = (refl, refl);
}

-- a run that did not begin since the opening did not begin since the call began
pub unprepared_since : (s : Session) (a b : DiskState) (before : Both TurretState) (c : LatheState) (least : ℕ)
    → IsUnprepared s least (lathe_with b before) c → IsUnprepared s least (lathe_with a before) c
unprepared_since s a b before c least none = record { unended = none.unended; none = none.none; all = none.all; places = none.places; missed = none.missed }
