-- How a run with turrets ends, from what its threads and the turns after them left.
-- The proofs of `end_of_run` (src/rest.rt), `run_opened` and `run_with_turrets` (src/run.rt) use
-- it.
use Rattle.std.proofs.Common.{arith, ◌≡◌, ◌≢◌, ℕ, Bool, true, false, List, [], ◌∷◌, ◌++◌, drop, take, length, refl, ap, sym, ◌∙◌, subst, Option, Some, None, ⊎_elim, inl, inr}
use Rattle.std.specs.Prelude.{IsTrue, IfSome, IfNone, Result, Ok, Err}
use Rattle.std.proofs.lemmas.List.{drop_all}
use Rattle.std.proofs.Math.Seq.{take-length, take-append_seam}
use Rattle.disk_model.specs.Device.{DiskState, Rose}
use Rattle.gate_file.specs.Gate.{Gate}
use Rattle.nc_number.specs.declared.both.Both.{Both}
use Rattle.nc_number.specs.declared.fault.NoMemory.{NoMemory}
use Rattle.nc_number.specs.declared.path.Path.{Path}
use Rattle.nc_number.specs.declared.path.Path.TheVariants.{One, Two}
use Rattle.nc_number.specs.Both.{of_path}
use Rattle.nc_number.specs.Path.{other_of}
use Rattle.nc_outside.specs.declared.halt.Halt.{Halt}
use Rattle.nc_outside.specs.declared.halt.Halt.TheVariants as halt
use Rattle.nc_outside.specs.declared.reason.Reason.{Reason}
use Rattle.nc_outside.specs.declared.reason.Reason.TheVariants as reason
use Rattle.nc_outside.specs.Reasons.{first_cause}
use Rattle.nc_outside.specs.Received.{TurretState}
use Rattle.run_records.specs.Entries.{Entry}
use Rattle.run_records.specs.declared.version.Version.{Version}
use Rattle.two_path.specs.Machine.{MachineView, position_of}
use Rattle.two_path.specs.Histories.{fold}
use Rattle.drive_line.specs.Driving.{DrivenState, has_failed, Serves}
use Rattle.nc_outside.specs.declared.got.Got.TheVariants.{Rested}
use Rattle.nc_outside.specs.declared.rest.Rest.TheVariants.{End}
use Rattle.run_table.specs.declared.resting.Resting.{Resting}
use Rattle.run_table.specs.Draining.{none_resting, rest_told, StandsAsTold}
use Rattle.run_table.specs.Ending.{IsAtEnd, HasEnded as Ends, HasNotEnded}
use Rattle.run_table.specs.Holding.{HeldView, held_of, IsOf, ShowsFlushed, MayHoldAgain, answered_from, records_since, told_since, without_turret}
use Rattle.run_table.specs.Kept.{TableView, tapes_in, opening_of}
use Rattle.run_table.specs.Made.{joined, told_from, told_made}
use Rattle.run_table.specs.Recording.{RecordingView, Follows}
use Rattle.run_table.specs.Running.{EndsBy, IsNoneOrAlarm}
use Rattle.run_table.specs.Since.{Since}
use Rattle.turret_run.specs.Served.{place_told, turret_told, IsPlaced, FailsPlace, GetsAll, GetsPart, FailsAmong, Misses}
use Rattle.turret_run.specs.Runs.{due_to_turret, due_by_all, GetsAt, GetsBeside, StandsBeside, none_missed, Stays, HasEnded, HasFailed, IsNotPlaced, RunsWith}
use Rattle.turret_run.specs.Rests.{ArePlaced, FailsAtPlace, cause_behind, first_by, first_failed, HasCause}
use Rattle.turret_run.proofs.TurretsGet.{GotBy, placed_part, served, all_of, fails_of, some_of, misses_of, either_of}

-- a recording with these records, so many of which are flushed, with this file and a journal of
-- this version
abbrev with_file : {D : Type 0} → RecordingView D → List Entry → ℕ → Gate D → Version → RecordingView D
with_file r history flushed file version =
    record { history = history; room = r.room; flushed = flushed; log = record r.log { file = file; version = version } }

-- if the recording `b`, with the records and the file of `a` put into it, leads to `new`, so does
-- `a`
follows_with : {D : Type 0} (state : D → DiskState) (made : List Entry) (a b new : RecordingView D)
    → Follows state made (with_file b a.history a.flushed a.log.file a.log.version) new → Follows state made a new
follows_with state made a b new p = record {
  history = p.history;
  flushed = p.flushed;
  version = p.version;
  journal = λ header j.
      let k = p.journal header (record { held = j.held; left = j.left }) in
      record { journaled = k.journaled; any_moment = k.any_moment };
  sends = λ within. let s = p.sends within in record { within = s.within; more = s.more; uses = s.uses; end = s.end };
  told = p.told;
  rests = p.rests;
  later = p.later;
  calm = p.calm;
}

-- What comes of a recording follows any other with the same records, as many of them flushed, and
-- the same file of the same version.
follows_as : {D : Type 0} (state : D → DiskState) (made : List Entry) (a b new : RecordingView D) → b.history ≡ a.history → b.flushed ≡ a.flushed
    → b.log.file ≡ a.log.file → b.log.version ≡ a.log.version → Follows state made b new → Follows state made a new
follows_as state made a b new history flushed file version p = follows_with state made a b new
    (subst (λ v. Follows state made (with_file b a.history a.flushed a.log.file v) new) version
    (subst (λ x. Follows state made (with_file b a.history a.flushed x b.log.version) new) file
    (subst (λ n. Follows state made (with_file b a.history n b.log.file b.log.version) new) flushed
    (subst (λ l. Follows state made (with_file b l b.flushed b.log.file b.log.version) new) history p))))

-- a table is as it was if nothing was done
pub all_stays : {D : Type 0} (t : TableView D) → Stays t t
all_stays t = record { verified = refl; machine = refl; history = refl; flushed = refl; file = refl; version = refl; halt = refl }

-- a table that got leave and room for its records, and is else as it was
module _ {D : Type 0} (state : D → DiskState) (limit : ℕ) (old ready : TableView D) (stays : Stays old ready) (leave : ready.budget ≡ limit) where
  -- what comes of the table that was made ready is what comes of the old one with that leave
  pub since_ready : (new : TableView D) → Since state ready new → Since state (record old { budget = limit }) new
  since_ready new since = record {
    verified = since.verified ∙ stays.verified;
    made = since.made;
    recording = follows_as state since.made old.recording ready.recording new.recording stays.history stays.flushed stays.file stays.version since.recording;
    budget = since.budget ∙ leave;
    cause = λ is. ⊎_elim (λ before. inl (sym stays.halt ∙ before))
        (λ rose. inr (subst (λ (file : Gate D). Rose (state file.disk).faults (state new.recording.log.file.disk).faults) stays.file rose)) (since.cause is);
  }

  -- why the ready table's run ended is why that of the old one did
  ends_ready : (new : TableView D) (end : Reason) → EndsBy state ready new end → EndsBy state old new end
  ends_ready new (reason.Alarm alarm) e = e
  ends_ready new reason.Done e = e
  ends_ready new reason.Full e = e
  ends_ready new reason.Stopped e = e
  ends_ready new (reason.TurretFault path) e = e
  ends_ready new reason.DiskFault e =
      (e.0, subst (λ (file : Gate D). Rose (state file.disk).faults (state new.recording.log.file.disk).faults) stays.file e.1)

  -- what is due to a turret of the ready table is due by the old one
  pub due_ready : (path : Path) (new : TableView D) → due_to_turret path ready new ≡ due_to_turret path old new
  due_ready path new =
      ap (λ (m : MachineView). due_to_turret path (record ready { machine = m }) new) stays.machine
      ∙ ap (λ (n : ℕ). turret_told (position_of path old.machine) (told_made new.verified path n new.recording.flushed new.recording.history ++ rest_told (of_path new.resting path))) (ap length stays.history)

  -- what would be due by all records to a turret of the ready table would be due by the old one
  all_ready : (path : Path) (new : TableView D) → due_by_all path ready new ≡ due_by_all path old new
  all_ready path new =
      ap (λ (m : MachineView). due_by_all path (record ready { machine = m }) new) stays.machine
      ∙ ap (λ (n : ℕ). turret_told (position_of path old.machine) (told_made new.verified path n (length new.recording.history) new.recording.history ++ rest_told (of_path new.resting path))) (ap length stays.history)

  -- what stays of the ready table stays of the old one
  stays_ready : (new : TableView D) → Stays ready new → Stays old new
  stays_ready new same = record {
    verified = same.verified ∙ stays.verified;
    machine = same.machine ∙ stays.machine;
    history = same.history ∙ stays.history;
    flushed = same.flushed ∙ stays.flushed;
    file = same.file ∙ stays.file;
    version = same.version ∙ stays.version;
    halt = same.halt ∙ stays.halt;
  }

  -- what holds beside a failed turret for the ready table holds for the old one
  stands_ready : (path other : Path) (a b : TurretState) → StandsBeside path (position_of other ready.machine) a b → StandsBeside path (position_of other old.machine) a b
  stands_ready One other a b same = same
  stands_ready Two other a b place = subst (λ (m : MachineView). IsPlaced (position_of other m) a b) stays.machine place

  -- how the run of the ready table ended is how that of the old one did
  ended_ready : (new : TableView D) (before after : Both TurretState) (missed : Both ℕ) (end : Reason) → HasEnded state ready.budget ready new before after missed end
      → HasEnded state limit old new before after missed end
  ended_ready new before after missed end r = record {
    since = since_ready new r.since;
    ends = ends_ready new end r.ends;
    turrets = λ path. subst (λ what. GetsAt end what (of_path before path) (of_path after path)) (due_ready path new) (r.turrets path);
    rests = r.rests;
    misses = λ path. subst (λ what. Misses what (of_path missed path) (of_path before path) (of_path after path)) (due_ready path new) (r.misses path);
  }

  -- if a turret failed in the run of the ready table, it failed in that of the table before
  failed_ready : (new : TableView D) (before after : Both TurretState) (missed : Both ℕ) (path : Path) → HasFailed state ready.budget ready new before after missed path
      → HasFailed state limit old new before after missed path
  failed_ready new before after missed path r = record {
    since = since_ready new r.since;
    disk = r.disk;
    calm = r.calm ∙ ap (λ (file : Gate D). (state file.disk).faults) stays.file;
    whole = λ p. sym (all_ready p new) ∙ r.whole p ∙ due_ready p new;
    failed = subst (λ what. FailsAmong what (of_path before path) (of_path after path)) (due_ready path new) r.failed;
    other = subst (λ what. GetsBeside path what (of_path before (other_of path)) (of_path after (other_of path))) (due_ready (other_of path) new) r.other;
    rests = r.rests;
    misses = λ p. subst (λ what. Misses what (of_path missed p) (of_path before p) (of_path after p)) (due_ready p new) (r.misses p);
  }

  -- if a turret failed at its place, that is so for the table before too
  unplaced_ready : (new : TableView D) (before after : Both TurretState) (missed : Both ℕ) (path : Path) → IsNotPlaced state ready.budget ready new before after missed path
      → IsNotPlaced state limit old new before after missed path
  unplaced_ready new before after missed path r = record {
    since = since_ready new r.since;
    same = stays_ready new r.same;
    disk = r.disk;
    failed = subst (λ (m : MachineView). FailsPlace (position_of path m) (of_path before path) (of_path after path)) stays.machine r.failed;
    other = stands_ready path (other_of path) (of_path before (other_of path)) (of_path after (other_of path)) r.other;
    none = r.none;
  }

  -- the run of a table that was made ready is one of the table before
  pub runs_ready : (new : TableView D) (before after : Both TurretState) (missed : Both ℕ) (end : Result Reason NoMemory)
      → RunsWith state ready.budget ready new before after missed end → RunsWith state limit old new before after missed end
  runs_ready new before after missed (Ok reason.Done) r = ended_ready new before after missed reason.Done r
  runs_ready new before after missed (Ok (reason.Alarm alarm)) r = ended_ready new before after missed (reason.Alarm alarm) r
  runs_ready new before after missed (Ok reason.Stopped) r = ended_ready new before after missed reason.Stopped r
  runs_ready new before after missed (Ok reason.Full) r = ended_ready new before after missed reason.Full r
  runs_ready new before after missed (Ok reason.DiskFault) r = ended_ready new before after missed reason.DiskFault r
  runs_ready new before after missed (Ok (reason.TurretFault path)) (inl r) = inl (failed_ready new before after missed path r)
  runs_ready new before after missed (Ok (reason.TurretFault path)) (inr r) = inr (unplaced_ready new before after missed path r)
  runs_ready new before after missed (Err none) r = record {
    same = stays_ready new r.same;
    turrets = λ path. subst (λ (m : MachineView). GetsPart (place_told (position_of path m)) (of_path before path) (of_path after path)) stays.machine (r.turrets path);
    none = r.none;
  }

-- what holds of path 1 and of path 2 holds of each
pub for_each : (P : Path → Type 0) → P One → P Two → (path : Path) → P path
for_each P one two One = one
for_each P one two Two = two

-- if no path is named, neither turret failed
none_by : (one two : Bool) → first_by one two ≡ None → (one ≡ false) × (two ≡ false)
none_by true two is = absurd cc
none_by false true is = absurd cc
none_by false false is = (refl, refl)

-- if no path is named as failed, the turret of each path works
none_failed : (failed : Both Bool) → first_failed failed ≡ None → (path : Path) → of_path failed path ≡ false
none_failed failed is One = (none_by failed.one failed.two is).0
none_failed failed is Two = (none_by failed.one failed.two is).1

-- a halt that is no fault of the disk is none either after a turret's fault was taken out of it
not_disk : (why : Option Halt) → why ≢ Some halt.Disk → without_turret why ≢ Some halt.Disk
not_disk None other is = absurd cc
not_disk (Some (halt.Alarm alarm)) other is = absurd cc
not_disk (Some halt.Disk) other is = other is
not_disk (Some (halt.Turret path)) other is = absurd cc
not_disk (Some halt.Full) other is = absurd cc
not_disk (Some halt.Budget) other is = absurd cc

-- a table that only an alarm may have stopped keeps no fault of the disk
pub calm_is_no_disk : (why : Option Halt) → IsNoneOrAlarm why → why ≢ Some halt.Disk
calm_is_no_disk None may is = absurd cc
calm_is_no_disk (Some (halt.Alarm alarm)) may is = absurd cc
calm_is_no_disk (Some halt.Disk) may is = may
calm_is_no_disk (Some (halt.Turret path)) may is = may
calm_is_no_disk (Some halt.Full) may is = may
calm_is_no_disk (Some halt.Budget) may is = may

-- a halt that is an alarm or none stays as it is when a turret's fault is taken out
pub calm_stays : (why : Option Halt) → IsNoneOrAlarm why → without_turret why ≡ why
calm_stays None may = refl
calm_stays (Some (halt.Alarm alarm)) may = refl
calm_stays (Some halt.Disk) may = absurd may
calm_stays (Some (halt.Turret path)) may = absurd may
calm_stays (Some halt.Full) may = absurd may
calm_stays (Some halt.Budget) may = absurd may

-- a table that is held from its opening on has told nothing since, if it had told no turret to rest
pub none_since : {D : Type 0} (opened : Option (TableView D)) (t : TableView D) (held : HeldView D) → opened ≡ Some t → held ≡ held_of t true → t.resting ≡ none_resting
    → (path : Path) → told_since opened held path ≡ []
none_since opened t held is held_is rests path = subst (λ o. told_since o held path ≡ []) (sym is) (subst (λ h. told_since (Some t) h path ≡ []) (sym held_is)
    (ap (λ l. joined (answered_from (tapes_in t.verified) (fold (tapes_in t.verified) (opening_of t.verified) t.recording.history) path true l) ++ rest_told (of_path t.resting path))
    (drop_all (length t.recording.history) t.recording.history (omega arith)) ∙ ap (λ (b : Both Resting). [] ++ rest_told (of_path b path)) rests ∙ none_told path))
  where
    none_told : (path : Path) → [] ++ rest_told (of_path none_resting path) ≡ []
    none_told One = refl
    none_told Two = refl

-- what each turret got in a run, after which the table was taken out
module _ {D : Type 0} (state : D → DiskState) (opened : Option (TableView D)) (start taken : TableView D) (held : HeldView D) (is : opened ≡ Some start)
    (of : IsOf state opened taken) (shown : ShowsFlushed opened held taken) where
  -- the table that was taken out has come of the one at the start
  pub taken_since : Since state start taken
  taken_since = subst (λ o. IsOf state o taken) is of

  -- a turret that was placed and then served what it was told got what is due but what it missed
  pub got : taken.resting ≡ held.resting → (path : Path) (before now : TurretState) (d : DrivenState) → IsPlaced (position_of path start.machine) before now
      → Serves (told_since opened held path ++ Rested End ∷ []) now d → GotBy (has_failed d.phase) d.missed (due_to_turret path start taken) before d.state
  got rests path before now d place s =
      let at : Serves (told_since (Some start) held path ++ Rested End ∷ []) now d = subst (λ o. Serves (told_since o held path ++ Rested End ∷ []) now d) is s in
      let told_of = subst (λ o. ShowsFlushed o held taken) is shown path in
      let made = told_made taken.verified path (length start.recording.history) taken.recording.flushed taken.recording.history in
      let all : told_since (Some start) held path ++ Rested End ∷ [] ≡ (made ++ rest_told (of_path taken.resting path)) ++ Rested End ∷ [] =
      λ i. (told_of i ++ rest_told (of_path (sym rests i) path)) ++ Rested End ∷ [] in
      served (position_of path start.machine) ((made ++ rest_told (of_path taken.resting path)) ++ Rested End ∷ []) before now d place (subst (λ l. Serves l now d) all at)

  -- unless the disk failed, the records that are not on the disk tell nothing
  pub none_beside : (taken.halt ≢ Some halt.Disk → MayHoldAgain state opened held taken) → taken.halt ≢ Some halt.Disk
      → (path : Path) → due_by_all path start taken ≡ due_to_turret path start taken
  none_beside again calm path =
      let shows = subst (λ o. ShowsFlushed o (held_of taken true) taken) is (again calm).may.shows path in
      ap (λ l. turret_told (position_of path start.machine) (l ++ rest_told (of_path taken.resting path))) (all_shown taken_since.verified taken_since.made taken_since.recording.history path ∙ shows)
    where
      all_shown : taken.verified ≡ start.verified → (made : List Entry) → taken.recording.history ≡ start.recording.history ++ made → (path : Path)
          → told_made taken.verified path (length start.recording.history) (length taken.recording.history) taken.recording.history
          ≡ joined (records_since (Some start) (held_of taken true) path)
      all_shown pair made grown path =
          let from = length start.recording.history in
          let history = taken.recording.history in
          let begins : take from history ≡ start.recording.history = ap (take from) grown ∙ take-append_seam start.recording.history made in
          λ i. joined (told_from (tapes_in (pair i)) (fold (tapes_in (pair i)) (opening_of (pair i)) (begins i)) path (drop from (take-length history i)))

-- a turret that was placed and got no move got no more than its place and the rest there
pub placed_only : (m : MachineView) (before now : Both TurretState) → ArePlaced m before now → (path : Path) → GetsPart (place_told (position_of path m)) (of_path before path) (of_path now path)
placed_only m before now placed path = placed_part (position_of path m) (of_path before path) (of_path now path) (placed path)

-- a turret failed at its place, and nothing else was done
module _ {D : Type 0} (state : D → DiskState) (limit : ℕ) (old ready : TableView D) (stays : Stays old ready) (leave : ready.budget ≡ limit)
    (itself : Since state ready ready) (may : IsNoneOrAlarm old.halt) (before after : Both TurretState) where
  -- a turret that failed at its place ends the run before its first record
  pub place_failed : (path : Path) → FailsAtPlace ready.machine before after path → IsNotPlaced state limit old ready before after none_missed path
  place_failed path f = record {
    since = since_ready state limit old ready stays leave ready itself;
    same = stays;
    disk = subst (λ h. h ≢ Some halt.Disk) (sym stays.halt) (calm_is_no_disk old.halt may);
    failed = subst (λ (m : MachineView). FailsPlace (position_of path m) (of_path before path) (of_path after path)) stays.machine f.0;
    other = stands_ready state limit old ready stays leave path (other_of path) (of_path before (other_of path)) (of_path after (other_of path)) f.1;
    none = refl;
  }

-- the cause that is told: the end of the run of a held table, or the turret that failed
module _ {D : Type 0} (held : HeldView D) where
  -- a held table that is at its end has no fault of the disk
  no_disk : (end : Option Reason) → IsAtEnd held end → held.halt ≢ Some halt.Disk
  no_disk end at is = subst (λ why. IsNoneOrAlarm (without_turret why)) is at.halt

  -- the cause that is told is the first of the two, which has its cause in the table
  pub has_cause : (end : Option Reason) (failed : Option Path) → IfSome end (λ e. Ends held e) → IfNone end (HasNotEnded held)
      → IfSome (first_cause end failed) (λ e. HasCause held failed e)
  has_cause None None ends on = tt
  has_cause None (Some path) ends on = (on.halt, on.live, refl)
  has_cause (Some reason.DiskFault) failed ends on = (ends, λ other. absurd (other refl))
  has_cause (Some reason.Done) None ends on = (ends, λ other. refl)
  has_cause (Some reason.Done) (Some path) ends on = (no_disk (Some reason.Done) ends, ends.live, refl)
  has_cause (Some (reason.Alarm alarm)) None ends on = (ends, λ other. refl)
  has_cause (Some (reason.Alarm alarm)) (Some path) ends on = (no_disk (Some (reason.Alarm alarm)) ends, ends.live, refl)
  has_cause (Some reason.Full) None ends on = (ends, λ other. refl)
  has_cause (Some reason.Full) (Some path) ends on = (no_disk None ends.0, ends.0.live, refl)
  has_cause (Some reason.Stopped) None ends on = (ends, λ other. refl)
  has_cause (Some reason.Stopped) (Some path) ends on = (no_disk None ends.0, ends.0.live, refl)
  has_cause (Some (reason.TurretFault path)) failed ends on = absurd ends

-- the cause that is told once more turrets may have failed
module _ {D : Type 0} (held : HeldView D) where
  -- a held table that has ended by another cause has no fault of the disk, and its journal may be
  -- written, so a turret that failed is the cause
  turret_behind : (end : Option Reason) (path : Path) → IsAtEnd held end → HasCause held (Some path) (reason.TurretFault path)
  turret_behind end path at = (no_disk held end at, at.live, refl)

  -- the cause behind another fault is the first still
  pub cause_on : (old new : Option Path) (end : Reason) → (old ≢ None → new ≢ None) → HasCause held old end → HasCause held new (cause_behind end new)
  cause_on old new reason.DiskFault more cause = (cause.0, λ other. absurd (other refl))
  cause_on old (Some path) (reason.TurretFault which) more cause = (cause.0, cause.1, refl)
  cause_on old None (reason.TurretFault which) more cause = absurd (more (λ none. let clash : Some which ≡ None = sym cause.2 ∙ none in cc) refl)
  cause_on old (Some path) reason.Done more cause = turret_behind (Some reason.Done) path cause.0
  cause_on old None reason.Done more cause = (cause.0, λ other. refl)
  cause_on old (Some path) (reason.Alarm alarm) more cause = turret_behind (Some (reason.Alarm alarm)) path cause.0
  cause_on old None (reason.Alarm alarm) more cause = (cause.0, λ other. refl)
  cause_on old (Some path) reason.Full more cause = turret_behind None path cause.0.0
  cause_on old None reason.Full more cause = (cause.0, λ other. refl)
  cause_on old (Some path) reason.Stopped more cause = turret_behind None path cause.0.0
  cause_on old None reason.Stopped more cause = (cause.0, λ other. refl)

-- if a turret had failed, one has failed still, where none that failed works again
pub failed_on : (one two one' two' : Bool) → (one ≡ true → one' ≡ true) → (two ≡ true → two' ≡ true) → first_by one two ≢ None → first_by one' two' ≢ None
failed_on one two true two' first second had is = cc
failed_on one two false true first second had is = cc
failed_on true two false false first second had is = absurd (let clash : false ≡ true = first refl in cc)
failed_on false true false false first second had is = absurd (let clash : false ≡ true = second refl in cc)
failed_on false false false false first second had is = absurd (had refl)

-- if no cause is told, no turret failed
pub none_left : (end : Option Reason) (failed : Option Path) → IfNone (first_cause end failed) (failed ≡ None)
none_left None None = refl
none_left None (Some path) = tt
none_left (Some reason.DiskFault) failed = tt
none_left (Some reason.Done) None = tt
none_left (Some reason.Done) (Some path) = tt
none_left (Some (reason.Alarm alarm)) None = tt
none_left (Some (reason.Alarm alarm)) (Some path) = tt
none_left (Some reason.Full) None = tt
none_left (Some reason.Full) (Some path) = tt
none_left (Some reason.Stopped) None = tt
none_left (Some reason.Stopped) (Some path) = tt
none_left (Some (reason.TurretFault which)) None = tt
none_left (Some (reason.TurretFault which)) (Some path) = tt

-- the end of a run, by the cause that the turns after the threads found
module _ {D : Type 0} (state : D → DiskState) (start taken : TableView D) (since : Since state start taken) (held : HeldView D) (before after : Both TurretState) (failed : Both Bool) (missed : Both ℕ)
    (ends : (end : Reason) → Ends held end → EndsBy state start taken end) (halt_is : taken.halt ≡ without_turret held.halt) (file_is : taken.recording.log.file ≡ held.file)
    (whole : taken.halt ≢ Some halt.Disk → (path : Path) → due_by_all path start taken ≡ due_to_turret path start taken)
    (stands : taken.halt ≢ Some halt.Disk → (path : Path) → StandsAsTold taken.verified taken.machine path (of_path taken.resting path))
    (gots : (path : Path) → GotBy (of_path failed path) (of_path missed path) (due_to_turret path start taken) (of_path before path) (of_path after path)) where
  -- each turret missed what it did not get
  misses : (path : Path) → Misses (due_to_turret path start taken) (of_path missed path) (of_path before path) (of_path after path)
  misses path = misses_of (of_path failed path) (of_path missed path) (due_to_turret path start taken) (of_path before path) (of_path after path) (gots path)

  -- a turret that did not fail got all
  gets_all : (path : Path) → of_path failed path ≡ false → GetsAll (due_to_turret path start taken) (of_path before path) (of_path after path)
  gets_all path none = all_of (of_path failed path) (of_path missed path) (due_to_turret path start taken) (of_path before path) (of_path after path) (gots path) none

  -- at an end for which no turret failed, each turret got what such an end asks for
  ended_at : (end : Reason) → (end ≢ reason.DiskFault → first_failed failed ≡ None) → (path : Path)
      → GetsAt end (due_to_turret path start taken) (of_path before path) (of_path after path)
  ended_at (reason.Alarm alarm) none path = gets_all path (none_failed failed (none (λ is. absurd cc)) path)
  ended_at reason.Done none path = gets_all path (none_failed failed (none (λ is. absurd cc)) path)
  ended_at reason.Full none path = gets_all path (none_failed failed (none (λ is. absurd cc)) path)
  ended_at reason.Stopped none path = gets_all path (none_failed failed (none (λ is. absurd cc)) path)
  ended_at (reason.TurretFault which) none path = gets_all path (none_failed failed (none (λ is. absurd cc)) path)
  ended_at reason.DiskFault none path = some_of (of_path failed path) (of_path missed path) (due_to_turret path start taken) (of_path before path) (of_path after path) (gots path)

  -- the turret that is named as failed got a prefix, and the other one all, or it failed too
  failed_at : (path : Path) → first_failed failed ≡ Some path → FailsAmong (due_to_turret path start taken) (of_path before path) (of_path after path)
      × GetsBeside path (due_to_turret (other_of path) start taken) (of_path before (other_of path)) (of_path after (other_of path))
  failed_at One is = (
    fails_of failed.one missed.one (due_to_turret One start taken) before.one after.one (gots One) (one_failed failed.one failed.two is),
    either_of failed.two missed.two (due_to_turret Two start taken) before.two after.two (gots Two),
  )
    where
      one_failed : (l r : Bool) → first_by l r ≡ Some One → l ≡ true
      one_failed true r e = refl
      one_failed false true e = absurd cc
      one_failed false false e = absurd cc
  failed_at Two is =
      let b = two_failed failed.one failed.two is in (
        fails_of failed.two missed.two (due_to_turret Two start taken) before.two after.two (gots Two) b.1,
        gets_all One b.0,
      )
    where
      two_failed : (l r : Bool) → first_by l r ≡ Some Two → (l ≡ false) × (r ≡ true)
      two_failed true r e = absurd cc
      two_failed false true e = (refl, refl)
      two_failed false false e = absurd cc

  -- a run that ended by its table, for which no turret failed unless the disk did, ended as
  -- `HasEnded` says
  run_ended : (end : Reason) → Ends held end × (end ≢ reason.DiskFault → first_failed failed ≡ None) → HasEnded state start.budget start taken before after missed end
  run_ended end cause = record { since = since; ends = ends end cause.0; turrets = ended_at end cause.1; rests = stands; misses = misses }

  -- a run that ended by its table or by a turret ended as `RunsWith` says
  pub run_ends : (end : Reason) → HasCause held (first_failed failed) end → RunsWith state start.budget start taken before after missed (Ok end)
  run_ends reason.Done cause = run_ended reason.Done cause
  run_ends (reason.Alarm alarm) cause = run_ended (reason.Alarm alarm) cause
  run_ends reason.Stopped cause = run_ended reason.Stopped cause
  run_ends reason.Full cause = run_ended reason.Full cause
  run_ends reason.DiskFault cause = run_ended reason.DiskFault cause
  run_ends (reason.TurretFault path) cause =
      let fails = failed_at path cause.2 in
      let live = subst (λ (file : Gate D). IsTrue file.live) (sym file_is) cause.1 in
      let disk : taken.halt ≢ Some halt.Disk = subst (λ h. h ≢ Some halt.Disk) (sym halt_is) (not_disk held.halt cause.0) in
      inl (record {
        since = since;
        disk = disk;
        calm = since.recording.calm live;
        whole = whole disk;
        failed = fails.0;
        other = fails.1;
        rests = stands disk;
        misses = misses;
      })
