-- The end that is told of a held table is its end, and that of the table that is taken out of it.
-- For the proofs of `a_taken_table_ended_so` (src/laws.rt), `Held::end` (src/held.rt) and
-- `Table::ended` (src/table.rt).
use Rattle.run_table.specs.declared.resting.Resting.{Resting}
use Rattle.std.proofs.Common.{◌≡◌, ◌++◌, ◌≢◌, ⊎_elim, ℕ, ◌==◌, ◌&&◌, Bool, true, false, [], length, refl, sym, ◌∙◌, ap, subst, arith, append-nil, Option, Some, None, ◌≤◌, ◌<◌, List}
use Rattle.std.specs.Prelude.{IsTrue, nat_lt, IfSome, IfNone, if◌then◌else◌}
use Rattle.disk_model.specs.Device.{DiskState}
use Rattle.gate_file.specs.Gate.{Gate}
use Rattle.nc_number.specs.declared.path.Path.{Path}
use Rattle.nc_moves.specs.declared.alarm.Alarm.{Alarm}
use Rattle.nc_outside.specs.declared.halt.Halt.{Halt}
use Rattle.nc_outside.specs.declared.halt.Halt.TheVariants as halt
use Rattle.nc_outside.specs.declared.reason.Reason.{Reason}
use Rattle.nc_outside.specs.declared.reason.Reason.TheVariants as cause
use Rattle.nc_outside.specs.Reasons.{end_by, end_or_bound}
use Rattle.nc_verify.specs.declared.verified.Verified.{Verified}
use Rattle.run_table.specs.Made.{joined}
use Rattle.run_table.specs.Draining.{rest_told}
use Rattle.nc_number.specs.Both.{of_path}
use Rattle.two_path.specs.Machine.{MachineView}
use Rattle.two_path.specs.Ending.{end_of}
use Rattle.two_path.specs.Joined.{RoomyMachine}
use Rattle.two_path.specs.Histories.{IsKept}
use Rattle.run_records.specs.Entries.{Entry}
use Rattle.nc_number.specs.declared.both.Both.{Both}
use Rattle.nc_number.proofs.Counts.{equal, some_is}
use Rattle.run_table.specs.Recording.{RecordingView, Records}
use Rattle.run_table.specs.Kept.{TableView, tapes_in, opening_of, HasReason, IsTable}
use Rattle.run_table.specs.Since.{Since}
use Rattle.run_table.specs.Running.{IsNoneOrAlarm, IsEnd, EndsBy}
use Rattle.run_table.specs.Holding.{HeldView, held_of, IsOf, ShowsFlushed, IsHeld, IsTaken, without_turret, records_since, told_since}
use Rattle.run_table.specs.Ending.{end_ahead, Asks, IsAtEnd, HasEnded, HasNotEnded, KeepsRest}
use Rattle.run_table.specs.Ending.Asks.{kept, idle, written, failed}
use Rattle.run_table.proofs.FlushedShown.{shows_all, shows_still, shown_unless}
use Rattle.run_table.proofs.HeldKept.{of_more}
use Rattle.run_table.proofs.TablesKept.{table_of}
use Rattle.run_table.proofs.Then.{since_more}

-- a table that the disk has not stopped has a journal that may be written
pub open_live : {D : Type 0} (m : MachineView) (r : RecordingView D) (why : Option Halt) → HasReason m r why → why ≢ Some halt.Disk → IsTrue r.log.file.live
open_live m r None reason free = reason.live
open_live m r (Some (halt.Alarm alarm)) reason free = reason.1
open_live m r (Some halt.Disk) reason free = absurd (free refl)
open_live m r (Some (halt.Turret path)) reason free = reason.live
open_live m r (Some halt.Full) reason free = absurd reason
open_live m r (Some halt.Budget) reason free = absurd reason

-- a table that the disk has not stopped is, but for a turret's fault, stopped by nothing or by an
-- alarm
open_halt : {D : Type 0} (m : MachineView) (r : RecordingView D) (why : Option Halt) → HasReason m r why → why ≢ Some halt.Disk → IsNoneOrAlarm (without_turret why)
open_halt m r None reason free = tt
open_halt m r (Some (halt.Alarm alarm)) reason free = tt
open_halt m r (Some halt.Disk) reason free = absurd (free refl)
open_halt m r (Some (halt.Turret path)) reason free = tt
open_halt m r (Some halt.Full) reason free = absurd reason
open_halt m r (Some halt.Budget) reason free = absurd reason

-- a reason that a table keeps, and that is no fault of the disk, still holds after a flush of all
-- records
pub reason_flushed : {D : Type 0} (m : MachineView) (r r' : RecordingView D) (why : Option Halt) → HasReason m r why → why ≢ Some halt.Disk → IsTrue r'.log.file.live
    → r'.flushed ≡ length r'.history → HasReason m r' why
reason_flushed m r r' None reason free live all = record { calm = reason.calm; live = live; few = omega (arith, all) }
reason_flushed m r r' (Some (halt.Alarm alarm)) reason free live all = (reason.0, live)
reason_flushed m r r' (Some halt.Disk) reason free live all = absurd (free refl)
reason_flushed m r r' (Some (halt.Turret path)) reason free live all = record { calm = reason.calm; live = live; few = omega (arith, all) }
reason_flushed m r r' (Some halt.Full) reason free live all = reason
reason_flushed m r r' (Some halt.Budget) reason free live all = reason

-- a flush fails only if records pend
pub some_pend : {D : Type 0} (old new : RecordingView D) → old.flushed ≤ length old.history → (old.flushed ≡ length old.history → new.log.file ≡ old.log.file)
    → IsTrue old.log.file.live → new.log.file.live ≡ false → old.flushed < length old.history
some_pend old new within settled live dead = go (nat_lt old.flushed (length old.history)) refl
  where
    go : (b : Bool) → nat_lt old.flushed (length old.history) ≡ b → old.flushed < length old.history
    go true is = grind arith
    go false is =
        let none : old.flushed ≡ length old.history = grind arith in
        let still : IsTrue new.log.file.live = subst (λ (f : Gate _). IsTrue f.live) (sym (settled none)) live in
        absurd (let clash : IsTrue false = subst IsTrue dead still in cc)

-- a table stays one over a flush, whether all is flushed or the disk failed
pub flushed_table : {D : Type 0} (state : D → DiskState) (v : Verified) (m : RoomyMachine) (r r' : RecordingView D) (why why' : Option Halt) (budget : ℕ) (resting : Both Resting)
    → IsTable state (table_of v m r why budget resting) → Records state [] r r' → HasReason m.machine r' why' → (why' ≢ Some halt.Disk → why ≢ Some halt.Disk) → IsTable state (table_of v m r' why' budget resting)
flushed_table state v m r r' why why' budget resting table records reason free =
    let history : r'.history ≡ r.history = records.follows.history ∙ append-nil r.history in
    record {
      kept = subst (λ (l : List Entry). IsKept (tapes_in v) (opening_of v) l m.machine) (sym history) table.kept;
      waits = table.waits;
      few = omega (arith, ap length history, table.few);
      turns = table.turns;
      room = λ some. omega (arith, ap length history, records.room, table.room some);
      reason = reason;
      rests = λ calm. table.rests (free calm);
      journaled = (table.journaled.0, table.journaled.1, (records.follows.journal table.journaled.0 table.journaled.2).journaled);
    }

-- a table that the disk stopped has a journal that may not be written
disk_dead : {D : Type 0} (m : MachineView) (r : RecordingView D) (why : Option Halt) → HasReason m r why → why ≡ Some halt.Disk → r.log.file.live ≡ false
disk_dead m r why reason is = subst (HasReason m r) is reason

-- numbers that test as different are so
numbers_differ : (a b : ℕ) → (a == b) ≡ false → a ≢ b
numbers_differ a b is same = absurd (grind arith)

-- a held table that is all flushed, with a journal that may be written
module _ {D : Type 0} (h : HeldView D) (live : IsTrue h.file.live) (all : h.flushed ≡ length h.history) (halts : IsNoneOrAlarm (without_turret h.halt)) where
  -- a held table that is all flushed has the end of its machine
  at_end : (e : Option Reason) → end_of h.machine ≡ e → IsAtEnd h e
  at_end e is = record { live = live; all = all; halt = halts; machine = is }

  -- a held table that is all flushed ended by the first of these causes: its machine, a full
  -- journal, a spent budget
  by_parts : (alarm : Option Alarm) (both full spent : Bool) (end : Reason) → end_of h.machine ≡ end_by alarm both
      → (length h.history == h.verified.settings.records) ≡ full → (h.budget == 0) ≡ spent
      → end_or_bound (end_by alarm both) (if full then Some halt.Full else if spent then Some halt.Budget else None) ≡ Some end → HasEnded h end
  by_parts (Some alarm) both full spent end is f s same = subst (HasEnded h) (some_is same) (at_end (Some (cause.Alarm alarm)) is)
  by_parts None true full spent end is f s same = subst (HasEnded h) (some_is same) (at_end (Some cause.Done) is)
  by_parts None false true spent end is f s same = subst (HasEnded h) (some_is same) (at_end None is, equal (length h.history) h.verified.settings.records f)
  by_parts None false false true end is f s same = subst (HasEnded h) (some_is same) (at_end None is, numbers_differ (length h.history) h.verified.settings.records f, equal h.budget 0 s)
  by_parts None false false false end is f s same = absurd cc

  -- a held table that is all flushed ended by the cause that the code finds
  pub has_ended : (end : Reason)
      → end_or_bound (end_of h.machine) (if length h.history == h.verified.settings.records then Some halt.Full else if h.budget == 0 then Some halt.Budget else None) ≡ Some end
      → HasEnded h end
  has_ended end same =
      by_parts h.machine.alarm (h.machine.paths.one.finished && h.machine.paths.two.finished) (length h.history == h.verified.settings.records) (h.budget == 0) end refl refl refl same

-- a held table whose journal may be written, and that keeps no fault of the disk
module _ {D : Type 0} (h : HeldView D) (live : IsTrue h.file.live) (halts : h.halt ≢ Some halt.Disk) where
  -- if no cause of an end is found, none of them holds
  none_by_parts : (e : Option Reason) (full spent : Bool) → end_of h.machine ≡ e
      → (length h.history == h.verified.settings.records) ≡ full → (h.budget == 0) ≡ spent
      → end_or_bound e (if full then Some halt.Full else if spent then Some halt.Budget else None) ≡ None → HasNotEnded h
  none_by_parts (Some end) full spent is f s none = absurd cc
  none_by_parts None true spent is f s none = absurd cc
  none_by_parts None false true is f s none = absurd cc
  none_by_parts None false false is f s none =
      record { live = live; halt = halts; machine = is; room = numbers_differ (length h.history) h.verified.settings.records f; leave = numbers_differ h.budget 0 s }

  -- if no cause of an end is found, the run has not ended
  pub has_not_ended : end_or_bound (end_of h.machine) (if length h.history == h.verified.settings.records then Some halt.Full else if h.budget == 0 then Some halt.Budget else None) ≡ None
      → HasNotEnded h
  has_not_ended none = none_by_parts (end_of h.machine) (length h.history == h.verified.settings.records) (h.budget == 0) refl refl refl none

-- no machine and no bound ends a run by a fault of the disk
no_fault_by : (alarm : Option Alarm) (both full spent : Bool)
    → end_or_bound (end_by alarm both) (if full then Some halt.Full else if spent then Some halt.Budget else None) ≡ Some cause.DiskFault → ⊥
no_fault_by (Some alarm) both full spent is = cc
no_fault_by None true full spent is = cc
no_fault_by None false true spent is = cc
no_fault_by None false false true is = cc
no_fault_by None false false false is = cc

-- the end that a table comes to by its machine or a bound (`end_ahead`) is no fault of the disk
no_fault_ahead : {D : Type 0} (t : TableView D) → end_ahead t ≡ Some cause.DiskFault → ⊥
no_fault_ahead t is =
    no_fault_by t.machine.alarm (t.machine.paths.one.finished && t.machine.paths.two.finished) (length t.recording.history == t.verified.settings.records) (t.budget == 0) is

-- the steps of `Table::ended`, with the table before it and after it
module _ {D : Type 0} (state : D → DiskState) (old new : TableView D) (result : Option Reason) (table : IsTable state old) (asks : Asks old new result) where
  -- the cause that the call tells holds
  pub ends : (shown : Bool) → IfSome result (λ end. HasEnded (held_of new shown) end)
  ends shown = go asks
    where
      go : Asks old new result → IfSome result (λ end. HasEnded (held_of new shown) end)
      go (kept is same stays) =
          subst (λ (o : Option Reason). IfSome o (λ end. HasEnded (held_of new shown) end)) (sym same)
          (subst (λ (t : TableView D). HasEnded (held_of t shown) cause.DiskFault) (sym stays) (is, disk_dead old.machine old.recording old.halt table.reason is))
      go (idle free none same stays) = subst (λ (o : Option Reason). IfSome o (λ end. HasEnded (held_of new shown) end)) (sym same) tt
      go (written free end is same rest history live all settled) =
          let halts : IsNoneOrAlarm (without_turret new.halt) =
          subst (λ (why : Option Halt). IsNoneOrAlarm (without_turret why)) (sym (ap (λ (t : TableView D). t.halt) rest)) (open_halt old.machine old.recording old.halt table.reason free) in
          let ahead : end_ahead new ≡ Some end =
          ap end_ahead rest ∙ ap (λ (l : _). end_ahead (record old { recording = record new.recording { history = l } })) history ∙ is in
          subst (λ (o : Option Reason). IfSome o (λ end. HasEnded (held_of new shown) end)) (sym same) (has_ended (held_of new shown) live all halts end ahead)
      go (failed free pends same rest history dead still) =
          subst (λ (o : Option Reason). IfSome o (λ end. HasEnded (held_of new shown) end)) (sym same) (ap (λ (t : TableView D). t.halt) rest, dead)

  -- if the call tells none, the run has not ended
  pub goes_on : (shown : Bool) → IfNone result (HasNotEnded (held_of new shown))
  goes_on shown = go asks
    where
      none : (end : Reason) → result ≡ Some end → IfNone result (HasNotEnded (held_of new shown))
      none end same = subst (λ (o : Option Reason). IfNone o (HasNotEnded (held_of new shown))) (sym same) tt

      go : Asks old new result → IfNone result (HasNotEnded (held_of new shown))
      go (kept is same stays) = none cause.DiskFault same
      go (idle free is same stays) =
          subst (λ (o : Option Reason). IfNone o (HasNotEnded (held_of new shown))) (sym same)
          (subst (λ (t : TableView D). HasNotEnded (held_of t shown)) (sym stays)
          (has_not_ended (held_of old shown) (open_live old.machine old.recording old.halt table.reason free) free is))
      go (written free end is same rest history live all settled) = none end same
      go (failed free pends same rest history dead still) = none cause.DiskFault same

  -- all of the held table but its file, its flushed count and its reason stays
  pub rest_kept : (shown : Bool) → KeepsRest (held_of old shown) (held_of new shown) result
  rest_kept shown = go asks
    where
      even : (t : TableView D) → t ≡ old → KeepsRest (held_of old shown) (held_of t shown) result
      even t same = subst (λ (u : TableView D). KeepsRest (held_of old shown) (held_of u shown) result) (sym same)
          (record { rest = refl; halt = λ fine. refl; flushed = λ is. refl; idle = λ is. refl; settled = λ is. refl })

      go : Asks old new result → KeepsRest (held_of old shown) (held_of new shown) result
      go (kept is same stays) = even new stays
      go (idle free none same stays) = even new stays
      go (written free end is same rest history live all settled) =
          let verified : new.verified ≡ old.verified = ap (λ (t : TableView D). t.verified) rest in
          let machine : new.machine ≡ old.machine = ap (λ (t : TableView D). t.machine) rest in
          let halts : new.halt ≡ old.halt = ap (λ (t : TableView D). t.halt) rest in
          let budget = ap (λ (t : TableView D). t.budget) rest in
          let resting = ap (λ (t : TableView D). t.resting) rest in
          record {
            rest = λ i. record {
              verified = verified i;
              machine = machine i;
              history = history i;
              flushed = new.recording.flushed;
              file = new.recording.log.file;
              halt = new.halt;
              budget = budget i;
              resting = resting i;
              shown = shown;
            };
            halt = λ fine. halts;
            flushed = λ fault. absurd (no_fault_ahead old (is ∙ sym same ∙ fault));
            idle = λ none. absurd (let clash : Some end ≡ None = sym same ∙ none in cc);
            settled = λ every.
                let file = settled every in
                let count = all ∙ ap length history ∙ sym every in
                λ i. record {
                  verified = verified i;
                  machine = machine i;
                  history = history i;
                  flushed = count i;
                  file = file i;
                  halt = halts i;
                  budget = budget i;
                  resting = resting i;
                  shown = shown;
                };
          }
      go (failed free pends same rest history dead still) =
          let verified : new.verified ≡ old.verified = ap (λ (t : TableView D). t.verified) rest in
          let machine : new.machine ≡ old.machine = ap (λ (t : TableView D). t.machine) rest in
          let budget = ap (λ (t : TableView D). t.budget) rest in
          let resting = ap (λ (t : TableView D). t.resting) rest in
          record {
            rest = λ i. record {
              verified = verified i;
              machine = machine i;
              history = history i;
              flushed = new.recording.flushed;
              file = new.recording.log.file;
              halt = new.halt;
              budget = budget i;
              resting = resting i;
              shown = shown;
            };
            halt = λ fine. absurd (fine same);
            flushed = λ fault. still;
            idle = λ none. absurd (let clash : Some cause.DiskFault ≡ None = sym same ∙ none in cc);
            settled = λ every. absurd (omega (arith, pends, every));
          }

  -- the call makes no record
  history_kept : new.recording.history ≡ old.recording.history
  history_kept = go asks
    where
      go : Asks old new result → new.recording.history ≡ old.recording.history
      go (kept is same stays) = ap (λ (t : TableView D). t.recording.history) stays
      go (idle free none same stays) = ap (λ (t : TableView D). t.recording.history) stays
      go (written free end is same rest history live all settled) = history
      go (failed free pends same rest history dead still) = history

  -- what the records told stays the same
  records_kept : (opened : Option (TableView D)) (shown : Bool) (p : Path) → records_since opened (held_of new shown) p ≡ records_since opened (held_of old shown) p
  records_kept None shown p = refl
  records_kept (Some start) shown p =
      ap (λ (l : _). records_since (Some start) (record (held_of old shown) { history = l }) p) history_kept

  -- which turrets rest for a wait stays the same
  resting_kept : new.resting ≡ old.resting
  resting_kept = go asks
    where
      go : Asks old new result → new.resting ≡ old.resting
      go (kept is same stays) = ap (λ (t : TableView D). t.resting) stays
      go (idle free none same stays) = ap (λ (t : TableView D). t.resting) stays
      go (written free end is same rest history live all settled) = ap (λ (t : TableView D). t.resting) rest
      go (failed free pends same rest history dead still) = ap (λ (t : TableView D). t.resting) rest

  -- what was told the turrets stays the same
  pub told_kept : (opened : Option (TableView D)) (shown : Bool) (p : Path) → told_since opened (held_of new shown) p ≡ told_since opened (held_of old shown) p
  told_kept opened shown p = λ i. joined (records_kept opened shown p i) ++ rest_told (of_path (resting_kept i) p)

  -- the call on a held table
  module _ (opened : Option (TableView D)) (shown : Bool) (since : Since state old new) (held : IsHeld state opened old shown) where
    -- what was shown stays on the disk
    shows : (o : Option (TableView D)) → IsOf state o old → ShowsFlushed o (held_of old shown) old → ShowsFlushed o (held_of new shown) new
    shows None of is = absurd of
    shows (Some start) of is = go asks
      where
        go : Asks old new result → ShowsFlushed (Some start) (held_of new shown) new
        go (kept why same stays) = subst (λ (t : TableView D). ShowsFlushed (Some start) (held_of t shown) t) (sym stays) is
        go (idle free none same stays) = subst (λ (t : TableView D). ShowsFlushed (Some start) (held_of t shown) t) (sym stays) is
        go (written free end why same rest history live all settled) =
            subst (λ (b : Bool). ShowsFlushed (Some start) (held_of new b) new) (sym (shown_unless old shown held.lost free))
            (shows_all state start new (since_more state start old new of since) all)
        go (failed free pends same rest history dead still) =
            shows_still state start old new shown shown [] of (omega (arith, pends)) since.verified (history ∙ sym (append-nil old.recording.history)) still
            (λ p. ap joined (records_kept (Some start) shown p)) is

    -- if the last moves were not answered, the disk has stopped the table
    lost : Asks old new result → shown ≡ false → new.halt ≡ Some halt.Disk
    lost (kept why same stays) unseen = ap (λ (t : TableView D). t.halt) stays ∙ why
    lost (idle free none same stays) unseen = absurd (free (held.lost unseen))
    lost (written free end why same rest history live all settled) unseen = absurd (free (held.lost unseen))
    lost (failed free pends same rest history dead still) unseen = ap (λ (t : TableView D). t.halt) rest

    -- the held table is still a held table after the call
    pub held_asked : IsHeld state opened new shown
    held_asked = record { of = of_more state opened old new held.of since; lost = lost asks; shows = shows opened held.of held.shows }

-- the table that is taken out of a held one, as one that began at `start`
module _ {D : Type 0} (state : D → DiskState) (start taken : TableView D) (held : HeldView D) (since : Since state start taken) (calm : start.halt ≢ Some halt.Disk)
    (is : IsTaken held taken) where
  -- the end of the held table is that of the table that is taken out
  taken_end : (e : Option Reason) → IsAtEnd held e → IsEnd taken e
  taken_end e at = record {
    live = subst (λ (f : Gate D). IsTrue f.live) (sym is.file) at.live;
    may = record {
      all = is.flushed ∙ at.all ∙ sym (ap length is.history);
      halt = subst IsNoneOrAlarm (sym is.halt) at.halt;
    };
    machine = ap end_of is.machine ∙ at.machine;
  }

  -- each end of the held table is that of the table that is taken out
  pub taken_ended : (end : Reason) → HasEnded held end → EndsBy state start taken end
  taken_ended (cause.Alarm alarm) at = taken_end (Some (cause.Alarm alarm)) at
  taken_ended cause.Done at = taken_end (Some cause.Done) at
  taken_ended cause.Full at = (taken_end None at.0, ap length is.history ∙ at.1 ∙ sym (ap (λ (v : Verified). v.settings.records) is.verified))
  taken_ended cause.Stopped at = (
    taken_end None at.0,
    (λ same. at.1 (sym (ap length is.history) ∙ same ∙ ap (λ (v : Verified). v.settings.records) is.verified)),
    is.budget ∙ at.2,
  )
  taken_ended (cause.TurretFault path) at = absurd at
  taken_ended cause.DiskFault at = (
    ap (λ (f : Gate D). f.live) is.file ∙ at.1,
    ⊎_elim (λ before. absurd (calm before)) (λ rose. rose) (since.cause (is.halt ∙ ap without_turret at.0)),
  )
