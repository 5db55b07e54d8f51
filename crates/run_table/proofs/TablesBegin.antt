-- A table that begins, new or after a recovery, is a table, and its journal is that of its history.
-- For the proofs of `Table::begin` and `Table::from_recovered` (src/table.rt).
use Rattle.run_table.proofs.TablesKept.{none_stand}
use Rattle.run_table.specs.declared.resting.Resting.{Resting}
use Rattle.std.proofs.Common.{◌≡◌, ℕ, ◌+◌, ◌≤◌, ◌<◌, List, [], ◌∷◌, ◌++◌, length, take, refl, sym, subst, arith, append_assoc, append-nil, Option, Some, None, Ok, Err, inl, Bool}
use Rattle.std.specs.Prelude.{IsTrue}
use Rattle.std.proofs.lemmas.List.{take_all}
use Rattle.disk_model.specs.Device.{DiskState, IsCoherent}
use Rattle.disk_model.proofs.Runs.{no_call, told_before, unwritten_none, uses_none}
use Rattle.gate_file.specs.declared.fault.GateFault.{GateFault}
use Rattle.gate_file.specs.declared.fault.GateFault.TheVariants.{NoMemory}
use Rattle.nc_moves.specs.declared.alarm.Alarm.{Alarm}
use Rattle.nc_verify.specs.declared.verified.Verified.{Verified}
use Rattle.run_records.specs.Entries.{Entry}
use Rattle.run_records.specs.declared.header.Header.{Header}
use Rattle.run_records.specs.declared.version.Version.{Version}
use Rattle.run_records.specs.Room.{Entries}
use Rattle.run_records.specs.Headers.{header_bytes}
use Rattle.run_journal.specs.Beginning.{BeginsRun, IsRunBeginning}
use Rattle.run_journal.specs.Kept.{Log, IsFresh}
use Rattle.run_journal.specs.Stands.{Stands, Holds}
use Rattle.two_path.specs.Machine.{MachineView, without_reads}
use Rattle.two_path.specs.Turns.{Tapes}
use Rattle.two_path.specs.Joined.{RoomyMachine, AreAtTheirWaits}
use Rattle.two_path.specs.Histories.{behind_entry, IsNext, IsLegal, IsKept, Keeps, fold}
use Rattle.two_path.proofs.Edited.{entry_bare}
use Rattle.two_path.proofs.Replays.{none_waits}
use Rattle.run_table.specs.Recording.{RecordingView, IsJournaled}
use Rattle.run_table.specs.Kept.{TableView, tapes_in, opening_of, IsVerdictOf, HasReason, IsTable}
use Rattle.nc_number.specs.declared.both.Both.{Both}
use Rattle.nc_number.specs.declared.limits.TheConstants.{MOST_PENDING}
use Rattle.run_table.specs.Draining.{none_resting}
use Rattle.nc_outside.specs.declared.halt.Halt.{Halt}
use Rattle.run_table.specs.Begun.{reason_in, recovered_table}
use Rattle.run_table.specs.Recovered.{IsRecovered, HoldsAll}

-- a legal history that goes on after another is kept, and its fold is the machine
legal_kept : (tapes : Tapes) (start : MachineView) → Keeps tapes start → (after before : List Entry) (now : MachineView)
    → IsKept tapes start before now → without_reads now ≡ now → IsLegal tapes now after → IsKept tapes start (before ++ after) (fold tapes now after)
legal_kept tapes start keeps [] before now k bare legal = subst (λ (l : List Entry). IsKept tapes start l now) (sym (append-nil before)) k
legal_kept tapes start keeps (e ∷ after) before now k bare legal =
    let next : IsNext tapes (without_reads now) e = subst (λ (x : MachineView). IsNext tapes x e) (sym bare) legal.0 in
    let then : IsKept tapes start (before ++ e ∷ []) (behind_entry tapes e now) =
    subst (λ (x : MachineView). IsKept tapes start (before ++ e ∷ []) (behind_entry tapes e x)) bare (keeps.entry before now e k next) in
    subst (λ (l : List Entry). IsKept tapes start l (fold tapes (behind_entry tapes e now) after)) (append_assoc before (e ∷ []) after)
    (legal_kept tapes start keeps after (before ++ e ∷ []) (behind_entry tapes e now) then (entry_bare tapes e now) legal.1)

-- a table of these parts is that of the recovery
pub recovered_parts : {D : Type 0} (verified : Verified) (m : RoomyMachine) (entries : Entries) (log : Log D) (r : RecordingView D) (h : Option Halt) (o : Both Resting)
    → r ≡ record { history = entries.items; room = entries.room; flushed = length entries.items; log = log }
    → h ≡ reason_in m.machine.alarm → o ≡ none_resting
    → ◌≡◌ {A = TableView D} (record { verified = verified; machine = m.machine; turns = m.room; recording = r; halt = h; budget = 0; resting = o })
    (recovered_table verified m entries log)
recovered_parts verified m entries log r h o recorded reason resting =
    λ i. record { verified = verified; machine = m.machine; turns = m.room; recording = recorded i; halt = reason i; budget = 0; resting = resting i }

-- if the disk holds all records, the journal is that of the history
pub all_held : {D : Type 0} (state : D → DiskState) (header : Header) (entries : List Entry) (room : ℕ) (log : Log D)
    → ((disk : D) (header : Header) (version : Version) (entries : List Entry) (end : ℕ) → Holds header version entries (state disk) end → (c : List ℕ) → (state disk).image c → Stands header entries c)
    → HoldsAll state header entries log → IsJournaled state header (record { history = entries; room = room; flushed = length entries; log = log })
all_held state header entries room log law holds =
    let all : entries ≡ take (length entries) entries = sym (take_all (length entries) entries (omega arith)) in
    record {
      held = λ bytes reads live. subst (λ (l : List Entry). Holds header log.version l (state log.file.disk) log.file.end) all (holds bytes reads);
      left = λ bytes reads c image. (
        length entries,
        omega arith,
        omega arith,
        subst (λ (l : List Entry). Stands header l c) all (law log.file.disk header log.version entries log.file.end (holds bytes reads) c image),
      );
    }

-- after a recovery the reason of a table is the alarm of its machine, or none
alarm_reason : {D : Type 0} (m : MachineView) (r : RecordingView D) (alarm : Option Alarm) → m.alarm ≡ alarm → IsTrue r.log.file.live
    → length r.history < r.flushed + MOST_PENDING → HasReason m r (reason_in alarm)
alarm_reason m r None is live few = record { calm = is; live = live; few = few }
alarm_reason m r (Some alarm) is live few = (is, live)

-- a machine and its records, all on the disk, are a table
begun_table : {D : Type 0} (state : D → DiskState) (v : Verified) (m : RoomyMachine) (entries : Entries) (log : Log D)
    → IsKept (tapes_in v) (opening_of v) entries.items m.machine → AreAtTheirWaits v.left.order v.right.order m.machine
    → length entries.items ≤ v.settings.records → IsFresh (length entries.items) log
    → (header : Header) × IsVerdictOf header v × IsJournaled state header (record { history = entries.items; room = entries.room; flushed = length entries.items; log = log })
    → IsTable state (recovered_table v m entries log)
begun_table state v m entries log kept waits few fresh journaled = record {
  kept = kept;
  waits = waits;
  few = few;
  turns = omega arith;
  room = λ (some : 1 ≤ 0). absurd (omega (arith, some));
  rests = λ free q. none_stand v m.machine q;
  reason = alarm_reason m.machine (record { history = entries.items; room = entries.room; flushed = length entries.items; log = log }) m.machine.alarm refl fresh.live (omega arith);
  journaled = journaled;
}

-- what a recovery finds is a table
pub recovered_is : {D : Type 0} (state : D → DiskState) (v : Verified) (m : RoomyMachine) (entries : Entries) (log : Log D) → Keeps (tapes_in v) (opening_of v)
    → ((disk : D) (header : Header) (version : Version) (entries : List Entry) (end : ℕ) → Holds header version entries (state disk) end → (c : List ℕ) → (state disk).image c → Stands header entries c)
    → IsRecovered state v m.machine entries.items log → IsTable state (recovered_table v m entries log)
recovered_is state v m entries log keeps law found =
    let legal = legal_kept (tapes_in v) (opening_of v) keeps entries.items [] (opening_of v) keeps.opening refl found.legal in
    let kept = subst (λ (x : MachineView). IsKept (tapes_in v) (opening_of v) entries.items x) (sym found.machine_is) legal in
    begun_table state v m entries log kept found.waits found.few found.fresh
    (found.stands.0, found.stands.1, all_held state found.stands.0 entries.items entries.room log law found.stands.2)

-- a new journal is what a recovery of no record finds
pub nothing_found : {D : Type 0} (state : D → DiskState) (v : Verified) (machine : MachineView) (entries : List Entry) (log : Log D) (header : Header)
    → machine ≡ opening_of v → entries ≡ [] → IsFresh 0 log → IsVerdictOf header v → HoldsAll state header [] log
    → IsRecovered state v machine entries log
nothing_found state v machine entries log header machine_is empty fresh verdict holds =
    let none : IsRecovered state v machine [] log = record {
      legal = tt;
      few = omega arith;
      machine_is = machine_is;
      waits = subst (λ (x : MachineView). AreAtTheirWaits v.left.order v.right.order x) (sym machine_is) (none_waits v.left.order v.right.order _ _);
      fresh = fresh;
      stands = (header, verdict, holds);
    } in
    subst (λ (l : List Entry). IsRecovered state v machine l log) (sym empty) none

-- what `begin` promises of a journal does not depend on what the answer carries
module _ {A B : Type 0} (header : Header) (old new : DiskState) where
  -- a journal that is begun is so whatever the answer carries
  pub begun : (a : A) (b : B) → BeginsRun header old new (Ok a) → BeginsRun header old new (Ok b)
  begun a b call =
      record { held = call.held; vacant = call.vacant; spares = call.spares; refused = tt; later = call.later; calm = call.calm; any_moment = call.any_moment; uses = call.uses }

  -- a journal that is not begun is so whatever the answer carries
  pub not_begun : (fault : GateFault) → BeginsRun {A = A} header old new (Err fault) → BeginsRun {A = B} header old new (Err fault)
  not_begun fault call =
      record { held = tt; vacant = tt; spares = call.spares; refused = call.refused; later = call.later; calm = call.calm; any_moment = call.any_moment; uses = call.uses }

-- if memory runs out before the first call, the disk is as it was
untouched : {A : Type 0} (header : Header) (disk : DiskState) → IsCoherent disk → BeginsRun {A = A} header disk disk (Err NoMemory)
untouched header disk coherent = record {
  held = tt;
  vacant = tt;
  spares = λ bytes reads there. unwritten_none disk coherent;
  refused = unwritten_none disk coherent;
  later = omega arith;
  calm = λ other. refl;
  any_moment = λ bytes reads. no_call (IsRunBeginning disk.image header) disk coherent (λ c here. inl here);
  uses = uses_none 12 _ disk;
}

-- the new journal holds its header and no record
pub new_holds : {D A : Type 0} (state : D → DiskState) (header : Header) (old : DiskState) (a : A) (log : Log D)
    → BeginsRun header old (state log.file.disk) (Ok a) → log.version ≡ header.version → log.file.end ≡ 5 + length (header_bytes header)
    → HoldsAll state header [] log
new_holds state header old a log call version end bytes reads =
    let told = told_before 12 _ old (state log.file.disk) call.uses bytes reads in
    subst (λ (v : Version). Holds header v [] (state log.file.disk) log.file.end) (sym version)
    (subst (λ (n : ℕ). Holds header header.version [] (state log.file.disk) n) (sym end) (call.held told.0 told.1))
