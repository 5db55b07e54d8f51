-- What the recovery of a run from its journal promises, of the run that it answers and of the disk.
use Rattle.std.specs.Prelude.{◌≡◌, ℕ, ◌+◌, ◌*◌, ◌≤◌, List, length, Result, Ok, Err, IfOk, IfErr}
use Rattle.disk_model.specs.Device.{DiskState, Reads, Rose, IsSettled}
use Rattle.disk_model.specs.Moments.{Unwritten, Uses}
use Rattle.gate_file.specs.Gate.{OpeningUses}
use Rattle.run_records.specs.Entries.{Entry}
use Rattle.run_records.specs.declared.header.Header.{Header}
use Rattle.run_journal.specs.declared.fault.JournalFault.{JournalFault}
use Rattle.run_journal.specs.declared.fault.JournalFault.TheVariants as journal
use Rattle.run_journal.specs.Kept.{Log, IsFresh}
use Rattle.run_journal.specs.Meaning.{Meaning, no_run, cut_at, bad_at, a_run}
use Rattle.run_journal.specs.Stands.{Holds}
use Rattle.two_path.specs.Machine.{MachineView}
use Rattle.nc_verify.specs.declared.verified.Verified.{Verified}
use Rattle.nc_restart.specs.declared.fault.RestartFault.{RestartFault}
use Rattle.nc_restart.specs.declared.fault.RestartFault.TheVariants.{DiskFault, NoRun, Cut, BadRecord, NoMemory}
use Rattle.nc_restart.specs.declared.recovery.Recovered.{Recovered}
use Rattle.nc_restart.specs.Pair.{texts_of, IsPairOf}
use Rattle.nc_restart.specs.History.{IsBehind}
use Rattle.nc_restart.specs.Meaning.{StandsForRun}

-- The parts of one recovery: the texts of the header are accepted, and this is their pair; the
-- machine stands behind the records, which are a history of it; the journal may be written, has as
-- many records, and none of them is to be written; and where the disk tells its content, it holds
-- them all, in a journal of the version that it has by now.
pub record IsRecovered {D : Type 0} (state : D → DiskState) (header : Header) (pair : Verified) (machine : MachineView) (entries : List Entry) (log : Log D) : Type 0 where
  -- the texts of the header are accepted, and this is their pair
  pub accepted : IsPairOf (texts_of header) pair
  -- the machine stands behind the records, which are a history of the pair
  pub behind : IsBehind pair entries machine
  -- the journal may be written, and has as many records, none of them to be written
  pub fresh : IsFresh (length entries) log
  -- where the disk tells its content, it holds the header and the records
  pub holds : (bytes : List ℕ) → Reads (state log.file.disk) bytes
      → Holds header log.version entries (state log.file.disk) log.file.end

-- a recovery is refused as the opening of its journal is
abbrev pub fault_of : JournalFault → RestartFault
fault_of journal.DiskFault = DiskFault
fault_of journal.NoRun = NoRun
fault_of (journal.Cut at) = Cut at
fault_of (journal.BadRecord offset cause) = BadRecord offset cause
fault_of journal.NoMemory = NoMemory

-- what a read of the disk before gave stands for this, and after the call all that a read gives is
-- on the disk
abbrev pub IsMeant : Meaning → DiskState → DiskState → Type 0
IsMeant meaning old new = IsSettled new × ((bytes : List ℕ) → Reads old bytes → StandsForRun meaning bytes)

-- why nothing is recovered: a call of the disk failed, or what the file stands for is no run (and
-- then all that a read gives is on the disk), or memory ran out, of which nothing is said
abbrev pub RefusesRecovery : RestartFault → DiskState → DiskState → Type 0
RefusesRecovery DiskFault old new = Rose old.faults new.faults
RefusesRecovery NoRun old new = IsMeant no_run old new
RefusesRecovery (Cut at) old new = IsMeant (cut_at at) old new
RefusesRecovery (BadRecord offset cause) old new = IsMeant (bad_at offset cause) old new
RefusesRecovery NoMemory old new = Unit {0}

-- the header and the records that were found
pub record FoundRun : Type 0 where
  -- the header of the run
  pub header : Header
  -- the records, in order
  pub entries : List Entry

-- The file stands for what was found. It is read body by body: the header, the batches of records,
-- and the mark that raised the journal to version 2, if there is one.
pub record IsFoundRun (old new : DiskState) (found : FoundRun) : Type 0 where
  -- what a read gives stands for the header and the records
  pub means : (bytes : List ℕ) → Reads old bytes → StandsForRun (a_run found.header found.entries) bytes
  -- at most so many calls of the disk were made, and nothing was written
  pub uses : Uses (4 * length found.entries + 16) 0 old new

-- the answer is a fault of the disk
abbrev pub IsDiskFault : {A : Type 0} → Result A RestartFault → Type 0
IsDiskFault (Ok answer) = ⊥
IsDiskFault (Err fault) = fault ≡ DiskFault

-- What a call that recovers a run promises of the disk.
pub record Recovers (old new : DiskState) (result : Result FoundRun RestartFault) : Type 0 where
  -- after an Ok the file stands for what was found
  pub found : IfOk result (IsFoundRun old new)
  -- an error says why
  pub refused : IfErr result (λ fault. RefusesRecovery fault old new)
  -- the count of faults of the disk does not fall
  pub later : old.faults ≤ new.faults
  -- no call of the disk failed, but where that is the answer
  pub calm : (IsDiskFault result → ⊥) → new.faults ≡ old.faults
  -- a crash at any moment of the call leaves an image from before it
  pub unwritten : Unwritten old new
  -- how many calls of the disk there are, whatever the answer
  pub uses : (bytes : List ℕ) → Reads old bytes → OpeningUses bytes old new

-- the disk in an answer that gives it back either way
abbrev pub disk_recovered : {D : Type 0} → Result (Recovered D) (D × RestartFault) → D
disk_recovered (Ok recovered) = recovered.journal.file.disk
disk_recovered (Err fault) = fault.0

-- the header and the records that an answer found, or why there is no run
abbrev pub run_found : {D : Type 0} → Result (Recovered D) (D × RestartFault) → Result FoundRun RestartFault
run_found (Ok recovered) = Ok (record { header = recovered.header; entries = recovered.entries.items })
run_found (Err fault) = Err fault.1
