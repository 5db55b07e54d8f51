-- How a journal is begun: the header is written as the first body, and no run is written over.
use Rattle.std.specs.Prelude.{◌⊎◌, ℕ, ◌+◌, ◌≤◌, List, [], length, Result, Ok, Err, OnOk, IfErr}
use Rattle.disk_model.specs.Device.{DiskState, Reads}
use Rattle.disk_model.specs.Moments.{LeavesOnly, Unwritten, Uses}
use Rattle.gate_file.specs.declared.fault.GateFault.{GateFault}
use Rattle.gate_file.specs.Chain.{IsNoRun, IsRunThere}
use Rattle.gate_file.specs.Creation.{RefusesBeginning}
use Rattle.gate_file.specs.Gate.{IsCalm}
use Rattle.run_records.specs.declared.header.Header.{Header}
use Rattle.run_records.specs.Headers.{header_bytes}
use Rattle.run_journal.specs.Kept.{Log}
use Rattle.run_journal.specs.Stands.{Stands, Holds}

-- while a journal is begun: an image from before, or no run, or the header without a record
abbrev pub IsRunBeginning : (List ℕ → Type 0) → Header → List ℕ → Type 0
IsRunBeginning image header file = image file ⊎ (IsNoRun file ⊎ Stands header [] file)

-- What a call that begins a journal with this header promises.
pub record BeginsRun {A : Type 0} (header : Header) (old new : DiskState) (result : Result A GateFault) : Type 0 where
  -- after an Ok the disk holds the header and no record
  pub held : OnOk result ((bytes : List ℕ) → Reads old bytes
      → Holds header header.version [] new (5 + length (header_bytes header)))
  -- after an Ok there was no run before
  pub vacant : OnOk result ((bytes : List ℕ) → Reads old bytes → IsRunThere bytes → ⊥)
  -- a run that is there stays as it is, whatever the answer
  pub spares : (bytes : List ℕ) → Reads old bytes → IsRunThere bytes → Unwritten old new
  -- an error says why
  pub refused : IfErr result (λ fault. RefusesBeginning fault old new)
  -- the count of faults of the disk does not fall
  pub later : old.faults ≤ new.faults
  -- it rises only if the answer is a fault of the disk
  pub calm : IsCalm old new result
  -- a crash at any moment of the call leaves an image from before it, or no run, or the header
  -- without a record
  pub any_moment : (bytes : List ℕ) → Reads old bytes → LeavesOnly (IsRunBeginning old.image header) old new
  -- at most twelve calls of the disk, and no byte is written past this place
  pub uses : Uses 12 (length (header_bytes header) + 6) old new

-- the disk in an answer that gives it back either way
abbrev pub disk_begun : {D : Type 0} → Result (Log D) (D × GateFault) → D
disk_begun (Ok log) = log.file.disk
disk_begun (Err fault) = fault.0
