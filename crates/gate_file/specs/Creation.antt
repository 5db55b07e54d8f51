-- How a file of gates is begun: what a call promises, made or refused, and what a crash leaves. The
-- gates that it looks at are in First.
use Rattle.std.specs.Prelude.{ℕ, ◌+◌, ◌≤◌, List, Result, Ok, Err, OnOk, IfErr}
use Rattle.disk_model.specs.Device.{DiskState, Reads, IsSettled}
use Rattle.nc_number.specs.Faults.{Rose}
use Rattle.disk_model.specs.Moments.{LeavesOnly, Unwritten, Uses}
use Rattle.gate_file.specs.declared.fault.GateFault.{GateFault}
use Rattle.gate_file.specs.declared.fault.GateFault.TheVariants.{DiskFault, NoRun, RunThere, Cut, NoMemory}
use Rattle.gate_file.specs.Chain.{IsRunThere, ends_at}
use Rattle.gate_file.specs.Gate.{Keeps, IsCalm}
use Rattle.gate_file.specs.First.{IsBeginning}

-- why a file is not begun, and what the disk is then: a call of it failed, or nothing was written,
-- since a run is there or memory ran out; the other two faults are never the answer
abbrev pub RefusesBeginning : GateFault → DiskState → DiskState → Type 0
RefusesBeginning DiskFault old new = Rose old.faults new.faults
RefusesBeginning RunThere old new =
    Unwritten old new × IsSettled new × ((bytes : List ℕ) → Reads old bytes → IsRunThere bytes)
RefusesBeginning NoMemory old new = Unwritten old new
RefusesBeginning NoRun old new = ⊥
RefusesBeginning (Cut at) old new = ⊥

-- What a call that begins a file with these bodies promises.
pub record Begins {A : Type 0} (bodies : List (List ℕ)) (old new : DiskState) (result : Result A GateFault)
    : Type 0 where
  -- after an Ok the disk keeps these bodies
  pub kept : OnOk result ((bytes : List ℕ) → Reads old bytes → Keeps bodies new (ends_at bodies))
  -- after an Ok there was no run before
  pub vacant : OnOk result ((bytes : List ℕ) → Reads old bytes → IsRunThere bytes → ⊥)
  -- a run that is there stays as it is, whatever the answer
  pub spares : (bytes : List ℕ) → Reads old bytes → IsRunThere bytes → Unwritten old new
  -- an error says why
  pub refused : IfErr result (λ fault. RefusesBeginning fault old new)
  -- the count of faults of the disk does not fall
  pub later : old.faults ≤ new.faults
  -- it rises only if the answer is a fault of the disk
  pub calm : IsCalm old new result
  -- a crash at any moment of the call leaves an image from before it, or no run, or all the bodies
  pub any_moment : (bytes : List ℕ) → Reads old bytes → LeavesOnly (IsBeginning old.image bodies) old new
  -- at most twelve calls of the disk, and no write ends past the shut gate after the bodies
  pub uses : Uses 12 (ends_at bodies + 1) old new

-- an answer whose error gives the disk back, without it
abbrev pub without_disk : {A D : Type 0} → Result A (D × GateFault) → Result A GateFault
without_disk (Ok answer) = Ok answer
without_disk (Err fault) = Err fault.1
