-- A file of gates on a disk: what callers see of it, and when the disk holds bodies.
use Rattle.std.specs.Prelude.{◌≡◌, ℕ, ◌+◌, ◌*◌, ◌≤◌, Bool, List, ◌∷◌, length, Result, Ok, Err}
use Rattle.gate_file.specs.declared.fault.GateFault.{GateFault}
use Rattle.gate_file.specs.declared.fault.GateFault.TheVariants.{DiskFault}
use Rattle.disk_model.specs.Device.{DiskState, Reads, Only}
use Rattle.gate_file.specs.Chain.{Opens}

-- what callers see of a file of gates: its disk, whether it may be written, and the offset of its
-- shut gate
pub record Gate (D : Type 0) : Type 0 where
  -- the disk with the file
  pub disk : D
  -- whether it may be written: no append has failed
  pub live : Bool
  -- the offset of the shut gate
  pub end : ℕ

-- The disk spells these bodies, all of them are on the disk, and the shut gate stands at this
-- offset.
pub record Keeps (bodies : List (List ℕ)) (disk : DiskState) (end : ℕ) : Type 0 where
  -- the bytes of the file
  pub bytes : List ℕ
  -- what stands after the shut gate, which counts for nothing
  pub behind : List ℕ
  -- a read of the disk gives the bytes
  pub reads : Reads disk bytes
  -- the entries of the bodies, and then the shut gate
  pub opens : Opens bodies bytes (0 ∷ behind)
  -- the shut gate stands at the offset `end`
  pub place : end + 1 + length behind ≡ length bytes
  -- a crash now leaves these bytes and no others
  pub only : Only bytes disk.image

-- An opening makes four calls at most for each gate that it reads, and four besides: it reads the
-- gates of some entries that the file begins with, and the one after them. It asks for no write.
pub record OpeningUses (bytes : List ℕ) (old new : DiskState) : Type 0 where
  -- the bodies of the entries whose gates it read
  pub bodies : List (List ℕ)
  -- the bytes after these entries
  pub rest : List ℕ
  -- the file begins with these entries
  pub opens : Opens bodies bytes rest
  -- four calls at most for each of them and for the gate after them, and four besides
  pub calls : new.calls ≤ old.calls + 4 * (length bodies + 1) + 4
  -- no write was asked for past what was asked for before
  pub reach : new.reach ≤ old.reach
  -- what the disk allowed it still allows
  pub allows : (calls end : ℕ) → old.allows calls end → new.allows calls end

-- the disk in an answer that gives it back either way
abbrev pub disk_of : {D : Type 0} → Result (Gate D) (D × GateFault) → D
disk_of (Ok gate) = gate.disk
disk_of (Err fault) = fault.0

-- the disk in an answer that opens a file, which gives it back either way
abbrev pub disk_opened : {D : Type 0} → Result (Gate D × List (List ℕ)) (D × GateFault) → D
disk_opened (Ok found) = found.0.disk
disk_opened (Err fault) = fault.0

-- the answer is a fault of the disk
abbrev pub IsDiskFault : {A : Type 0} → Result A GateFault → Type 0
IsDiskFault (Ok answer) = ⊥
IsDiskFault (Err fault) = fault ≡ DiskFault

-- no call of the disk failed, unless that is the answer
abbrev pub IsCalm : {A : Type 0} → DiskState → DiskState → Result A GateFault → Type 0
IsCalm old new result = (IsDiskFault result → ⊥) → new.faults ≡ old.faults
