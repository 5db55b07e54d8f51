-- Why a file of gates is not opened: the fault of a body is that of its entry, of the reading from
-- there on, and of the whole opening. The functions of src/open.rt rest on it.
use Rattle.std.proofs.Common.{◌≡◌, ℕ, ◌+◌, ◌-◌, ◌≤◌, ◌<◌, List, [], length, refl, sym, ◌∙◌, subst, arith}
use Rattle.disk_model.specs.Device.{DiskState, Reads, IsSettled}
use Rattle.nc_number.specs.Faults.{Rose}
use Rattle.disk_model.specs.Moments.{Unwritten}
use Rattle.disk_model.proofs.Runs.{settled_kept}
use Rattle.gate_file.specs.declared.fault.GateFault.{GateFault}
use Rattle.gate_file.specs.declared.fault.GateFault.TheVariants.{DiskFault, NoRun, RunThere, Cut, NoMemory}
use Rattle.gate_file.specs.Chain.{IsCutAt}
use Rattle.gate_file.specs.Opening.{IsBefore, IsSeen, RefusesOpening, RefusesReading, RefusesEntry}
use Rattle.gate_file.proofs.Reading.{cut_at}

-- the fault for which a body is not read is one of its entry
pub entry_refused : (seen : List ℕ) (at len size : ℕ) (fault : GateFault) (old new : DiskState) → 5 + size < len - at → (fault ≡ DiskFault → Rose old.faults new.faults)
    → ((o : ℕ) → fault ≡ Cut o → (bytes : List ℕ) → Reads old bytes → length bytes - (at + 5) < size) → (fault ≡ RunThere → ⊥) × (fault ≡ NoRun → ⊥) → RefusesEntry seen at len fault old new
entry_refused seen at len size DiskFault old new room disk cut never = disk refl
entry_refused seen at len size (Cut o) old new room disk cut never = λ bytes b. absurd (omega (arith, room, b.size, cut o refl bytes b.reads))
entry_refused seen at len size NoMemory old new room disk cut never = tt
entry_refused seen at len size NoRun old new room disk cut never = never.1 refl
entry_refused seen at len size RunThere old new room disk cut never = never.0 refl

-- the fault for which an entry is not read is one of reading on from its gate
pub reading_refused : (seen : List ℕ) (at len : ℕ) (bodies : List (List ℕ)) (fault : GateFault) (a b c : DiskState) → a.faults ≤ b.faults → 1 < len → at < len
    → ((bytes : List ℕ) → IsBefore at len bodies a bytes → IsSeen seen at len b bytes) → RefusesEntry seen at len fault b c → RefusesReading at len bodies fault a c
reading_refused seen at len bodies DiskFault a b c later begins within known refused = omega (arith, later, refused)
reading_refused seen at len bodies (Cut o) a b c later begins within known refused = λ bytes before.
    let cut = refused bytes (known bytes before) in
    subst (λ (n : ℕ). IsCutAt n bytes) (sym cut.0) (cut_at bodies bytes at (omega (arith, before.size)) (omega (arith, before.size)) before.opens cut.1)
reading_refused seen at len bodies NoMemory a b c later begins within known refused = tt
reading_refused seen at len bodies NoRun a b c later begins within known refused = refused
reading_refused seen at len bodies RunThere a b c later begins within known refused = refused

-- the fault for which reading on from an offset ends is one of reading from the first gate
pub later_refused : (at len : ℕ) (bodies : List (List ℕ)) (fault : GateFault) (a b c : DiskState) → a.faults ≤ b.faults
    → ((bytes : List ℕ) → IsBefore 0 len [] a bytes → IsBefore at len bodies b bytes) → RefusesReading at len bodies fault b c → RefusesReading 0 len [] fault a c
later_refused at len bodies DiskFault a b c later known refused = omega (arith, later, refused)
later_refused at len bodies (Cut o) a b c later known refused = λ bytes before. refused bytes (known bytes before)
later_refused at len bodies NoMemory a b c later known refused = tt
later_refused at len bodies NoRun a b c later known refused = refused
later_refused at len bodies RunThere a b c later known refused = refused

-- the file's first gate stands at 0
pub before_all : (len : ℕ) (a b : DiskState) (bytes : List ℕ) → Unwritten a b → Reads a bytes → len ≡ length bytes → IsBefore 0 len [] b bytes
before_all len a b bytes first reads size = record { reads = first.same ∙ reads; size = size; opens = refl }

-- the fault for which reading from the first gate ends is one of the opening
pub opening_refused : (len : ℕ) (fault : GateFault) (a b c : DiskState) → a.faults ≤ b.faults → Unwritten a b → IsSettled b → Unwritten b c → ((bytes : List ℕ) → Reads a bytes → len ≡ length bytes)
    → RefusesReading 0 len [] fault b c → RefusesOpening fault a c
opening_refused len DiskFault a b c later first settled second size refused = omega (arith, later, refused)
opening_refused len (Cut o) a b c later first settled second size refused =
    (settled_kept b c second settled, λ bytes reads. refused bytes (before_all len a b bytes first reads (size bytes reads)))
opening_refused len NoMemory a b c later first settled second size refused = tt
opening_refused len NoRun a b c later first settled second size refused = absurd refused
opening_refused len RunThere a b c later first settled second size refused = refused
