-- How a file of gates is opened: what a call promises, found or refused. Proofs above cite `Finds`
-- and `RefusesOpening`; src/open.rt says by the words after `found_with` how it reads on from one
-- gate to the next.
use Rattle.std.specs.Prelude.{◌≡◌, ℕ, ◌+◌, ◌*◌, ◌≤◌, List, [], length, take, drop, Option, Some, None, Result, Ok, Err, IfOk, IfErr}
use Rattle.disk_model.specs.Device.{DiskState, Reads, IsSettled}
use Rattle.nc_number.specs.Faults.{Rose}
use Rattle.disk_model.specs.Moments.{Unwritten, Uses}
use Rattle.gate_file.specs.declared.fault.GateFault.{GateFault}
use Rattle.gate_file.specs.declared.fault.GateFault.TheVariants.{DiskFault, NoRun, RunThere, Cut, NoMemory}
use Rattle.gate_file.specs.declared.open.Contents.{Contents}
use Rattle.gate_file.specs.Chain.{Opens, Spells, IsShut, IsNoRun, IsCutShort, IsCutAt}
use Rattle.gate_file.specs.Gate.{Gate, Keeps, OpeningUses, IsCalm}

-- why a file is not opened: a call of the disk failed, or the file holds no run or an entry that is
-- cut short (and then all that a read gives is on the disk), or memory ran out, of which nothing is
-- said
abbrev pub RefusesOpening : GateFault → DiskState → DiskState → Type 0
RefusesOpening DiskFault old new = Rose old.faults new.faults
RefusesOpening NoRun old new = IsSettled new × ((bytes : List ℕ) → Reads old bytes → IsNoRun bytes)
RefusesOpening (Cut at) old new = IsSettled new × ((bytes : List ℕ) → Reads old bytes → IsCutAt at bytes)
RefusesOpening NoMemory old new = Unit {0}
RefusesOpening RunThere old new = ⊥

-- What a call that opens a file promises; it answers the bodies, and where the shut gate stands.
pub record Finds (old new : DiskState) (result : Result (List (List ℕ) × ℕ) GateFault) : Type 0 where
  -- after an Ok the file spells the bodies, and the disk keeps them
  pub found : IfOk result (λ found. (bytes : List ℕ) → Reads old bytes
      → Spells found.0 bytes × Keeps found.0 new found.1)
  -- a file that is opened has at least one body
  pub some : IfOk result (λ found. found.0 ≡ [] → ⊥)
  -- an error says why
  pub refused : IfErr result (λ fault. RefusesOpening fault old new)
  -- the count of faults of the disk does not fall
  pub later : old.faults ≤ new.faults
  -- it rises only if the answer is a fault of the disk
  pub calm : IsCalm old new result
  -- a crash at any moment of the call leaves an image from before it
  pub unwritten : Unwritten old new
  -- how many calls of the disk there are, whatever the answer
  pub uses : (bytes : List ℕ) → Reads old bytes → OpeningUses bytes old new
  -- after an Ok there were at most four calls for each gate, and four besides
  pub uses_ok : IfOk result (λ found. Uses (4 * (length found.0 + 1) + 4) 0 old new)

-- the bodies and the place of the shut gate in what `read_all` (src/open.rt) answers, or its fault
abbrev pub found_in : Result Contents GateFault → Result (List (List ℕ) × ℕ) GateFault
found_in (Ok contents) = Ok (contents.bodies, contents.end)
found_in (Err fault) = Err fault

-- the bodies and the place of the shut gate in the answer of an opening, without the file
abbrev pub found_with : {D : Type 0} → Result (Gate D × List (List ℕ)) (D × GateFault)
    → Result (List (List ℕ) × ℕ) GateFault
found_with (Ok found) = Ok (found.1, found.0.end)
found_with (Err fault) = Err fault.1

-- the file reads as these bytes, `len` of them, and these bodies stand before the offset `at`
pub record IsBefore (at len : ℕ) (bodies : List (List ℕ)) (disk : DiskState) (bytes : List ℕ) : Type 0 where
  -- a read of the disk gives these bytes
  pub reads : Reads disk bytes
  -- there are `len` of them
  pub size : len ≡ length bytes
  -- the entries of the bodies end at the offset `at`
  pub opens : Opens bodies bytes (drop at bytes)

-- why reading on from an offset ends early
abbrev pub RefusesReading : ℕ → ℕ → List (List ℕ) → GateFault → DiskState → DiskState → Type 0
RefusesReading at len bodies DiskFault old new = Rose old.faults new.faults
RefusesReading at len bodies (Cut place) old new =
    (bytes : List ℕ) → IsBefore at len bodies old bytes → IsCutAt place bytes
RefusesReading at len bodies NoMemory old new = Unit {0}
RefusesReading at len bodies NoRun old new = ⊥
RefusesReading at len bodies RunThere old new = ⊥

-- after reading on from an offset: the next gate stands there, or the gate there is shut
abbrev pub ReadsOn : ℕ → Option ℕ → List (List ℕ) → List ℕ → Type 0
ReadsOn at None bodies bytes = Opens bodies bytes (drop at bytes) × IsShut (drop at bytes)
ReadsOn at (Some next) bodies bytes = Opens bodies bytes (drop next bytes)

-- the file reads as these bytes, `len` of them, and those from the offset `at` on begin with the
-- same five bytes as what was seen of them
pub record IsSeen (seen : List ℕ) (at len : ℕ) (disk : DiskState) (bytes : List ℕ) : Type 0 where
  -- a read of the disk gives these bytes
  pub reads : Reads disk bytes
  -- there are `len` of them
  pub size : len ≡ length bytes
  -- the first five bytes from the offset `at` on are those that were seen
  pub front : take 5 seen ≡ take 5 (drop at bytes)

-- why the entry at an offset, of which this was seen, is not read
abbrev pub RefusesEntry : List ℕ → ℕ → ℕ → GateFault → DiskState → DiskState → Type 0
RefusesEntry seen at len DiskFault old new = Rose old.faults new.faults
RefusesEntry seen at len (Cut place) old new =
    (bytes : List ℕ) → IsSeen seen at len old bytes → (place ≡ at) × IsCutShort (drop at bytes)
RefusesEntry seen at len NoMemory old new = Unit {0}
RefusesEntry seen at len NoRun old new = ⊥
RefusesEntry seen at len RunThere old new = ⊥
