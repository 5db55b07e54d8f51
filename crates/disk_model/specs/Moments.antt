-- What a run of calls did, for the layers above. A run is here some calls of a disk, one after
-- another; `old` is the disk before and `new` after them. The lemmas that join runs are in
-- proofs/Runs.
use Rattle.std.specs.Prelude.{◌≡◌, ◌⊎◌, ℕ, ◌+◌, ◌≤◌, max, List, None}
use Rattle.disk_model.specs.Device.{DiskState, Reads}

-- A crash at any moment of the run leaves an image that has P.
pub record LeavesOnly (P : List ℕ → Type 0) (old new : DiskState) : Type 0 where
  -- time does not go back
  pub later : old.clock ≤ new.clock
  -- each image that a crash inside the run may leave has P
  pub each : (c : List ℕ) → new.image_since old.clock c → P c
  -- an image since an earlier time was one before the run, or has P
  pub before : (t : ℕ) (c : List ℕ) → t ≤ old.clock → new.image_since t c → old.image_since t c ⊎ P c

-- The run wrote nothing: a crash leaves what it might have left before.
pub record Unwritten (old new : DiskState) : Type 0 where
  -- a crash inside the run leaves what one before it might have left
  pub moments : LeavesOnly old.image old new
  -- a crash after the run leaves what one before it might have left
  pub now : (c : List ℕ) → new.image c → old.image c
  -- a read gives what it gave
  pub same : new.reads ≡ old.reads

-- The run made so many calls at most, and asked for no write past this end; a disk that tells its
-- content still does, and one that tells none tells none. What the disk allows it still allows.
pub record Uses (count end : ℕ) (old new : DiskState) : Type 0 where
  -- calls are counted only by a disk that tells its content
  pub calls : (bytes : List ℕ) → Reads old bytes → new.calls ≤ old.calls + count
  -- no write was asked for past this end
  pub reach : (bytes : List ℕ) → Reads old bytes → new.reach ≤ max old.reach end
  -- a disk that tells its content still does
  pub told : (bytes : List ℕ) → Reads old bytes → (c : List ℕ) × Reads new c
  -- a disk that tells no content still tells none
  pub untold : old.reads ≡ None → new.reads ≡ None
  -- what the disk allowed it still allows
  pub allows : (calls end : ℕ) → old.allows calls end → new.allows calls end

-- The run made so many calls at most and wrote nothing, and its count of faults does not fall.
pub record Peeks (count : ℕ) (old new : DiskState) : Type 0 where
  -- the count of faults does not fall
  pub later : old.faults ≤ new.faults
  -- the run wrote nothing
  pub unwritten : Unwritten old new
  -- it made so many calls at most, and asked for no write
  pub uses : Uses count 0 old new
