-- What callers see of a journal: the view of the type Journal (src/journal.rt), and what its calls
-- make of it.
use Rattle.std.specs.Prelude.{◌≡◌, ℕ, ◌+◌, ◌*◌, ◌≤◌, List, [], ◌∷◌, length, slice_index, IsTrue, Result, OnOk, OnErr, is_ok}
use Rattle.nc_number.specs.declared.limits.TheConstants.{MOST_PENDING}
use Rattle.gate_file.specs.Gate.{Gate}
use Rattle.run_records.specs.declared.entry.TheConstants.{LONGEST_RECORD}
use Rattle.run_records.specs.declared.version.Version.{Version}
use Rattle.run_records.specs.declared.version.Version.TheVariants.{Two}

-- the file, the body that is to be written next, the number of records, those to be written
-- counted, and the version
pub record Log (D : Type 0) : Type 0 where
  -- the file of gates on the disk
  pub file : Gate D
  -- the body that is to be written next
  pub batch : List ℕ
  -- the number of records, those to be written counted
  pub count : ℕ
  -- the version of the journal by now
  pub version : Version

-- how many records are to be written
abbrev pub pending_in : List ℕ → ℕ
pending_in batch = slice_index batch 0

-- the body begins with its count, and has no more bytes than so many records may have
pub record HasBatch (batch : List ℕ) : Type 0 where
  -- the count is there
  pub some : 1 ≤ length batch
  -- it is at most 64
  pub few : pending_in batch ≤ MOST_PENDING
  -- no record takes more bytes than the longest
  pub short : length batch ≤ 1 + LONGEST_RECORD * pending_in batch

-- a journal that may be written, of so many records, none of which is to be written
pub record IsFresh {D : Type 0} (count : ℕ) (log : Log D) : Type 0 where
  -- it may be written
  pub live : IsTrue log.file.live
  -- no record is to be written
  pub batch : log.batch ≡ 0 ∷ []
  -- it has so many records
  pub count_is : log.count ≡ count

-- What a flush makes of the journal itself.
pub record IsFlushed {D T E : Type 0} (old new : Log D) (result : Result T E) : Type 0 where
  -- after an Ok nothing is left to be written
  pub emptied : OnOk result (new.batch ≡ 0 ∷ [])
  -- after a fault the batch is as before
  pub stays : OnErr result (new.batch ≡ old.batch)
  -- after an Ok, if there was a record to be written, the file is longer by a gate, the four bytes
  -- of the length, and the body
  pub moved : OnOk result (1 ≤ pending_in old.batch → new.file.end ≡ old.file.end + 5 + length old.batch)
  -- after a fault it may not be written again
  pub live : new.file.live ≡ is_ok result
  -- the number of records, those to be written counted, stays
  pub count : new.count ≡ old.count
  -- the version stays
  pub version : new.version ≡ old.version

-- What raising makes of the journal itself.
pub record IsRaised {D T E : Type 0} (old new : Log D) (result : Result T E) : Type 0 where
  -- after an Ok the journal is of version 2
  pub version : OnOk result (new.version ≡ Two)
  -- after a fault the version is as before
  pub stays : OnErr result (new.version ≡ old.version)
  -- after an Ok the file is longer by a gate, the four bytes of the length, and the three bytes of
  -- the mark
  pub moved : OnOk result (new.file.end ≡ old.file.end + 8)
  -- the batch stays
  pub batch : new.batch ≡ old.batch
  -- after a fault it may not be written again
  pub live : new.file.live ≡ is_ok result
  -- the number of records stays
  pub count : new.count ≡ old.count
