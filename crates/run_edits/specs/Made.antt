-- The records of an operator's edits, and what making them does to the disk of a journal.
use Rattle.std.specs.Prelude.{◌≡◌, ℕ, ◌+◌, ◌*◌, ◌≤◌, List, [], ◌++◌, length, map, Result, IfErr, IsOk, OnOk}
use Rattle.disk_model.specs.Device.{DiskState, Reads, Rose}
use Rattle.disk_model.specs.Moments.{LeavesOnly, Uses}
use Rattle.edit_texts.specs.declared.edit_list.PathEdit.{PathEdit}
use Rattle.gate_file.specs.declared.fault.DiskFault.{DiskFault}
use Rattle.nc_number.specs.declared.fault.Failing.{Failing}
use Rattle.nc_number.specs.declared.fault.Failing.TheVariants.{Fault, NoMemory}
use Rattle.run_records.specs.Entries.{Entry}
use Rattle.run_records.specs.declared.header.Header.{Header}
use Rattle.run_records.specs.Headers.{header_bytes}
use Rattle.run_journal.specs.Batches.{records_bytes}
use Rattle.run_journal.specs.Stands.{Stands, StandsEither}
use Rattle.two_path.specs.Edits.{edit_entry}

-- the record of an edit of a path
abbrev pub record_of : PathEdit → Entry
record_of what = edit_entry what.path what.edit

-- the records of edits, in their order
abbrev pub records_of : List PathEdit → List Entry
records_of edits = map record_of edits

-- no write of edits ends past this: fourteen bytes, the header, and of each record its bytes and six
-- more, as in a session of a run
abbrev pub edits_end : Header → List Entry → ℕ
edits_end header history = 14 + length (header_bytes header) + length (records_bytes history) + 6 * length history

-- why edits were not made: the disk failed, or there was no memory, and the disk was not called
abbrev pub FailsFor : {D : Type 0} → (D → DiskState) → D → D → Failing DiskFault → Type 0
FailsFor state before after (Fault fault) = Rose (state before).faults (state after).faults
FailsFor state before after NoMemory = after ≡ before

-- What came of edits that make these records, over the disk of a journal that holds what was found,
-- if the disk tells its content.
pub record MakesEdits {D : Type 0} (state : D → DiskState) (header : Header) (found made : List Entry) (before after : D)
    (result : Result (Unit {0}) (Failing DiskFault)) : Type 0 where
  -- where there are none the disk was not called
  pub none : made ≡ [] → (after ≡ before) × IsOk result
  -- after an Ok whatever a crash may leave stands for what was found, and the records of all edits
  -- behind it
  pub whole : OnOk result ((bytes : List ℕ) → Reads (state before) bytes → (c : List ℕ) → (state after).image c
      → Stands header (found ++ made) c)
  -- a crash at any moment of the call leaves what was found, or that and all of them
  pub any_moment : (bytes : List ℕ) → Reads (state before) bytes
      → LeavesOnly (StandsEither header found made) (state before) (state after)
  -- an error says why
  pub refused : IfErr result (FailsFor state before after)
  -- after an Ok no call of the disk failed
  pub calm : OnOk result ((state after).faults ≡ (state before).faults)
  -- the count of faults of the disk does not fall
  pub later : (state before).faults ≤ (state after).faults
  -- it makes eight calls of the disk at most
  pub uses : Uses 8 (edits_end header (found ++ made)) (state before) (state after)
