-- How a branch of a run is opened: as its header and its records. The public law
-- `a_branch_opens_as_its_records` (src/laws.rt) says so; no other crate cites this file.
use Rattle.std.specs.Prelude.{◌≡◌, ◌⊎◌, ℕ, List, take, Some, Result, Ok, Err}
use Rattle.run_records.specs.declared.header.Header.{Header}
use Rattle.run_records.specs.Entries.{Entry}
use Rattle.run_journal.specs.declared.fault.JournalFault.{JournalFault}
use Rattle.run_journal.specs.declared.fault.JournalFault.TheVariants.{DiskFault, NoMemory}
use Rattle.run_journal.specs.Filled.{newest}
use Rattle.run_journal.specs.Opening.{Found}
use Rattle.run_branch.specs.Meetings.{branch_point}

-- what an opening found is the branch of this run up to its n-th meeting
pub record IsBranchFound (header : Header) (entries : List Entry) (n : ℕ) (found : Found) : Type 0 where
  -- how many records the branch has
  pub k : ℕ
  -- they are the shortest prefix with n meetings
  pub point : branch_point n entries ≡ Some k
  -- the header has the same texts, in version 2
  pub header_is : found.header ≡ newest header
  -- the records are that prefix
  pub entries_are : found.entries ≡ take k entries

-- An opening finds the branch, or is refused because the disk failed or memory ran out, and for no
-- other cause.
abbrev pub OpensAsBranch : Header → List Entry → ℕ → Result Found JournalFault → Type 0
OpensAsBranch header entries n (Ok found) = IsBranchFound header entries n found
OpensAsBranch header entries n (Err fault) = (fault ≡ DiskFault) ⊎ (fault ≡ NoMemory)
