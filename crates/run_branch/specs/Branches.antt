-- What making a branch does to its disk: it puts a second journal there, which stands for a run up
-- to its n-th meeting.
use Rattle.std.specs.Prelude.{◌≡◌, ◌⊎◌, ◌↔◌, ℕ, ◌+◌, ◌*◌, ◌≤◌, ◌<◌, List, length, take, Some, Result, Ok, Err, IfOk, OnOk, IfErr}
use Rattle.disk_model.specs.Device.{DiskState, Reads, Rose, IsSettled}
use Rattle.disk_model.specs.Moments.{LeavesOnly, Unwritten, Uses}
use Rattle.gate_file.specs.Chain.{IsNoRun, IsRunThere}
use Rattle.run_records.specs.declared.header.Header.{Header}
use Rattle.run_records.specs.Entries.{Entry}
use Rattle.run_records.specs.Headers.{header_bytes}
use Rattle.run_journal.specs.Batches.{records_bytes}
use Rattle.run_journal.specs.Filled.{newest}
use Rattle.run_journal.specs.Stands.{Stands}
use Rattle.run_branch.specs.declared.fault.BranchFault.{BranchFault}
use Rattle.run_branch.specs.declared.fault.BranchFault.TheVariants.{NoMeeting, RunThere, NewDisk, NoMemory}
use Rattle.run_branch.specs.Meetings.{meetings, branch_point}

-- the image stands for the branch: the same texts, in version 2, and the shortest prefix of the
-- records that has n meetings
abbrev pub IsBranch : Header → List Entry → ℕ → List ℕ → Type 0
IsBranch header entries n image =
    (k : ℕ) × (branch_point n entries ≡ Some k) × Stands (newest header) (take k entries) image

-- while a branch is made: an image from before, or no run, or the whole branch
abbrev pub IsBranching : (List ℕ → Type 0) → Header → List Entry → ℕ → List ℕ → Type 0
IsBranching image header entries n file = image file ⊎ (IsNoRun file ⊎ IsBranch header entries n file)

-- no write of a branch ends past this: six bytes, the header, and of each record its bytes and six
-- more
abbrev pub branch_end : Header → List Entry → ℕ
branch_end header entries = 6 + length (header_bytes header) + length (records_bytes entries) + 6 * length entries

-- the answer is that the run has fewer meetings
abbrev pub IsNoMeeting : {A : Type 0} → Result A BranchFault → Type 0
IsNoMeeting (Ok answer) = ⊥
IsNoMeeting (Err fault) = fault ≡ NoMeeting

-- the answer is a fault of the new journal's disk
abbrev pub IsNewDisk : {A : Type 0} → Result A BranchFault → Type 0
IsNewDisk (Ok answer) = ⊥
IsNewDisk (Err fault) = fault ≡ NewDisk

-- why a branch is not made, and what the disk is then: a call of it failed, or nothing was written
abbrev pub RefusesBranch : BranchFault → DiskState → DiskState → Type 0
RefusesBranch NoMeeting old new = Unwritten old new
RefusesBranch RunThere old new =
    Unwritten old new × IsSettled new × ((bytes : List ℕ) → Reads old bytes → IsRunThere bytes)
RefusesBranch NewDisk old new = Rose old.faults new.faults
RefusesBranch NoMemory old new = Unwritten old new

-- What a call promises that makes a branch of these records on a disk; it answers how many records
-- the branch has.
pub record Branches {E : Type 0} (state : E → DiskState) (header : Header) (entries : List Entry) (n : ℕ) (before after : E)
    (result : Result ℕ BranchFault) : Type 0 where
  -- `NoMeeting` is answered exactly where the records have fewer meetings, and then the disk was
  -- not called
  pub no_meeting : IsNoMeeting result ↔ (meetings entries < n)
  -- with `NoMeeting` the disk is as it was
  pub uncalled : IsNoMeeting result → after ≡ before
  -- an Ok says how many records the branch has
  pub count : IfOk result (λ k. branch_point n entries ≡ Some k)
  -- after an Ok whatever a crash may leave of the disk stands for the branch
  pub whole : OnOk result ((bytes : List ℕ) → Reads (state before) bytes → (c : List ℕ) → (state after).image c
      → IsBranch header entries n c)
  -- after an Ok there was no run before
  pub vacant : OnOk result ((bytes : List ℕ) → Reads (state before) bytes → IsRunThere bytes → ⊥)
  -- a run that is there stays as it is, whatever the answer
  pub spares : (bytes : List ℕ) → Reads (state before) bytes → IsRunThere bytes → Unwritten (state before) (state after)
  -- an error says why
  pub refused : IfErr result (λ fault. RefusesBranch fault (state before) (state after))
  -- the count of faults of the disk does not fall
  pub later : (state before).faults ≤ (state after).faults
  -- it rises only if the answer is a fault of the disk
  pub calm : (IsNewDisk result → ⊥) → (state after).faults ≡ (state before).faults
  -- a crash at any moment of the call leaves an image from before it, or no run, or the whole
  -- branch
  pub any_moment : (bytes : List ℕ) → Reads (state before) bytes
      → LeavesOnly (IsBranching (state before).image header entries n) (state before) (state after)
  -- it makes twelve calls of the disk at most
  pub uses : Uses 12 (branch_end header entries) (state before) (state after)

-- the disk in an answer that gives it back either way
abbrev pub disk_in : {E : Type 0} → Result (E × ℕ) (E × BranchFault) → E
disk_in (Ok made) = made.0
disk_in (Err refused) = refused.0

-- an answer without the disk
abbrev pub answer_in : {E : Type 0} → Result (E × ℕ) (E × BranchFault) → Result ℕ BranchFault
answer_in (Ok made) = Ok made.1
answer_in (Err refused) = Err refused.1
