-- What `branch` does: it makes a journal on the second disk which stands for the run on the first
-- one, up to its n-th meeting.
-- Where a branch ends is in run_branch.
-- What `top` promises is said in it; no other crate takes it.
use Rattle.std.specs.Prelude.{◌≡◌, ◌⊎◌, ℕ, ◌≤◌, ◌<◌, List, ◌++◌, take, codes, decimal, Some, Ok, Err}
use Rattle.disk_model.specs.Device.{DiskState, Reads, Rose, IsSettled}
use Rattle.disk_model.specs.Moments.{LeavesOnly, Unwritten, Uses}
use Rattle.gate_file.specs.Chain.{IsNoRun, IsRunThere}
use Rattle.run_journal.specs.Filled.{newest}
use Rattle.run_journal.specs.Meaning.{a_run}
use Rattle.nc_verify.specs.declared.verified.Verified.{Verified}
use Rattle.nc_restart.specs.declared.fault.RestartFault.{RestartFault}
use Rattle.nc_restart.specs.History.{IsHistory}
use Rattle.nc_restart.specs.Meaning.{StandsForRun}
use Rattle.nc_restart.specs.Pair.{texts_of, IsPairOf}
use Rattle.nc_restart.specs.Recovered.{FoundRun, Recovers}
use Rattle.run_branch.specs.declared.fault.BranchFault.{BranchFault}
use Rattle.run_branch.specs.declared.fault.BranchFault.TheVariants as fault
use Rattle.run_branch.specs.Branches.{branch_end}
use Rattle.run_branch.specs.Meetings.{meetings, branch_point}
use Rattle.nc_number.specs.declared.cause.Cause.TheVariants.{NoMeeting}
use Rattle.text_pieces.specs.Refusals.{refused_text}
use Rattle.lathe_calls.specs.Answers.{Answer, tells, nothing}
use Rattle.lathe_calls.specs.Statuses as exit
use Rattle.lathe_looks.specs.Shown.{unfound_answer}

-- the line of output for a branch at the n-th meeting, which has k records
unfoldable pub branched_text : ℕ → ℕ → List ℕ
branched_text n k = codes "branched " ++ (decimal n ++ (codes " records " ++ (decimal k ++ codes "\n")))

-- What is told if a branch is not made, by the cause; nothing if memory runs out.
abbrev pub unbranched_answer : BranchFault → Answer
unbranched_answer fault.NoMeeting = tells exit.refused (refused_text NoMeeting)
unbranched_answer fault.RunThere = tells exit.run_or_none (codes "run there\n")
unbranched_answer fault.NewDisk = tells exit.disk_fault (codes "disk fault\n")
unbranched_answer fault.NoMemory = nothing

-- The image stands for the branch: the texts of the run in a journal of version 2, and the shortest
-- prefix of its records that has n meetings, which is a history of their pair.
abbrev pub StandsForBranch : FoundRun → ℕ → List ℕ → Type 0
StandsForBranch run n image =
    (k : ℕ) × (branch_point n run.entries ≡ Some k) × StandsForRun (a_run (newest run.header) (take k run.entries)) image

-- while a branch is made, a crash leaves an image from before, or one without a run, or the whole
-- branch
abbrev pub IsWhileBranching : FoundRun → ℕ → (List ℕ → Type 0) → List ℕ → Type 0
IsWhileBranching run n image c = image c ⊎ (IsNoRun c ⊎ StandsForBranch run n c)

-- What a branch does to its disk, made or not. A crash at any moment leaves an image from before,
-- or no run, or the whole branch. A run that is there stays as it is. The disk gets 12 calls at
-- most, none past the end of the branch.
pub record KeepsBranch (run : FoundRun) (n : ℕ) (old new : DiskState) : Type 0 where
  -- a crash at any moment leaves an image from before, no run, or the whole branch
  pub any_moment : (bytes : List ℕ) → Reads old bytes → LeavesOnly (IsWhileBranching run n old.image) old new
  -- a run that is there is not written to
  pub spares : (bytes : List ℕ) → Reads old bytes → IsRunThere bytes → Unwritten old new
  -- 12 calls at most, none of which writes further than any branch of this run may end
  pub uses : Uses 12 (branch_end run.header run.entries) old new
  -- the count of faults doesn't sink
  pub later : old.faults ≤ new.faults

-- The branch was made and has k records. A crash now leaves the whole branch; its disk had no run;
-- and no call of it failed.
pub record IsBranchMade (run : FoundRun) (n k : ℕ) (old new : DiskState) : Type 0 where
  -- the shortest prefix with n meetings has k records
  pub point : branch_point n run.entries ≡ Some k
  -- a crash now leaves the whole branch
  pub whole : (bytes : List ℕ) → Reads old bytes → (c : List ℕ) → new.image c → StandsForBranch run n c
  -- the disk had no run
  pub vacant : (bytes : List ℕ) → Reads old bytes → IsRunThere bytes → ⊥
  -- no call of the disk failed
  pub calm : new.faults ≡ old.faults

-- There is a run on the disk of the branch, all of which is settled there. It was left alone, and
-- no call failed.
pub record IsRunSeen (old new : DiskState) : Type 0 where
  -- the disk has a run, if it makes its bytes known
  pub there : (bytes : List ℕ) → Reads old bytes → IsRunThere bytes
  -- nothing was written
  pub unwritten : Unwritten old new
  -- a crash leaves what a read gives
  pub settled : IsSettled new
  -- no call of the disk failed
  pub calm : new.faults ≡ old.faults

-- What is answered to a branch of a run at its n-th meeting, and what it did to the second disk.
-- If the run has fewer meetings that is told, and the second disk was not called. Else the
-- branch is made; or there is a run; or the disk failed; nothing if memory runs out.
pub data IsBranchOf {E : Type 0} (state : E → DiskState) (run : FoundRun) (n : ℕ) (old new : E) : Answer → Type 0 where
  -- the run has fewer meetings, and the second disk was not called
  no_meeting : meetings run.entries < n → new ≡ old → IsBranchOf state run n old new (unbranched_answer fault.NoMeeting)
  -- the branch was made
  made : (k : ℕ) → n ≤ meetings run.entries → IsBranchMade run n k (state old) (state new) → KeepsBranch run n (state old) (state new)
      → IsBranchOf state run n old new (tells exit.done (branched_text n k))
  -- the second disk has a run already
  run_seen : n ≤ meetings run.entries → IsRunSeen (state old) (state new) → KeepsBranch run n (state old) (state new)
      → IsBranchOf state run n old new (unbranched_answer fault.RunThere)
  -- a call of the second disk failed
  failed : n ≤ meetings run.entries → Rose (state old).faults (state new).faults → KeepsBranch run n (state old) (state new)
      → IsBranchOf state run n old new (unbranched_answer fault.NewDisk)
  -- memory ran out before anything was written
  unmade : Unwritten (state old) (state new) → (state new).faults ≡ (state old).faults → KeepsBranch run n (state old) (state new)
      → IsBranchOf state run n old new nothing

-- What `branch` answers: why no run is found on the first disk, and the second one was not called;
-- or what is answered to a branch of the run that is found. Nothing is written to the first disk.
pub data IsBranched {E : Type 0} (state : E → DiskState) (n : ℕ) (old new : DiskState) (onto left : E) : Answer → Type 0 where
  -- no run is found on the first disk, and the second disk was not called
  not_found : (fault : RestartFault) → Recovers old new (Err fault) → left ≡ onto → IsBranched state n old new onto left (unfound_answer fault)
  -- the run that is found is branched, or it is answered why not
  branched : {answer : Answer} (run : FoundRun) (pair : Verified) → IsPairOf (texts_of run.header) pair → IsHistory pair run.entries
      → Recovers old new (Ok run) → IsBranchOf state run n onto left answer → IsBranched state n old new onto left answer
