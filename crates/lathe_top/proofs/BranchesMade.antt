-- What is answered to a branch of a run that was found is what is due to it.
-- For the proof of `branch_found` (src/branching.rt).
use Rattle.std.proofs.Common.{inl, inr, ℕ, suc, ◌≤◌, ◌<◌, List, Result, Ok, Err, refl, arith}
use Rattle.std.proofs.Math.Nat.{lt_of_not-le}
use Rattle.disk_model.specs.Device.{DiskState}
use Rattle.disk_model.proofs.Runs.{widened}
use Rattle.nc_verify.specs.declared.verified.Verified.{Verified}
use Rattle.run_records.specs.Entries.{Entry}
use Rattle.run_records.specs.declared.header.Header.{Header}
use Rattle.run_journal.specs.Filled.{newest}
use Rattle.run_journal.specs.Kept.{Log}
use Rattle.two_path.specs.Machine.{MachineView}
use Rattle.nc_restart.specs.Meaning.{HasHistory}
use Rattle.nc_restart.specs.Recovered.{FoundRun, IsRecovered, Recovers}
use Rattle.run_branch.specs.declared.fault.BranchFault.{BranchFault}
use Rattle.run_branch.specs.declared.fault.BranchFault.TheVariants as fault
use Rattle.run_branch.specs.Branches.{Branches, IsBranch, IsBranching, IsNoMeeting}
use Rattle.run_branch.specs.Meetings.{meetings}
use Rattle.lathe_calls.specs.Answers.{Answer, tells}
use Rattle.lathe_calls.specs.Statuses as exit
use Rattle.lathe_top.specs.Branched.{IsBranched, branched, IsBranchOf, no_meeting, made, run_seen, failed, unmade, IsWhileBranching, KeepsBranch, StandsForBranch, branched_text, unbranched_answer}
use Rattle.lathe_top.proofs.StopsLeave.{NeverBad}

-- what is told of a branch, by what crate run_branch answered
abbrev told_by : ℕ → Result ℕ BranchFault → Answer
told_by n (Ok k) = tells exit.done (branched_text n k)
told_by n (Err f) = unbranched_answer f

-- a number that is not below another is at least as great
no_less : (a b : ℕ) → (a < b → ⊥) → b ≤ a
no_less a b never = let more : b < suc a = lt_of_not-le never in omega (arith, more)

-- A run was found on the first disk, and the second disk was handed over for its branch. `a` is the
-- first disk before the call; `onto` and `left` are the second disk before and after the branch.
module _ {D E : Type 0} (state : D → DiskState) (second : E → DiskState) (never_bad : NeverBad) (a : DiskState) (header : Header) (pair : Verified)
    (machine : MachineView) (entries : List Entry) (log : Log D) (is : IsRecovered state header pair machine entries log)
    (recovers : Recovers a (state log.file.disk) (Ok (record { header = header; entries = entries }))) (n : ℕ) (onto left : E) where
  -- the run that was found
  abbrev run : FoundRun
  run = record { header = header; entries = entries }

  -- the records are a history under the newer header too, which has the same texts
  has : HasHistory (newest header) entries
  has = record { pair = pair; accepted = is.accepted; history = is.behind.history }

  -- what run_branch calls a branch stands for one
  as_branch : (c : List ℕ) → IsBranch header entries n c → StandsForBranch run n c
  as_branch c stands = (stands.0, stands.1, never_bad (newest header) entries stands.0 c has stands.2)

  -- what run_branch leaves while it writes is an image from before, no run, or the branch
  as_while : (image : List ℕ → Type 0) (c : List ℕ) → IsBranching image header entries n c → IsWhileBranching run n image c
  as_while image c (inl earlier) = inl earlier
  as_while image c (inr (inl none)) = inr (inl none)
  as_while image c (inr (inr stands)) = inr (inr (as_branch c stands))

  -- what crate run_branch answered, with the second disk after it
  module _ (result : Result ℕ BranchFault) (does : Branches second header entries n onto left result) where
    -- what it did to the second disk is what a branch may do
    keeps : KeepsBranch run n (second onto) (second left)
    keeps = record {
      any_moment = λ bytes reads. widened (IsBranching (second onto).image header entries n) (IsWhileBranching run n (second onto).image)
          (second onto) (second left) (does.any_moment bytes reads) (as_while (second onto).image);
      spares = does.spares;
      uses = does.uses;
      later = does.later;
    }

    -- unless it says that there is no such meeting, the run has enough meetings
    enough : (IsNoMeeting result → ⊥) → n ≤ meetings entries
    enough other = no_less (meetings entries) n (λ fewer. other (does.no_meeting.1 fewer))

  -- the answer of run_branch is one that is due to a branch of this run
  of_run : (result : Result ℕ BranchFault) → Branches second header entries n onto left result → IsBranchOf second run n onto left (told_by n result)
  of_run (Ok k) does =
      made k (enough (Ok k) does (λ never. never))
      (record {
        point = does.count;
        whole = λ bytes reads c image. as_branch c (does.whole bytes reads c image);
        vacant = does.vacant;
        calm = does.calm (λ never. never);
      })
      (keeps (Ok k) does)
  of_run (Err fault.NoMeeting) does = no_meeting (does.no_meeting.0 refl) (does.uncalled refl)
  of_run (Err fault.RunThere) does =
      run_seen (enough (Err fault.RunThere) does (λ is. absurd cc))
      (record {
        there = does.refused.2;
        unwritten = does.refused.0;
        settled = does.refused.1;
        calm = does.calm (λ is. absurd cc);
      })
      (keeps (Err fault.RunThere) does)
  of_run (Err fault.NewDisk) does = failed (enough (Err fault.NewDisk) does (λ is. absurd cc)) does.refused (keeps (Err fault.NewDisk) does)
  of_run (Err fault.NoMemory) does = unmade does.refused (does.calm (λ is. absurd cc)) (keeps (Err fault.NoMemory) does)

  -- a branch that is made is told with the count of its records
  pub made_due : (k : ℕ) → Branches second header entries n onto left (Ok k)
      → IsBranched second n a (state log.file.disk) onto left (tells exit.done (branched_text n k))
  made_due k does = branched run pair is.accepted is.behind.history recovers (of_run (Ok k) does)

  -- a branch that is not made is told with its cause
  pub unmade_due : (f : BranchFault) → Branches second header entries n onto left (Err f)
      → IsBranched second n a (state log.file.disk) onto left (unbranched_answer f)
  unmade_due f does = branched run pair is.accepted is.behind.history recovers (of_run (Err f) does)
