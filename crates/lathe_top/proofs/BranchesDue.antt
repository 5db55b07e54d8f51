-- To a branch of one run one answer is due.
-- DueOnce uses it.
use Rattle.std.proofs.Common.{◌≡◌, ℕ, List, refl, ap, arith}
use Rattle.disk_model.specs.Device.{DiskState, Reads, Rose}
use Rattle.nc_restart.specs.Recovered.{FoundRun}
use Rattle.lathe_calls.specs.Answers.{Answer}
use Rattle.lathe_top.specs.Branched.{IsBranchOf, no_meeting, made, run_seen, failed, unmade, branched_text}
use Rattle.lathe_top.proofs.Agreed.{Agree}

-- over a second disk that made its bytes known and did not fail
module _ {E : Type 0} (state : E → DiskState) (run : FoundRun) (n : ℕ) (old new : E) (bytes : List ℕ) (holds : Reads (state old) bytes)
    (calm : Rose (state old).faults (state new).faults → ⊥) where
  -- two answers that are due to one branch agree
  pub branch_once : (a b : Answer) → IsBranchOf state run n old new a → IsBranchOf state run n old new b → Agree a b
  branch_once a b (unmade stays well keeps) two = tt
  branch_once a b (failed enough rose keeps) two = absurd (calm rose)
  branch_once a b (no_meeting few same) (no_meeting few' same') = (refl, refl)
  branch_once a b (no_meeting few same) (made k enough is keeps) = absurd (omega (arith, few, enough))
  branch_once a b (no_meeting few same) (run_seen enough seen keeps) = absurd (omega (arith, few, enough))
  branch_once a b (no_meeting few same) (failed enough rose keeps) = absurd (calm rose)
  branch_once a b (no_meeting few same) (unmade stays well keeps) = tt
  branch_once a b (made k enough is keeps) (no_meeting few same) = absurd (omega (arith, few, enough))
  branch_once a b (made k enough is keeps) (made k' enough' is' keeps') =
      let one = is.point in
      let two = is'.point in
      let same : k ≡ k' = cc in
      (refl, ap (branched_text n) same)
  branch_once a b (made k enough is keeps) (run_seen enough' seen keeps') = absurd (is.vacant bytes holds (seen.there bytes holds))
  branch_once a b (made k enough is keeps) (failed enough' rose keeps') = absurd (calm rose)
  branch_once a b (made k enough is keeps) (unmade stays well keeps') = tt
  branch_once a b (run_seen enough seen keeps) (no_meeting few same) = absurd (omega (arith, few, enough))
  branch_once a b (run_seen enough seen keeps) (made k enough' is keeps') = absurd (is.vacant bytes holds (seen.there bytes holds))
  branch_once a b (run_seen enough seen keeps) (run_seen enough' seen' keeps') = (refl, refl)
  branch_once a b (run_seen enough seen keeps) (failed enough' rose keeps') = absurd (calm rose)
  branch_once a b (run_seen enough seen keeps) (unmade stays well keeps') = tt
