-- Lines once more than so many times, for the loop of `push_repeats` (src/run.rt).
use Rattle.std.proofs.Common.{◌≡◌, ℕ, suc, ◌+◌, List, ◌++◌, ap, arith}
use Rattle.nc_text.specs.declared.tape.Block.{Block}
use Rattle.peck_form.specs.Run.{repeated}

-- one time more
pub once_more : (n : ℕ) (lines : List Block) → repeated (n + 1) lines ≡ repeated n lines ++ lines
once_more n lines = let next : n + 1 ≡ suc n = omega arith in ap (λ k. repeated k lines) next
