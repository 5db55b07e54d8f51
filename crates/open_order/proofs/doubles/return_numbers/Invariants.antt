-- The numbers so far and those of the blocks ahead are the numbers of all returns. What the loop of
-- `return_numbers` keeps (src/doubles.rt).
use Rattle.std.proofs.Common.{◌≡◌, ◌||◌, ℕ, nat_eq, drop}
use Rattle.std.specs.HashSet.{contains}
use Rattle.wait_order.specs.Searchers.{has_back_to}
use Rattle.open_order.proofs.doubles.return_numbers.Given as goal

abbrev pub invariant-loop-block : goal.invariant-loop-block
invariant-loop-block l =
    (n : ℕ) → (contains nat_eq l.numbers n || has_back_to (drop l.block-index l.listed) n) ≡ has_back_to l.listed n
