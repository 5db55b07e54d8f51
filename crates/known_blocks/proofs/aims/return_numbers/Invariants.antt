-- The numbers so far and those of the programs ahead are the numbers of all returns (loop of
-- `return_numbers`, src/aims.rt).
use Rattle.std.proofs.Common.{◌≡◌, ◌||◌, ℕ, nat_eq, drop}
use Rattle.std.specs.HashSet.{contains}
use Rattle.known_blocks.specs.Entries.{some_return_in}
use Rattle.known_blocks.proofs.aims.return_numbers.Given as goal

abbrev pub invariant-loop-program : goal.invariant-loop-program
invariant-loop-program l =
    (n : ℕ) → (contains nat_eq l.numbers n || some_return_in (drop l.program-index l.tape) n) ≡ some_return_in l.tape n
