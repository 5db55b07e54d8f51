-- The numbers so far and those of the blocks ahead are those before and those of all blocks (loop
-- of `note_returns`, src/aims.rt).
use Rattle.std.proofs.Common.{◌≡◌, ◌||◌, ℕ, nat_eq, drop}
use Rattle.std.specs.HashSet.{contains}
use Rattle.known_blocks.specs.Entries.{some_return}
use Rattle.known_blocks.proofs.aims.note_returns.Given as goal

abbrev pub invariant-loop-block : goal.invariant-loop-block
invariant-loop-block l =
    (n : ℕ) → (contains nat_eq l.numbers n || some_return (drop l.block-index l.blocks) n)
    ≡ (contains nat_eq l.fn.numbers n || some_return l.blocks n)
