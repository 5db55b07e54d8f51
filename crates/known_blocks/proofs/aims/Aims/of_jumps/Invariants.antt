-- The numbers so far and those of the blocks ahead are those of all jumps (loop of `of_jumps`,
-- src/aims.rt).
use Rattle.std.proofs.Common.{◌≡◌, ◌||◌, ℕ, drop}
use Rattle.known_blocks.specs.Entries.{some_jump, is_among}
use Rattle.known_blocks.proofs.aims.Aims.of_jumps.Given as goal

abbrev pub invariant-loop-block : goal.invariant-loop-block
invariant-loop-block l = (n : ℕ) → (is_among l.aims n || some_jump (drop l.block-index l.blocks) n) ≡ some_jump l.blocks n
