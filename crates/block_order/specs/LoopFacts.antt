-- What the searches for loops and for jumps find, said without a search. This crate's law
-- `a_loop_ends_at_its_nearest_end` says that both are the same. No other crate cites this: it is
-- for readers of that law.
use Rattle.std.specs.Prelude.{◌≡◌, ◌≢◌, ℕ, ◌<◌, ◌≤◌, List, Some}
use Rattle.block_order.specs.declared.control.Control.TheVariants.{EndLoop}
use Rattle.block_order.specs.declared.program.ControlBlock.{ControlBlock}
use Rattle.block_order.specs.Order.{control_at, head_name, IsLoop}

-- The block at `head` begins a loop, and the block at `close` is the nearest END of its name behind
-- it.
pub record LoopFacts (bs : List ControlBlock) (head close : ℕ) : Type 0 where
  -- The name of the loop, 1, 2 or 3.
  pub name : ℕ
  -- The head is a WHILE or DO of this name.
  pub named : head_name (control_at bs head) ≡ Some name
  -- The other block is an END of this name.
  pub is_close : control_at bs close ≡ Some (EndLoop name)
  -- The END stands behind the head.
  pub order : head < close
  -- No END of this name stands between them.
  pub nearest : (between : ℕ) → head < between → between < close → control_at bs between ≢ Some (EndLoop name)

-- Every loop that holds the target of a jump holds the jump's block too. A loop holds the blocks
-- behind its head up to and with its END.
abbrev pub IsHeldToo : List ControlBlock → ℕ → ℕ → Type 0
IsHeldToo bs block target =
    (head close : ℕ) → IsLoop bs head close → head < target → target ≤ close → (head < block) × (block ≤ close)
