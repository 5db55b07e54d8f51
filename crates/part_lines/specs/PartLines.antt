-- The least line of each part of a path (the blocks that it may run between one wait and the next),
-- among the blocks that are looked for: what this crate answers. `line` gives, by the O number and
-- the place of a block, its line if the block is looked for.
use Rattle.std.specs.Prelude.{◌≡◌, ℕ, suc, List, length, Option, Some, slice_get}
use Rattle.block_order.specs.declared.control.Control.{Control}
use Rattle.block_order.specs.declared.program.ControlProgram.{ControlProgram}
use Rattle.block_order.specs.Order.{blocks, control_at}
use Rattle.part_order.specs.Parts.{IsInPart, path_waits}
use Rattle.part_lines.specs.Least.{IsLeast}

-- Part n has a block that is looked for, at this line.
abbrev pub LineInPart : List ControlProgram → (ℕ → ℕ → Option ℕ) → ℕ → ℕ → Type 0
LineInPart tape line n k =
    (program block : ℕ) × (c : Control) × IsInPart tape n program block
    × (control_at (blocks tape program) block ≡ Some c) × (line program block ≡ Some k)

-- One entry for each number of waits up to those of the list: the least line of that part.
pub record AreLeastLines (tape : List ControlProgram) (line : ℕ → ℕ → Option ℕ) (found : List (Option ℕ)) : Type 0 where
  -- There is one entry more than the list has waits.
  pub many : length found ≡ suc (path_waits tape)
  -- The entry of n waits is the least line of part n.
  pub least : (n : ℕ) (o : Option ℕ) → slice_get found n ≡ Some o → IsLeast (LineInPart tape line n) o
