-- The stretch of each block of a program, one after another: the list of src/stretch.rt. A stretch
-- is the run of blocks up to a mark (a wait, an end, an M99 without a number, or a call that leads
-- to a wait or an end). For this crate alone.
use Rattle.std.specs.Prelude.{ℕ, ◌+◌, Bool, List, [], ◌∷◌, length}
use Rattle.block_order.specs.declared.program.ControlBlock.{ControlBlock}
use Rattle.block_order.specs.Loud.{mark_of}

-- The stretch of each of these blocks: how many marks stand before it. Before the first of them
-- `marks` marks stand.
abbrev pub stretches_from : (ℕ → Bool) → ℕ → List ControlBlock → List ℕ
stretches_from loud marks [] = []
stretches_from loud marks (b ∷ bs) = marks ∷ stretches_from loud (marks + length (mark_of loud b.control)) bs
