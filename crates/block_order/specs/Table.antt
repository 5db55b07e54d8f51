-- What the table of a program's loops (src/loops.rt) says. Of one program; the tables of a whole
-- tape are in TapeTable.
use Rattle.std.specs.Prelude.{ℕ, ◌≤◌, List, length}
use Rattle.nc_number.specs.declared.limits.TheConstants.{MOST_BLOCKS}
use Rattle.block_order.specs.declared.program.ControlBlock.{ControlBlock}
use Rattle.block_order.specs.declared.loops.LoopTable.{LoopTable}
use Rattle.block_order.specs.declared.loops.Reach.{Reach}
use Rattle.block_order.specs.Fitting.{Fits, IsInside, IsEnds}

-- The table is that of these blocks, of which there are at most 20,000 and whose loops fit
-- together.
pub record IsLoopTable (bs : List ControlBlock) (table : LoopTable) : Type 0 where
  -- There are at most 20,000 blocks.
  pub few : length bs ≤ MOST_BLOCKS
  -- Their loops fit together.
  pub fits : Fits bs
  -- At each head its END.
  pub ends : IsEnds bs (length bs) table.ends.items
  -- At each block the head of the innermost loop that holds it.
  pub inside : IsInside bs (length bs) table.inside.items

-- The block is one of those from which a jump is permitted: it lies in the reach.
abbrev pub IsWithin : Reach → ℕ → Type 0
IsWithin reach block = (reach.low ≤ block) × (block ≤ reach.high)
