-- That the tables of a program say what its blocks are. For this crate alone. A stretch is the run
-- of blocks up to a mark: a wait, an end, an M99 without a number, or a loud call. A loud program
-- comes to a wait or an end, itself or by its calls; the others are quiet.
use Rattle.std.specs.Prelude.{◌≡◌, ◌≤◌, ℕ, Bool, length}
use Rattle.nc_number.specs.declared.limits.TheConstants.{MOST_BLOCKS}
use Rattle.wait_order.specs.declared.ways.ProgramWays.{ProgramWays}
use Rattle.wait_order.specs.Stretches.{stretches_from}
use Rattle.block_order.specs.TapeTable.{IsProgramTables}

-- The stretches and tables are those of the program's blocks, of which there are at most 20,000.
pub record AreWays (loud : ℕ → Bool) (ways : ProgramWays) : Type 0 where
  -- There are at most 20,000 blocks.
  pub few : length ways.blocks.now ≤ MOST_BLOCKS
  -- The stretches are those of the blocks, one after another.
  pub stretches : ways.stretches.now ≡ stretches_from loud 0 ways.blocks.now
  -- The tables are those of the blocks.
  pub tables : IsProgramTables ways.blocks.now ways.tables.now
