-- That a view of a program says what the program is: the view (src/view.rt) is the program among
-- those of its tape, in which the first block is looked for that may pass a wait. For this crate
-- alone: src/view.rt requires it, and `program_line` (src/waiting.rt) makes it. A loud program
-- comes to a wait or an end, itself or by its calls; the others are quiet.
use Rattle.std.specs.Prelude.{◌≡◌}
use Rattle.wait_order.specs.declared.view.ProgramView.{ProgramView}
use Rattle.block_order.specs.Order.{blocks, main_number}
use Rattle.block_order.specs.Loud.{loud}
use Rattle.block_order.specs.Numbers.{KnowsPlaces}
use Rattle.block_order.specs.Heard.{is_kept_loud}
use Rattle.wait_order.specs.Ways.{AreWays}

-- The view has the programs' places, the loud programs, the main program's number, and of its own
-- program the blocks and ways: its stretches, sequence numbers and loops.
pub record IsView (view : ProgramView) : Type 0 where
  -- The places of the O numbers are those of the programs.
  pub places : KnowsPlaces view.programs.now view.loud.now.numbers
  -- The flags are those of the loud programs.
  pub heard_loud : is_kept_loud view.loud.now ≡ loud view.programs.now
  -- The main program's number is that of the first one.
  pub main : view.main ≡ main_number view.programs.now
  -- The blocks are those of the program's number.
  pub own_blocks : blocks view.programs.now view.number ≡ view.ways.blocks.now
  -- The stretches (runs of blocks up to a mark) and the tables of its sequence numbers and loops
  -- are those of its blocks.
  pub ways : AreWays (loud view.programs.now) view.ways
