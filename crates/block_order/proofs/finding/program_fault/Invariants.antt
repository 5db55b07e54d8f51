-- The blocks so far have no fault, and `place` counts them. What the loop of `program_fault` keeps
-- (src/finding.rt).
use Rattle.std.proofs.Common.{◌≡◌, List}
use Rattle.block_order.specs.declared.program.ControlProgram.{ControlProgram}
use Rattle.block_order.specs.Order.{main_number}
use Rattle.block_order.specs.Numbers.{KnowsPlaces}
use Rattle.block_order.specs.TapeTable.{IsProgramTables}
use Rattle.block_order.proofs.Findable.{ClearBlocks}
use Rattle.block_order.proofs.finding.program_fault.Given as goal

abbrev pub invariant-loop-block : goal.invariant-loop-block
invariant-loop-block l = record {
  counted : l.place ≡ l.block-index;
  clear : (tape : List ControlProgram) → KnowsPlaces tape l.numbers → IsProgramTables l.program.blocks l.own
      → l.main ≡ main_number tape → ClearBlocks tape l.program l.block-index;
}
