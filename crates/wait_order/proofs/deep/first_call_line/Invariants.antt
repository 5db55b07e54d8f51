-- None of the blocks so far calls a loud program. A loud program has a wait or an end, or calls one
-- that has. What the loop of `first_call_line` keeps (src/deep.rt).
use Rattle.std.proofs.Common.{◌≡◌, ◌<◌, ℕ, List, Some, slice_get}
use Rattle.block_order.specs.declared.program.ControlBlock.{ControlBlock}
use Rattle.block_order.specs.declared.program.ControlProgram.{ControlProgram}
use Rattle.wait_order.specs.Depth.{IsLoudCall}
use Rattle.block_order.specs.Heard.{AreFlagsOf}
use Rattle.wait_order.proofs.deep.first_call_line.Given as goal

abbrev pub invariant-loop-block : goal.invariant-loop-block
invariant-loop-block l =
    (tape : List ControlProgram) → AreFlagsOf tape l.loud
    → (k q : ℕ) (b : ControlBlock) → k < l.block-index → slice_get l.blocks k ≡ Some b → IsLoudCall tape b.control q → ⊥
