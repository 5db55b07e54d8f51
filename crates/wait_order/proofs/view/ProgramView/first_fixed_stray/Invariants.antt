-- No block so far may pass a wait without a search for several numbers. What the loop of
-- `first_fixed_stray` keeps (src/view.rt).
use Rattle.std.proofs.Common.{◌≡◌, ◌<◌, ℕ, Some}
use Rattle.block_order.specs.declared.control.Control.{Control}
use Rattle.block_order.specs.Order.{control_at}
use Rattle.wait_order.specs.Waiting.{IsFixedStray}
use Rattle.wait_order.proofs.view.ProgramView.first_fixed_stray.Given as goal

abbrev pub invariant-loop-block : goal.invariant-loop-block
invariant-loop-block l = record {
  place : l.place ≡ l.block-index;
  none : (k : ℕ) (c : Control) → k < l.block-index → control_at l.self.ways.blocks.now k ≡ Some c
      → IsFixedStray l.self.programs.now l.self.number k c → ⊥;
}
