-- No return among the called blocks so far leads elsewhere. What the loop of `returns_elsewhere`
-- keeps (src/view.rt).
use Rattle.std.proofs.Common.{◌≡◌, ◌<◌, ℕ, Bool, Some, length}
use Rattle.block_order.specs.declared.control.Control.TheVariants.{BackTo}
use Rattle.block_order.specs.Order.{control_at}
use Rattle.wait_order.specs.Waiting.{LeadsElsewhere}
use Rattle.wait_order.specs.Ways.{AreWays}
use Rattle.wait_order.proofs.view.returns_elsewhere.Given as goal

abbrev pub invariant-loop-block : goal.invariant-loop-block
invariant-loop-block l =
    (loud : ℕ → Bool) → AreWays loud l.ways → l.place < length l.ways.blocks.now
    → (inner n : ℕ) → inner < l.block-index → control_at l.called inner ≡ Some (BackTo n)
    → LeadsElsewhere loud l.ways.blocks.now l.place n → ⊥
