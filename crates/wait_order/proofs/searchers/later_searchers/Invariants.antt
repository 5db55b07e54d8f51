-- The list is right for the last `done` places and the end, and keeps its length. What the loop of
-- `later_searchers` keeps (src/searchers.rt).
use Rattle.std.proofs.Common.{◌≡◌, ◌+◌, ◌-◌, Bool, length}
use Rattle.block_order.specs.declared.control.Control.{Control}
use Rattle.wait_order.specs.Searchers.{AreNext, AreLater}
use Rattle.block_order.specs.Heard.{is_kept_loud}
use Rattle.wait_order.proofs.searchers.later_searchers.Given as goal

abbrev pub invariant-loop-done : goal.invariant-loop-done
invariant-loop-done l = record {
  count : length l.later.items ≡ length l.blocks + 1;
  filled : (searches : Control → Bool) → AreNext searches l.blocks 0 l.next
      → AreLater (is_kept_loud l.loud) searches l.blocks (l.len - l.done) l.later.items;
}
