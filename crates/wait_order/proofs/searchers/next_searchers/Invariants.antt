-- The list is right for the last `done` places and the end. What the loop of `next_searchers` keeps
-- (src/searchers.rt).
use Rattle.std.proofs.Common.{◌-◌}
use Rattle.wait_order.specs.Searchers.{is_searcher, AreNext}
use Rattle.wait_order.proofs.searchers.next_searchers.Given as goal

abbrev pub invariant-loop-done : goal.invariant-loop-done
invariant-loop-done l = AreNext (is_searcher l.search) l.blocks (l.len - l.done) l.next.items
