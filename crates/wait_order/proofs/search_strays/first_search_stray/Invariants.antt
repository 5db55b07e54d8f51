-- The block so far is the first that may be led to one of the targets before. What the loop of
-- `first_search_stray` keeps (src/search_strays.rt).
use Rattle.std.proofs.Common.{◌≡◌, ℕ, Bool}
use Rattle.wait_order.specs.Ahead.{AreAhead}
use Rattle.wait_order.specs.Searchers.{is_sought}
use Rattle.wait_order.specs.Waiting.{MayLeadBelow, IsLeast}
use Rattle.wait_order.specs.Ways.{AreWays}
use Rattle.block_order.specs.declared.control.Control.{Control}
use Rattle.wait_order.proofs.search_strays.first_search_stray.Given as goal

abbrev pub invariant-loop-block : goal.invariant-loop-block
invariant-loop-block l = record {
  place : l.place ≡ l.block-index;
  first : (loud : ℕ → Bool) (searches : Control → Bool) → AreWays loud l.ways → AreAhead loud searches l.ways.blocks.now l.ahead
      → IsLeast (MayLeadBelow loud searches (is_sought l.search) l.ways.blocks.now l.block-index) l.first;
}
