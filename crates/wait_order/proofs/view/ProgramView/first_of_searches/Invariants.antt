-- The block so far is the first that may lead to another stretch by one of the searches before. A
-- stretch is the run of blocks up to a wait, an end, an M99 without a number, or a call that leads
-- to a wait or an end. What the loop of `first_of_searches` keeps (src/view.rt).
use Rattle.block_order.specs.Loud.{loud}
use Rattle.wait_order.specs.Searches.{IsSearchStrayBelow}
use Rattle.wait_order.specs.Waiting.{IsLeast}
use Rattle.wait_order.proofs.view.ProgramView.first_of_searches.Given as goal

abbrev pub invariant-loop-search : goal.invariant-loop-search
invariant-loop-search l =
    IsLeast (IsSearchStrayBelow (loud l.self.programs.now) l.searches l.search-index l.self.ways.blocks.now) l.first
