-- The searches so far are those of the programs so far. What the loop of `searches` keeps
-- (src/searches.rt).
use Rattle.wait_order.specs.Searches.{AreSearchesBelow}
use Rattle.wait_order.proofs.searches.searches.Given as goal

abbrev pub invariant-loop-program : goal.invariant-loop-program
invariant-loop-program l = AreSearchesBelow l.programs l.program-index l.searches.items
