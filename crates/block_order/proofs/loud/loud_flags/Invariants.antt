-- The flags hold what so many rounds find, and only loud programs. A loud program has a wait or an
-- end, or calls one that has. What the loop of `loud_flags` keeps (src/loud.rt).
use Rattle.block_order.proofs.HeardFirst.{AreBetween}
use Rattle.block_order.proofs.loud.loud_flags.Given as goal

abbrev pub invariant-loop-round : goal.invariant-loop-round
invariant-loop-round l = AreBetween l.programs l._round l.flags.items
