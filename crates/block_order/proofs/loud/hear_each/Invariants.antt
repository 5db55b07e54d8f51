-- Only loud programs are flagged, of the numbers so far. A loud program has a wait or an end, or
-- calls one that has. What the loop of `hear_each` keeps (src/loud.rt).
use Rattle.block_order.specs.Loud.{loud}
use Rattle.block_order.specs.ProgramPlaces.{is_flagged}
use Rattle.block_order.proofs.LoudReaches.{IsWithin}
use Rattle.block_order.proofs.loud.hear_each.Given as goal

abbrev pub invariant-loop-number : goal.invariant-loop-number
invariant-loop-number l = IsWithin (is_flagged l.programs l.flags) (loud l.programs)
