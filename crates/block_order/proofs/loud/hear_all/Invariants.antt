-- Only loud programs are flagged, however many are looked at again. A loud program has a wait or an
-- end, or calls one that has. What the loop of `hear_all` keeps (src/loud.rt).
use Rattle.block_order.specs.Loud.{loud}
use Rattle.block_order.specs.ProgramPlaces.{is_flagged}
use Rattle.block_order.proofs.LoudReaches.{IsWithin}
use Rattle.block_order.proofs.loud.hear_all.Given as goal

abbrev pub invariant-loop : goal.invariant-loop
invariant-loop l = IsWithin (is_flagged l.programs l.flags) (loud l.programs)
