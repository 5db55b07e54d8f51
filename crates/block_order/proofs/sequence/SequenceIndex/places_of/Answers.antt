-- A number that the index lacks has no places. For the contract of `places_of` (src/sequence.rt).
use Rattle.std.proofs.Common.{arith}
use Rattle.std.proofs.lemmas.Grind.{common_steps}
use Rattle.block_order.specs.Places.{IsIndexOf}
use Rattle.block_order.proofs.sequence.SequenceIndex.places_of.Goals as goal

pub returns-in-Some : goal.returns-in-Some
unfolding IsIndexOf
returns-in-Some c = λ bs h. let at = h c.args.number in grind (arith, common_steps, at)

pub returns-in-None : goal.returns-in-None
unfolding IsIndexOf
returns-in-None c = λ bs h. let at = h c.args.number in grind (arith, common_steps, at)
