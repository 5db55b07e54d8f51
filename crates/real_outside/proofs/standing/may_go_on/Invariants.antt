-- For the loop of `may_go_on` (src/standing.rt): the gate so far lies before the greatest end of a
-- file.
use Rattle.std.proofs.Common.{◌≡◌, ◌<◌, ◌^◌, ◌-◌, ℕ}
use Rattle.real_outside.specs.declared.chain.Head.TheVariants.{Open}
use Rattle.real_outside.proofs.standing.may_go_on.Given as goal

abbrev pub invariant-loop-head : goal.invariant-loop-head
invariant-loop-head g l = (l.at < 2 ^ 62) × ((next : ℕ) → l.head ≡ Open next → (l.at < next) × (next < 2 ^ 62))

abbrev pub decreases-loop-head : goal.decreases-loop-head
decreases-loop-head g l = 2 ^ 62 - l.at
