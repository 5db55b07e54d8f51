-- No number's place changes while room is made, and less room is lacking each time. What the loop
-- of `make_room` keeps (src/numbers.rt).
use Rattle.std.proofs.Common.{◌≡◌, ℕ, suc, ◌-◌, length}
use Rattle.block_order.specs.Numbers.{place_kept}
use Rattle.block_order.proofs.numbers.make_room.Given as goal

abbrev pub invariant-loop-places : goal.invariant-loop-places
invariant-loop-places l = (q : ℕ) → place_kept l.places.items q ≡ place_kept l.initial.places.items q

abbrev pub decreases-loop-places : goal.decreases-loop-places
decreases-loop-places l = suc l.number - length l.places.items
