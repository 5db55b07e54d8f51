-- The gap of two lines along a way (`gap`, src/strip.rt).
use Rattle.std.proofs.Common.{◌≤◌, ◌-ℤ◌, arith, unsigned_abs, ◌∙◌, ℤ, refl}
use Rattle.std.proofs.lemmas.Int.{ints}
use Rattle.plane_ways.specs.Plane.{dot}
use Rattle.plane_ways.proofs.Stored.{lesser_is, greater_is, difference_is}
use Rattle.plane_ways.proofs.strip.gap.Goals as goal

pub overflow_sub-result : goal.overflow_sub-result
overflow_sub-result c =
    let low = c.least-low.ensures.bound in
    let high = c.greatest-high.ensures.bound in
    omega (arith, ints, low, high)

pub returns-clause-gap : goal.returns-clause-gap
returns-clause-gap c =
    let low = c.least-low.ensures.bound in
    let high = c.greatest-high.ensures.bound in
    let low_is = lesser_is c.reach.result c.reach-2.result (dot c.args.w.now c.args.second.now.from) (dot c.args.w.now c.args.second.now.to) c.least-low.result c.least-low.ensures.is c.reach.ensures.reach c.reach-2.ensures.reach c.reach.ensures.bound c.reach-2.ensures.bound in
    let high_is = greater_is c.reach-3.result c.reach-4.result (dot c.args.w.now c.args.first.now.from) (dot c.args.w.now c.args.first.now.to) c.greatest-high.result c.greatest-high.ensures.is c.reach-3.ensures.reach c.reach-4.ensures.reach c.reach-3.ensures.bound c.reach-4.ensures.bound in
    difference_is c.least-low.result c.greatest-high.result (omega (arith, low)) (omega (arith, high)) ∙ rw (low_is, high_is) refl

pub returns-clause-bound : goal.returns-clause-bound
returns-clause-bound c =
    let low = c.least-low.ensures.bound in
    let high = c.greatest-high.ensures.bound in
    rw (difference_is c.least-low.result c.greatest-high.result (omega (arith, low)) (omega (arith, high)))
    (far c.least-low.result c.greatest-high.result low high)
  where
    far : (x y : ℤ) → unsigned_abs x ≤ 800000000000000000 → unsigned_abs y ≤ 800000000000000000 → unsigned_abs (x -ℤ y) ≤ 1600000000000000000
    far x y near_x near_y = omega (arith, ints)
