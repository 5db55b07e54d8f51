-- The written centre of a rounded corner (`middle_of`, src/rounding.rt).
use Rattle.std.proofs.Common.{◌≡◌, ◌≤◌, ◌∙◌, ap, ◌*ℤ◌, ℤ, pos, arith, unsigned_abs}
use Rattle.std.proofs.lemmas.Int.{ints}
use Rattle.plane_ways.specs.declared.place.Place.{Place}
use Rattle.plane_ways.specs.Points.{place_of}
use Rattle.plane_ways.proofs.Stored.{same_place}
use Rattle.corner_form.proofs.Halves.{sum_at, short_is}
use Rattle.corner_form.proofs.rounding.middle_of.Goals as goal

twice_near : (z : ℤ) → unsigned_abs z ≤ 99999999 → unsigned_abs (pos 2 *ℤ z) ≤ 400000000
twice_near z near = omega (arith, ints)

pub returns-clause-middle : goal.returns-clause-middle
returns-clause-middle c =
    let ends = c.requires.0 in
    let near = c.requires.1 in
    let at = c.place_of-start.ensures.place in
    let start = c.args.round.now.ends.start in
    same_place _ _ _ _
    (sum_at c.place_of-start.result.across c.from.result start.x c.args.round.now.i (ap (λ (p : Place). p.across) at) (c.from.ensures ∙ short_is start.x c.args.round.now.i (omega (arith, ends.0.0)) near.0) (omega (arith, ends.0.0)) near.0)
    (sum_at c.place_of-start.result.along c.from-2.result (pos 2 *ℤ start.z) c.args.round.now.k (ap (λ (p : Place). p.along) at) (c.from-2.ensures ∙ short_is (pos 2 *ℤ start.z) c.args.round.now.k (twice_near start.z ends.0.1) near.1) (twice_near start.z ends.0.1) near.1)

pub returns-clause-near : goal.returns-clause-near
returns-clause-near c =
    let ends = c.requires.0 in
    let near = c.requires.1 in
    let at = c.place_of-start.ensures.place in
    let start = c.args.round.now.ends.start in
    let across = sum_at c.place_of-start.result.across c.from.result start.x c.args.round.now.i (ap (λ (p : Place). p.across) at) (c.from.ensures ∙ short_is start.x c.args.round.now.i (omega (arith, ends.0.0)) near.0) (omega (arith, ends.0.0)) near.0 in
    let along = sum_at c.place_of-start.result.along c.from-2.result (pos 2 *ℤ start.z) c.args.round.now.k (ap (λ (p : Place). p.along) at) (c.from-2.ensures ∙ short_is (pos 2 *ℤ start.z) c.args.round.now.k (twice_near start.z ends.0.1) near.1) (twice_near start.z ends.0.1) near.1 in
    (rw across (near.0), rw along (near.1))
