-- A rounded corner of a centre (`round_of`, src/rounding.rt).
use Rattle.std.proofs.Common.{◌≡◌, ◌≤◌, ap, ◌*ℤ◌, ◌+ℤ◌, ◌-ℤ◌, ℤ, pos, arith, unsigned_abs, refl}
use Rattle.std.specs.Prelude.{int_div}
use Rattle.std.proofs.lemmas.Int.{ints}
use Rattle.plane_ways.specs.declared.place.Place.{Place}
use Rattle.plane_ways.specs.declared.place.Side.{Side}
use Rattle.plane_ways.specs.Points.{place_of}
use Rattle.corner_form.specs.declared.corner.CornerEnds.{CornerEnds}
use Rattle.corner_form.specs.declared.corner.RoundCorner.{RoundCorner}
use Rattle.corner_form.proofs.Halves.{half_is, halves_near}
use Rattle.corner_form.proofs.rounding.round_of.Goals as goal

same_round : (e : CornerEnds) (s : Side) (a b x y : ℤ) → a ≡ x → b ≡ y → ◌≡◌ {A = RoundCorner} (record { ends = e; side = s; i = a; k = b }) (record { ends = e; side = s; i = x; k = y })
same_round e s a b x y is_a is_b = rw (is_a, is_b) refl

twice_near : (z : ℤ) → unsigned_abs z ≤ 99999999 → unsigned_abs (pos 2 *ℤ z) ≤ 400000000
twice_near z near = omega (arith, ints)

reaches : (x i j : ℤ) → i ≡ j → unsigned_abs (x +ℤ pos 2 *ℤ j) ≤ 400000000 → unsigned_abs (x +ℤ pos 2 *ℤ i) ≤ 400000000
reaches x i j is near = rw is near

pub returns-clause-round : goal.returns-clause-round
returns-clause-round c =
    let ends = c.requires.ends in
    let near = c.requires.middle in
    let at = c.place_of-start.ensures.place in
    let start = c.args.ends.now.start in
    same_round _ _ _ _ _ _
    (half_is c.args.middle.now.across c.place_of-start.result.across start.x (ap (λ (p : Place). p.across) at) near.0 (omega (arith, ends.0.0)))
    (half_is c.args.middle.now.along c.place_of-start.result.along (pos 2 *ℤ start.z) (ap (λ (p : Place). p.along) at) near.1 (twice_near start.z ends.0.1))

pub returns-clause-near : goal.returns-clause-near
returns-clause-near c =
    let ends = c.requires.ends in
    let near = c.requires.middle in
    let at = c.place_of-start.ensures.place in
    let start = c.args.ends.now.start in
    let across = half_is c.args.middle.now.across c.place_of-start.result.across start.x (ap (λ (p : Place). p.across) at) near.0 (omega (arith, ends.0.0)) in
    let along = half_is c.args.middle.now.along c.place_of-start.result.along (pos 2 *ℤ start.z) (ap (λ (p : Place). p.along) at) near.1 (twice_near start.z ends.0.1) in (
      ends,
      (
        reaches start.x _ _ across (halves_near c.args.middle.now.across start.x near.0 (omega (arith, ends.0.0))),
        reaches (pos 2 *ℤ start.z) _ _ along (halves_near c.args.middle.now.along (pos 2 *ℤ start.z) near.1 (twice_near start.z ends.0.1)),
      ),
    )
