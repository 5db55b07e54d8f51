-- A way between places that differ makes a direction (`direction`, src/steps.rt).
use Rattle.std.proofs.Common.{◌≡◌, ◌/◌, ◌∙◌, ap, max, false, subst, sym, refl, unsigned_abs, arith}
use Rattle.plane_ways.specs.Plane.{way, times, IsWithin}
use Rattle.plane_ways.specs.Steps.{IsDirection, is_same}
use Rattle.plane_ways.proofs.Stored.{way_within, stored}
use Rattle.plane_ways.proofs.Directions.{direction_is}
use Rattle.plane_ways.proofs.steps.direction.Goals as goal

pub returns-clause-is : goal.returns-clause-is
returns-clause-is c =
    let p = c.args.p.now in
    let q = c.args.q.now in
    let w = c.way-w.result in
    let differ : is_same p q ≡ false = sym c.is_same.ensures ∙ c.if-is_same.false in
    let near : IsWithin 1000000000 w = subst (IsWithin 1000000000) (sym c.way-w.ensures) (way_within p q c.requires.p c.requires.q) in
    let across : c.unsigned_abs.result ≡ unsigned_abs w.across = c.unsigned_abs.ensures.value ∙ ap unsigned_abs (stored w.across (omega (arith, near.0))) in
    let along : c.unsigned_abs-2.result ≡ unsigned_abs w.along = c.unsigned_abs-2.ensures.value ∙ ap unsigned_abs (stored w.along (omega (arith, near.1))) in
    let is : c.times.result ≡ times (1000000000000 / max (unsigned_abs (way p q).across) (unsigned_abs (way p q).along)) (way p q) =
    c.times.ensures ∙ rw (c.greater-most.ensures, across, along, c.way-w.ensures) refl in
    subst IsDirection (sym is) (direction_is p q c.requires.p c.requires.q differ)
