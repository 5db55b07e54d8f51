-- Where a line is nearest to a place (`foot`, src/rounding.rt).
use Rattle.std.proofs.Common.{◌≤◌, ◌∙◌, ap, arith, unsigned_abs}
use Rattle.plane_ways.specs.declared.place.Place.{Place}
use Rattle.plane_ways.specs.Steps.{near_place, nearest_stepped}
use Rattle.plane_ways.proofs.Stored.{stored}
use Rattle.corner_form.proofs.Halves.{foot_is}
use Rattle.corner_form.proofs.rounding.foot.Goals as goal

pub returns-clause-foot : goal.returns-clause-foot
returns-clause-foot c =
    let near : unsigned_abs c.ahead_of.result ≤ 2000000000000000000 = c.ahead_of.ensures.bound in
    let kept = stored c.ahead_of.result (omega (arith, near)) in
    let made = ap (λ (t : Place). near_place (nearest_stepped c.args.p.now t c.square-size.result)) c.multiple.ensures.multiple in
    foot_is c.args.p.now c.args.q.now c.args.at.now c.way-line.result c.square-size.result _ c.nearest_step.result
    c.way-line.ensures c.square-size.ensures.square (kept ∙ c.ahead_of.ensures.ahead) c.if-size-eq0.false (c.nearest_step.ensures.place ∙ made)
