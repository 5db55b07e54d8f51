-- The lesser and the greater edges, as they are stored in 64 bits, are those of the hull
-- (`Area::hull`, src/area.rt).
use Rattle.std.proofs.Common.{arith, sym, subst}
use Rattle.zone_area.specs.declared.area.Area.{Area}
use Rattle.zone_area.specs.Area.{hull_of}
use Rattle.zone_area.specs.Range.{IsAreaWithin}
use Rattle.zone_area.proofs.Squares.{same_area, lesser_stored, greater_stored, hull_within}
use Rattle.zone_area.proofs.area.Area.hull.Goals as goal

pub returns-clause-hull : goal.returns-clause-hull
returns-clause-hull c =
    let a = c.args.self.now in
    let b = c.args.other.now in
    let a_low_x = c.requires.me.0.0 in
    let a_low_z = c.requires.me.0.1 in
    let a_high_x = c.requires.me.1.0 in
    let a_high_z = c.requires.me.1.1 in
    let b_low_x = c.requires.other.0.0 in
    let b_low_z = c.requires.other.0.1 in
    let b_high_x = c.requires.other.1.0 in
    let b_high_z = c.requires.other.1.1 in
    let n1 = c.lesser.ensures.near in
    let n2 = c.lesser-2.ensures.near in
    let n3 = c.greater.ensures.near in
    let n4 = c.greater-2.ensures.near in
    same_area _ (hull_of a b)
    (lesser_stored c.lesser.result a.low.x b.low.x (omega arith) (omega arith) (omega arith) c.lesser.ensures.lesser)
    (lesser_stored c.lesser-2.result a.low.z b.low.z (omega arith) (omega arith) (omega arith) c.lesser-2.ensures.lesser)
    (greater_stored c.greater.result a.high.x b.high.x (omega arith) (omega arith) (omega arith) c.greater.ensures.greater)
    (greater_stored c.greater-2.result a.high.z b.high.z (omega arith) (omega arith) (omega arith) c.greater-2.ensures.greater)

pub returns-clause-near : goal.returns-clause-near
returns-clause-near c far mine theirs =
    subst (λ (area : Area). IsAreaWithin far area) (sym (returns-clause-hull c)) (hull_within far c.args.self.now c.args.other.now mine theirs)
