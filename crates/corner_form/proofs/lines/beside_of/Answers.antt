-- A height fits 128 bits (`beside_of`, src/lines.rt).
use Rattle.std.proofs.Common.{◌≡◌, ◌≤◌, arith, unsigned_abs, ◌∙◌, refl}
use Rattle.plane_ways.specs.Plane.{dot, way, turned}
use Rattle.plane_ways.proofs.Stored.{stored, dot_bound, way_within, turned_within}
use Rattle.corner_form.proofs.lines.beside_of.Goals as goal

pub returns-clause-bound : goal.returns-clause-bound
returns-clause-bound c =
    let is : c.dot.result ≡ dot (turned c.args.side (way c.args.p.now c.args.q.now)) (way c.args.p.now c.args.at.now) = c.dot.ensures ∙ rw (c.turned.ensures, c.way.ensures, c.way-2.ensures) refl in
    let near : unsigned_abs c.dot.result ≤ 2000000000000000000 = rw is (dot_bound (turned c.args.side (way c.args.p.now c.args.q.now)) (way c.args.p.now c.args.at.now) 1000000000 1000000000 (turned_within c.args.side 1000000000 (way c.args.p.now c.args.q.now) (way_within c.args.p.now c.args.q.now c.requires.p c.requires.q)) (way_within c.args.p.now c.args.at.now c.requires.p c.requires.at)) in
    rw (stored c.dot.result (omega (arith, near))) near
