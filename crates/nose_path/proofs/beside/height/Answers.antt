-- How far a place lies beside a line (`height`, src/beside.rt).
use Rattle.std.proofs.Common.{◌≡◌, ◌≤◌, arith, unsigned_abs, ◌∙◌, refl}
use Rattle.nose_path.specs.Beside.{height}
use Rattle.plane_ways.proofs.Stored.{stored}
use Rattle.nose_path.proofs.Heights.{height_bound}
use Rattle.nose_path.proofs.beside.height.Goals as goal

pub returns-clause-bound : goal.returns-clause-bound
returns-clause-bound c =
    let is : c.dot.result ≡ height c.args.nose.now.side c.args.p.now c.args.q.now c.args.at.now = c.dot.ensures ∙ rw (c.turned.ensures, c.way.ensures, c.way-2.ensures) refl in
    let near : unsigned_abs c.dot.result ≤ 2000000000000000000 = rw is (height_bound c.args.nose.now.side c.args.p.now c.args.q.now c.args.at.now c.requires.p c.requires.q c.requires.at) in
    rw (stored c.dot.result (omega (arith, near))) near
