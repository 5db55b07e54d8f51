-- How far a place lies along a way (`reach`, src/strip.rt).
use Rattle.std.proofs.Common.{◌≤◌, arith, unsigned_abs}
use Rattle.plane_ways.proofs.Stored.{dot_bound, stored}
use Rattle.plane_ways.proofs.strip.reach.Goals as goal

pub returns-clause-bound : goal.returns-clause-bound
returns-clause-bound c =
    let b = dot_bound c.args.w.now c.args.at.now 1000000000 400000000 c.requires.w c.requires.at in
    let near : unsigned_abs c.dot.result ≤ 800000000000000000 = rw c.dot.ensures b in
    rw (stored c.dot.result (omega (arith, near))) near
