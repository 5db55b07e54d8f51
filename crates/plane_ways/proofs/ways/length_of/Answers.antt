-- The length of a way, rounded down (`length_of`, src/ways.rt).
use Rattle.std.proofs.Common.{sym, subst, ◌*◌, ◌+◌, ◌<◌, ◌≤◌}
use Rattle.nc_number.proofs.Roots.{square_root_is}
use Rattle.plane_ways.specs.Plane.{square}
use Rattle.plane_ways.proofs.Stored.{root_bound}
use Rattle.plane_ways.proofs.ways.length_of.Goals as goal

pub returns-clause-length : goal.returns-clause-length
returns-clause-length c =
    let low = subst (λ n. c.isqrt.result * c.isqrt.result ≤ n) c.square.ensures.square c.isqrt.ensures.square_le in
    let high = subst (λ n. n < (c.isqrt.result + 1) * (c.isqrt.result + 1)) c.square.ensures.square c.isqrt.ensures.next_square_gt in
    sym (square_root_is (square c.args.d.now) c.isqrt.result low high)

pub returns-clause-bound : goal.returns-clause-bound
returns-clause-bound c = root_bound c.isqrt.result c.square.result c.isqrt.ensures.square_le c.square.ensures.bound
