-- The root rounded down is the least root if its square is n, and else the next number is
-- (`least_root`, src/arc.rt).
use Rattle.std.proofs.Common.{arith, sym}
use Rattle.zone_area.proofs.LeastRoot.{root_after, root_exact}
use Rattle.zone_area.proofs.arc.least_root.Goals as goal

pub returns-then-root-n-clause-root : goal.returns-then-root-n-clause-root
returns-then-root-n-clause-root c =
    let less = c.if-root-n.true in
    sym (root_after c.args.n c.isqrt-root.result (grind arith) c.isqrt-root.ensures.next_square_gt)

pub returns-else-root-n-clause-root : goal.returns-else-root-n-clause-root
returns-else-root-n-clause-root c =
    let less = c.if-root-n.false in
    sym (root_exact c.args.n c.isqrt-root.result c.isqrt-root.ensures.square_le (grind arith))
