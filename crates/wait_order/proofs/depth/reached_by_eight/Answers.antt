-- One round more is one call more; after eight rounds the flags are those of eight calls. For the
-- contract of `reached_by_eight` (src/depth.rt).
use Rattle.std.proofs.Common.{◌≡◌, subst, arith}
use Rattle.wait_order.specs.Depth.{IsCalledFrom, AreReached}
use Rattle.wait_order.proofs.Called.{reached_more}
use Rattle.wait_order.proofs.depth.reached_by_eight.Goals as goal

pub loop-round-preserved : goal.loop-round-preserved
loop-round-preserved c =
    let tape = c.args.programs.now in
    let next = c.in_ok-reached-2.reached.items in
    let called : IsCalledFrom tape c.deref.result.now next = c.in_ok-reached-2.ensures in
    reached_more tape c.loop-round.reached.items next c.loop-round._round c.loop-round.invariant
    (subst (λ fs. IsCalledFrom tape fs next) c.deref.ensures.value called)

pub returns : goal.returns
returns c =
    let all : c.loop-round._round ≡ 8 = omega arith in
    subst (λ n. AreReached c.args.programs.now n c.loop-round.reached.items) all c.loop-round.invariant
