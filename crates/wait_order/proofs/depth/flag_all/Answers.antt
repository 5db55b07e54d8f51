-- One program more is gone through, and the flags are those from before and those of what the
-- reached programs so far call. For the contract of `flag_all` (src/depth.rt).
use Rattle.std.proofs.Common.{◌≡◌, Some, length, sym, ap, ◌∙◌, arith}
use Rattle.block_order.specs.ProgramPlaces.{is_flagged}
use Rattle.wait_order.proofs.Called.{called_more}
use Rattle.block_order.proofs.Programs.{stands}
use Rattle.wait_order.proofs.depth.flag_all.Goals as goal

pub loop-program-preserved : goal.loop-program-preserved
loop-program-preserved c q =
    let tape = c.args.programs.now in
    let i = c.loop-program.program-index in
    let p = c.program-item.result in
    let same : length c.loop-program.next ≡ length c.args.next.now = omega arith in
    called_more tape c.args.reached.now i q p (is_flagged tape c.args.next.now q) (is_flagged tape c.loop-program.next q)
    (is_flagged tape c.flag_from.new.next q) (stands tape i p (omega arith) ∙ ap (λ x. Some x) (sym c.program-item.is))
    (c.loop-program.invariant q) (c.flag_from.ensures tape c.requires.known (same ∙ c.requires.count) q)
