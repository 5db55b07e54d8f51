-- One place more is filled, from the last one back; then all are. For the contract of
-- `later_searchers` (src/searchers.rt).
use Rattle.std.proofs.Common.{◌≡◌, ◌+◌, ◌-◌, ◌<◌, length, None, subst, ◌∙◌, arith}
use Rattle.std.proofs.Math.ListN.{length-set}
use Rattle.block_order.specs.declared.control.Control.TheVariants.{Next}
use Rattle.wait_order.specs.Searchers.{AreLater}
use Rattle.block_order.specs.Heard.{is_kept_loud}
use Rattle.wait_order.proofs.Ahead.{later_filled}
use Rattle.wait_order.proofs.searchers.later_searchers.Goals as goal

pub loop-done-preserved : goal.loop-done-preserved
loop-done-preserved c =
    let bs = c.args.blocks.now in
    let done = c.loop-done.done in
    let below : done < length bs = omega arith in
    let place = length bs - 1 - done in
    record {
      count = length-set c.loop-done.later.items place c.behind_marks.result ∙ c.loop-done.invariant.count;
      filled = λ searches next. later_filled (is_kept_loud c.args.loud.now) searches bs c.args.next.now c.loop-done.later.items place (length bs - done)
          (length bs - (done + 1)) (place + 1) c.mark_count-marks.result c.index.result.now c.behind_marks.result
          (record { line = 0; sequence = None; control = Next }) next (c.loop-done.invariant.filled searches next) (omega arith) (omega arith)
          (omega arith) (omega arith) c.mark_count-marks.ensures.is c.index.ensures c.behind_marks.ensures;
    }

pub returns : goal.returns
returns c searches next =
    let none : length c.args.blocks.now - c.loop-done.done ≡ 0 = omega arith in
    subst (λ k. AreLater (is_kept_loud c.args.loud.now) searches c.args.blocks.now k c.loop-done.later.items) none
    (c.loop-done.invariant.filled searches next)
