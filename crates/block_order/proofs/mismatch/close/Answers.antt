-- The latest open loop of the name is taken from the stack, or none is if none has it. For the
-- contract of `close` (src/mismatch.rt).
use Rattle.std.proofs.Common.{◌≡◌, ◌≢◌, ◌+◌, ◌-◌, ◌++◌, length, take, drop, get_or, refl, sym, ap, ◌∙◌, arith}
use Rattle.block_order.specs.Loops.{open_after_end}
use Rattle.block_order.specs.Misplaced.{open_loops}
use Rattle.block_order.proofs.Seen.{close-start, close-end, down-other, down-closed}
use Rattle.block_order.proofs.mismatch.close.Goals as goal

pub loop-at-init : goal.loop-at-init
loop-at-init c =
    let at : c.len-at.result ≡ length c.args.stack.now.items =
    omega (arith, c.len-at.ensures, c.args.stack.now.ok.0) in
    record { same = refl; within = omega arith; below = close-start c.args.stack.now.items _ c.args.name at }

pub returns-then-index-name : goal.returns-then-index-name
returns-then-index-name c =
    let xs = c.loop-at.stack.items in
    let n = c.args.name in
    let at = c.loop-at.at - 1 in
    let known = c.loop-at.invariant in
    let down : c.loop-at.at ≡ at + 1 = omega (arith, c.loop-at-test.true) in
    let is : (get_or xs at c.index.result.now).name ≡ n =
    ap (λ x. x.name) (sym c.index.ensures) ∙ c.if-index-name.true in
    ap open_loops c.remove.ensures.by_index.2
    ∙ sym (down-closed xs at n c.index.result.now (omega (arith, known.within, down)) is)
    ∙ sym (ap (λ k. open_loops (drop k xs) ++ open_after_end n (open_loops (take k xs))) down)
    ∙ sym known.below
    ∙ ap (λ ls. open_after_end n (open_loops ls)) known.same

pub loop-at-preserved : goal.loop-at-preserved
loop-at-preserved c =
    let xs = c.loop-at.stack.items in
    let n = c.args.name in
    let at = c.loop-at.at - 1 in
    let known = c.loop-at.invariant in
    let down : c.loop-at.at ≡ at + 1 = omega (arith, c.loop-at-test.true) in
    let other : (get_or xs at c.index.result.now).name ≢ n =
    λ e. c.if-index-name.false (ap (λ x. x.name) c.index.ensures ∙ e) in
    record {
      same = known.same;
      within = omega (arith, known.within);
      below = known.below
          ∙ ap (λ k. open_loops (drop k xs) ++ open_after_end n (open_loops (take k xs))) down
          ∙ down-other xs at n c.index.result.now (omega (arith, known.within, down)) other;
    }

pub returns : goal.returns
returns c =
    close-end c.loop-at.stack.items c.loop-at.at c.args.name (omega (arith, c.loop-at-test.false)) c.loop-at.invariant.below
    ∙ ap (λ ls. open_after_end c.args.name (open_loops ls)) c.loop-at.invariant.same
