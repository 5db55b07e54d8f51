-- One block more is noted with its innermost loop and its END, and the whole table is right. For
-- the contract of `of` (src/loops.rt).
use Rattle.std.proofs.Common.{◌≡◌, ℕ, suc, ◌+◌, ◌++◌, ◌∷◌, [], None, Some, get_or, drop, length, refl, sym, ap, ◌∙◌, arith, subst}
use Rattle.std.proofs.lemmas.List.{length_push, take_at}
use Rattle.block_order.specs.Order.{control_at}
use Rattle.block_order.specs.Fitting.{innermost, IsInside, IsEnds}
use Rattle.block_order.proofs.NotedEnds.{ends-pushed, inside-pushed, none-noted, control-get}
use Rattle.block_order.proofs.loops.LoopTable.of.Goals as goal

pub loop-block-init : goal.loop-block-init
loop-block-init c = record {
  counted = refl;
  long_inside = ap length c.new-inside.ensures.items;
  long_ends = ap length c.new-ends.ensures.items;
  inside = λ k l. absurd (omega arith);
  ends = subst (IsEnds c.args.blocks.now 0) (sym c.new-ends.ensures.items) (none-noted c.args.blocks.now);
  open_is = refl;
}

pub loop-block-preserved : goal.loop-block-preserved
loop-block-preserved c =
    let bs = c.args.blocks.now in
    let i = c.loop-block.block-index in
    let known = c.loop-block.invariant in
    let held : length c.open_behind-open.new.ends ≡ c.push-in-loop-block.new.self.len =
    omega (arith, c.open_behind-open.auto.ends, ap length c.as_mut_slice.ensures.value, c.push-in-loop-block.new.self.ok.0) in
    let next : suc i ≡ i + 1 = omega arith in
    let at : control_at bs c.loop-block.place ≡ Some (get_or bs i _).control =
    ap (control_at bs) known.counted ∙ control-get bs i _ c.loop-block-test.true in
    let pushed : c.push.new.self.items ≡ c.loop-block.inside.items ++ innermost bs i ∷ [] =
    c.in_ok-push.ensures.items ∙ ap (λ o. c.loop-block.inside.items ++ o ∷ []) known.open_is in
    let inside : IsInside bs (suc i) c.push.new.self.items =
    subst (IsInside bs (suc i)) (sym pushed) (inside-pushed bs i c.loop-block.inside.items known.long_inside known.inside) in
    let ends : IsEnds bs i c.push-in-loop-block.new.self.items =
    subst (IsEnds bs i) (sym c.in_ok-push-2.ensures.items)
    (ends-pushed bs i c.loop-block.ends.items known.long_ends known.ends) in
    let long_ends : length c.push-in-loop-block.new.self.items ≡ i + 1 =
    ap length c.in_ok-push-2.ensures.items ∙ length_push c.loop-block.ends.items None ∙ ap (λ n. n + 1) known.long_ends in
    let kept = take_at c.open_behind-open.new.ends
    (drop (length c.open_behind-open.new.ends) c.push-in-loop-block.new.self.items) _ held in
    let told = c.open_behind-open.ensures bs c.requires.fit at
    (subst (λ (p : ℕ). IsInside bs (suc p) c.as_slice.result.now) (sym known.counted) (rw c.as_slice.ensures.value inside))
    (subst (λ (p : ℕ). IsEnds bs p c.as_mut_slice.result.now) (sym known.counted) (rw c.as_mut_slice.ensures.value ends))
    (omega (arith, known.counted, long_ends, ap length c.as_mut_slice.ensures.value)) in
    let further : suc c.loop-block.place ≡ i + 1 = omega (arith, known.counted) in
    record {
      counted = omega (arith, known.counted);
      long_inside = ap length pushed ∙ length_push c.loop-block.inside.items (innermost bs i)
          ∙ ap (λ n. n + 1) known.long_inside;
      long_ends = ap length kept ∙ omega (arith, held, c.push-in-loop-block.new.self.ok.0, long_ends);
      inside = subst (λ (n : ℕ). IsInside bs n c.push.new.self.items) next inside;
      ends = subst (IsEnds bs (i + 1)) (sym kept)
          (subst (λ (n : ℕ). IsEnds bs n c.open_behind-open.new.ends) further told.1);
      open_is = told.0 ∙ ap (innermost bs) further;
    }

pub returns : goal.returns
returns c =
    let long : c.loop-block.block-index ≡ length c.args.blocks.now = omega arith in
    record {
      few = c.requires.few;
      fits = c.requires.fit;
      ends = subst (λ (n : ℕ). IsEnds c.args.blocks.now n c.loop-block.ends.items) long c.loop-block.invariant.ends;
      inside = subst (λ (n : ℕ). IsInside c.args.blocks.now n c.loop-block.inside.items) long c.loop-block.invariant.inside;
    }
