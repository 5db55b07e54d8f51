-- I, J and K so far rise, and one that doesn't ends the search. For the contract of `are_in_order`
-- (src/refusals.rt).
use Rattle.std.proofs.Common.{◌≡◌, ◌∙◌, ◌+◌, true, false, codes, sym, ap, drop, rules}
use Rattle.std.proofs.Math.ListN.{drop_of_length-le}
use Rattle.block_words.specs.Words.{is_one_of}
use Rattle.block_forms.specs.Refusals.{is_above}
use Rattle.block_forms.proofs.InOrder.{in_order_behind, in_order_end, in_order_ends, in_order_goes, in_order_skips}
use Rattle.block_forms.proofs.refusals.are_in_order.Goals as goal
use Rattle.block_forms.proofs.refusals.are_in_order.Goals.{then-is_one_of+else-not-is_above, else-is_one_of}

pub returns-then-not-is_above : goal.returns-then-not-is_above
returns-then-not-is_above c =
    let one : is_one_of (codes "IJK") c.word-item.result.letter ≡ true = sym c.is_one_of.ensures ∙ c.if-is_one_of.true in
    let low : is_above c.loop-word.before c.word-item.result.letter ≡ false = search rules in
    sym (in_order_ends c.loop-word.before c.args.words.now c.loop-word.word-index c.word-item.result c.loop-word-test.true c.word-item.is one low) ∙ c.loop-word.invariant

pub loop-word-preserved : goal.loop-word-preserved
loop-word-preserved c = elim c.if-is_one_of.branch [
  | then-is_one_of+else-not-is_above w ↦
      let one : is_one_of (codes "IJK") c.word-item.result.letter ≡ true = sym c.is_one_of.ensures ∙ w.if-is_one_of.true in
      let above : is_above c.loop-word.before c.word-item.result.letter ≡ true = search rules in
      ap (λ before. in_order_behind before (drop (c.loop-word.word-index + 1) c.args.words.now)) w.before-is
      ∙ (sym (in_order_goes c.loop-word.before c.args.words.now c.loop-word.word-index c.word-item.result c.loop-word-test.true c.word-item.is one above) ∙ c.loop-word.invariant)
  | else-is_one_of w ↦
      let one : is_one_of (codes "IJK") c.word-item.result.letter ≡ false = sym c.is_one_of.ensures ∙ w.if-is_one_of.false in
      ap (λ before. in_order_behind before (drop (c.loop-word.word-index + 1) c.args.words.now)) w.before-is
      ∙ (sym (in_order_skips c.loop-word.before c.args.words.now c.loop-word.word-index c.word-item.result c.loop-word-test.true c.word-item.is one) ∙ c.loop-word.invariant)
]

pub returns : goal.returns
returns c =
    sym (in_order_end c.loop-word.before)
    ∙ (ap (λ rest. in_order_behind c.loop-word.before rest) (sym (drop_of_length-le c.args.words.now c.loop-word-test.false)) ∙ c.loop-word.invariant)
