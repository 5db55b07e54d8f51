-- A pair of the front half is the first; else it is that of the back half (`first_pair`,
-- src/pairs.rt).
use Rattle.std.proofs.Common.{◌≡◌, ◌++◌, false, sym, subst, ap, ◌∙◌, IfOk}
use Rattle.std.proofs.lemmas.List.{take-append-drop}
use Rattle.zone_moves.specs.Pairs.{any_met, first_pair}
use Rattle.zone_moves.proofs.Pruned.{none_met, front_pair, back_pair}
use Rattle.zone_moves.proofs.pairs.+first_pair.Goals as goal

pub returns-then-not-branch : goal.returns-then-not-branch
returns-then-not-branch t c =
    let none : any_met c.args.gap.now c.args.left.now c.in_ok-near.near.items ≡ false
    = ap (any_met c.args.gap.now c.args.left.now) (sym c.as_slice.ensures.value)
    ∙ (sym c.in_ok-is_any_met.ensures ∙ c.if-not-branch.true) in
    sym (none_met c.args.gap.now c.args.left.now c.in_ok-near.near.items none) ∙ c.in_ok-near.ensures.same

pub returns-in-Some : goal.returns-in-Some
returns-in-Some t c =
    let whole : c.split_at.result.0.now ++ c.split_at.result.1.now ≡ c.args.left.now
    = rw (c.split_at.ensures.front, c.split_at.ensures.back) (take-append-drop _ c.args.left.now) in
    front_pair c.args.gap.now c.args.left.now c.split_at.result.0.now c.split_at.result.1.now c.in_ok-near.near.items c.args.right.now c.in-Some.pair
    whole c.in_ok-near.ensures.same (ap (first_pair c.args.gap.now c.split_at.result.0.now) (sym c.as_slice-2.ensures.value) ∙ sym c.in_ok-pair.ensures ∙ c.in-Some.is)

pub returns : goal.returns
returns t c =
    let whole : c.split_at.result.0.now ++ c.split_at.result.1.now ≡ c.args.left.now
    = rw (c.split_at.ensures.front, c.split_at.ensures.back) (take-append-drop _ c.args.left.now) in
    let back = back_pair c.args.gap.now c.args.left.now c.split_at.result.0.now c.split_at.result.1.now c.in_ok-near.near.items c.args.right.now
    whole c.in_ok-near.ensures.same (ap (first_pair c.args.gap.now c.split_at.result.0.now) (sym c.as_slice-2.ensures.value) ∙ sym c.in_ok-pair.ensures ∙ c.in-None.is) in
    subst (λ found. IfOk c.first_pair-in-None.result (λ pair. pair ≡ found))
    (ap (first_pair c.args.gap.now c.split_at.result.1.now) c.as_slice-in-None.ensures.value ∙ back) c.first_pair-in-None.ensures
