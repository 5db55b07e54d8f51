-- What is left out meets none, and what is met in one of the parts, or in none of them, is met so in
-- the whole list (`is_any_met`, src/contact.rt).
use Rattle.std.proofs.Common.{◌≡◌, true, false, ap, sym, subst, ◌∙◌, IfOk}
use Rattle.zone_moves.specs.Pairs.{any_met}
use Rattle.zone_moves.proofs.Pruned.{met_alike}
use Rattle.zone_moves.proofs.Parted.{part_met, other_met}
use Rattle.zone_moves.proofs.contact.+is_any_met.Goals as goal

pub returns-then-are_few : goal.returns-then-are_few
returns-then-are_few t c =
    c.is_one_met.ensures ∙ ap (any_met c.args.gap.now c.args.left.now) c.as_slice-then-are_few.ensures.value
    ∙ met_alike c.args.gap.now c.args.left.now c.in_ok-near.near.items c.args.right.now c.in_ok-near.ensures.same

pub returns-then-not-are_both : goal.returns-then-not-are_both
returns-then-not-are_both t c =
    c.is_one_met-then-not-are_both.ensures ∙ ap (any_met c.args.gap.now c.args.left.now) c.as_slice-then-not-are_both.ensures.value
    ∙ met_alike c.args.gap.now c.args.left.now c.in_ok-near.near.items c.args.right.now c.in_ok-near.ensures.same

pub returns-then-branch : goal.returns-then-branch
returns-then-branch t c =
    let near = c.in_ok-near.near.items in
    let met : any_met c.args.gap.now c.in_ok-parts.parts.before near ≡ true
    = ap (λ ls. any_met c.args.gap.now ls near) (sym c.before-2.ensures.before)
    ∙ (ap (any_met c.args.gap.now c.before-2.result.now) (sym c.as_slice-2.ensures.value)
    ∙ (sym c.in_ok-is_any_met.ensures ∙ c.if-branch.true)) in
    sym (part_met c.args.gap.now c.in_ok-parts.parts c.args.left.now near c.in_ok-parts.ensures met)
    ∙ met_alike c.args.gap.now c.args.left.now near c.args.right.now c.in_ok-near.ensures.same

pub returns : goal.returns
returns t c =
    let near = c.in_ok-near.near.items in
    let none : any_met c.args.gap.now c.in_ok-parts.parts.before near ≡ false
    = ap (λ ls. any_met c.args.gap.now ls near) (sym c.before-2.ensures.before)
    ∙ (ap (any_met c.args.gap.now c.before-2.result.now) (sym c.as_slice-2.ensures.value)
    ∙ (sym c.in_ok-is_any_met.ensures ∙ c.if-branch.false)) in
    subst (λ all. IfOk c.is_any_met-2.result (λ met. met ≡ all))
    (ap (any_met c.args.gap.now c.behind.result.now) c.as_slice-3.ensures.value
    ∙ (ap (λ ls. any_met c.args.gap.now ls near) c.behind.ensures.behind
    ∙ (other_met c.args.gap.now c.in_ok-parts.parts c.args.left.now near c.in_ok-parts.ensures none
    ∙ met_alike c.args.gap.now c.args.left.now near c.args.right.now c.in_ok-near.ensures.same)))
    c.is_any_met-2.ensures
