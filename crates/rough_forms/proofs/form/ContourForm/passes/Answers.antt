-- One pass more is made, or they end: none is left, or 1,001 are made (loop of `passes`,
-- src/form.rt).
use Rattle.std.proofs.Common.{arith, rules, sym, subst, ◌∙◌, All, IfSome}
use Rattle.std.proofs.lemmas.List.Elements.{All-push}
use Rattle.rough_forms.specs.Form.{rough_of, IsNearPass}
use Rattle.rough_forms.proofs.MadePasses.{at_first, at_last, at_end, at_next}
use Rattle.rough_forms.proofs.form.ContourForm.passes.Goals as goal

pub loop-k-init : goal.loop-k-init
loop-k-init c = record { made = at_first (rough_of c.args.self.now) c.new-passes.result.items c.new-passes.ensures.items; some = omega arith; near = search rules }

pub returns-in_default-clause-passes : goal.returns-in_default-clause-passes
returns-in_default-clause-passes c = at_end (rough_of c.args.self.now) _ _ c.loop-k.k c.loop-k.invariant.made (sym c.pass_at.ensures.pass ∙ c.in_default.is)

pub loop-k-preserved : goal.loop-k-preserved
loop-k-preserved c =
    let near_pass : IsNearPass c.in-Some.pass = subst (λ found. IfSome found IsNearPass) c.in-Some.is c.pass_at.ensures.near in
    record { made = at_next (rough_of c.args.self.now) c.loop-k.passes.items _ _ c.loop-k.k c.in-Some.pass c.loop-k.invariant.made (omega (arith, c.loop-k-test.true)) (sym c.pass_at.ensures.pass ∙ c.in-Some.is) c.in_ok-push.ensures.items; some = omega arith; near = subst (λ l. All IsNearPass l) (sym c.in_ok-push.ensures.items) (All-push IsNearPass c.loop-k.passes.items c.in-Some.pass c.loop-k.invariant.near near_pass) }

pub returns-clause-passes : goal.returns-clause-passes
returns-clause-passes c = at_last (rough_of c.args.self.now) _ _ c.loop-k.k c.loop-k.invariant.made (omega (arith, c.loop-k-test.false))
