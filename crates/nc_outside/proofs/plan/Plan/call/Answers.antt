-- The count of planned faults rises by a call that is to fail, and stays at any other (`call`,
-- src/plan.rt).
use Rattle.std.proofs.Common.{◌≡◌, ◌∙◌, ◌≤◌, ◌<◌, false, arith, subst, sym}
use Rattle.nc_outside.specs.Plan.{PlanView, fault_count}
use Rattle.nc_outside.proofs.Coming.{fault_count-≤, fault_count-<, fault_count-kept}
use Rattle.nc_outside.proofs.plan.Plan.call.Goals as goal

pub returns-in-Some-clause-rose : goal.returns-in-Some-clause-rose
returns-in-Some-clause-rose c =
    let P : PlanView → Type 0 = λ old. fault_count old < fault_count (record { failing = c.self.inside.failing.items; calls = c.in-Some.number }) in
    λ failed. subst P c.self.view_is (rw (c.in-Some.ensures.1, ← c.deref.ensures.value)
    (fault_count-< c.self.inside.calls c.deref.result.now (rw c.in-Some.ensures.1 at (c.is_planned.ensures.contains.0 failed))))

pub returns-in-Some-clause-later : goal.returns-in-Some-clause-later
returns-in-Some-clause-later c =
    let P : PlanView → Type 0 = λ old. fault_count old ≤ fault_count (record { failing = c.self.inside.failing.items; calls = c.in-Some.number }) in
    subst P c.self.view_is (fault_count-≤ c.self.inside.calls c.in-Some.number c.self.inside.failing.items (omega (arith, c.in-Some.ensures)))

pub returns-in-Some-clause-kept : goal.returns-in-Some-clause-kept
returns-in-Some-clause-kept c =
    let P : PlanView → Type 0 = λ old. c.is_planned.result ≡ false → fault_count (record { failing = c.self.inside.failing.items; calls = c.in-Some.number }) ≡ fault_count old in
    subst P c.self.view_is (λ passed. rw (c.in-Some.ensures.1, ← c.deref.ensures.value)
    (fault_count-kept c.self.inside.calls c.deref.result.now (rw c.in-Some.ensures.1 at (sym c.is_planned.ensures.any ∙ passed))))
