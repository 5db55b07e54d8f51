-- Of the line of a jump that may pass a wait and that of a ninth call the lesser is the first
-- fault, and on one line the jump. For the contract of `first_fault` (src/waiting.rt).
use Rattle.std.proofs.Common.{◌≡◌, ◌<◌, ◌≤◌, ℕ, Option, Some, None, sym, ◌∙◌, arith}
use Rattle.wait_order.proofs.Judged.{none_waiting, stray_first, deep_first}
use Rattle.wait_order.proofs.waiting.first_fault.Goals as goal

-- If no line is found, none is m, so there is nothing to show.
none_is : (o : Option ℕ) (m : ℕ) (P : Type 0) → o ≡ None → o ≡ Some m → P
none_is o m P e f = let clash : ◌≡◌ {A = Option ℕ} None (Some m) = sym e ∙ f in absurd cc

-- The line that is found is one only.
one_is : (o : Option ℕ) (m n : ℕ) → o ≡ Some m → o ≡ Some n → m ≡ n
one_is o m n e f = let both : Some m ≡ Some n = sym e ∙ f in cc

pub returns-in-None-None : goal.returns-in-None-None
returns-in-None-None c tape p q = none_waiting tape c.args.stray c.args.deep c.in-None-None.is-0 c.in-None-None.is-1 p q

pub returns-in-None-Some : goal.returns-in-None-Some
returns-in-None-Some c tape p q =
    let line = c.in-None-Some.line in
    rw (c.wait_too_deep.ensures.line, c.wait_too_deep.ensures.cause)
    (deep_first tape line c.args.stray c.args.deep c.in-None-Some.is-1 p q
    (λ m e. none_is c.args.stray m (line < m) c.in-None-Some.is-0 e))

pub returns-in-Some-None : goal.returns-in-Some-None
returns-in-Some-None c tape p q =
    let line = c.in-Some-None.line in
    rw (c.branch_at_wait.ensures.line, c.branch_at_wait.ensures.cause)
    (stray_first tape line c.args.stray c.args.deep c.in-Some-None.is-0 p q
    (λ m e. none_is c.args.deep m (line ≤ m) c.in-Some-None.is-1 e))

pub returns-then-line-other : goal.returns-then-line-other
returns-then-line-other c tape p q =
    let line = c.in-Some-Some.line in
    let other = c.in-Some-Some.other in
    let before : line ≤ other = c.if-line-other.true in
    rw (c.branch_at_wait-then-line-other.ensures.line, c.branch_at_wait-then-line-other.ensures.cause)
    (stray_first tape line c.args.stray c.args.deep c.in-Some-Some.is-0 p q
    (λ m e. (let same = one_is c.args.deep other m c.in-Some-Some.is-1 e in omega arith)))

pub returns-else-line-other : goal.returns-else-line-other
returns-else-line-other c tape p q =
    let line = c.in-Some-Some.line in
    let other = c.in-Some-Some.other in
    let after : other < line = c.if-line-other.false in
    rw (c.wait_too_deep-else-line-other.ensures.line, c.wait_too_deep-else-line-other.ensures.cause)
    (deep_first tape other c.args.stray c.args.deep c.in-Some-Some.is-1 p q
    (λ m e. (let same = one_is c.args.stray line m c.in-Some-Some.is-0 e in omega arith)))
