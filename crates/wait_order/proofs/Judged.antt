-- The faults of waits are the lines of blocks that may pass a wait, 65, and those of ninth calls
-- that lead to a wait or an end, 66; the first fault is that of the least line, and on one line the
-- 65. For the proof of `first_fault` (src/waiting.rt).
use Rattle.std.proofs.Common.{◌≡◌, ℕ, suc, ◌<◌, ◌≤◌, ◌⊎◌, inl, inr, List, Option, Some, None, refl, subst, arith}
use Rattle.nc_number.specs.declared.cause.Cause.{Cause}
use Rattle.nc_number.specs.declared.cause.Cause.TheVariants.{BranchAtWait, WaitTooDeep}
use Rattle.nc_number.specs.Causes.{cause_number}
use Rattle.block_order.specs.declared.program.ControlProgram.{ControlProgram}
use Rattle.block_order.specs.Faults.{Stage, Waiting, HasFault, twice, mismatch, lost, unknown, strays, deep, IsClear, IsNoLater}
use Rattle.wait_order.specs.Deep.{IsDeepLine}
use Rattle.wait_order.specs.TapeFaults.{IsTapeStrayLine}
use Rattle.wait_order.specs.Waiting.{IsLeast, IsAtMost}

-- A fault of waits is a line that may pass a wait, with 65, or the line of a ninth call, with 66.
abbrev pub Judged : List ControlProgram → ℕ → Cause → Type 0
Judged tape line cause =
    (IsTapeStrayLine tape line × (cause ≡ BranchAtWait)) ⊎ (IsDeepLine tape line × (cause ≡ WaitTooDeep))

-- Each fault of the stage of waits is a line that may pass a wait or that of a ninth call.
judged : (tape : List ControlProgram) (stage : Stage) (line : ℕ) (cause : Cause) → HasFault tape stage line cause → stage ≡ Waiting
    → Judged tape line cause
judged tape _ _ _ (twice before after program is again) e = absurd cc
judged tape _ _ _ (mismatch program place block on at is) e = absurd cc
judged tape _ _ _ (lost program place n block cause stands jumps none) e = absurd cc
judged tape _ _ _ (unknown program place called repeats block stands calls none) e = absurd cc
judged tape _ _ _ (strays program place block stands is) e = inl ((program, (place, block, stands, is, refl)), refl)
judged tape _ _ _ (deep program place called repeats block by stands calls is_loud) e =
    inr ((program, by, (place, block, called, stands, (repeats, calls, is_loud), refl)), refl)

-- A line that may pass a wait is a fault 65.
stray_fault : (tape : List ControlProgram) (line : ℕ) → IsTapeStrayLine tape line → HasFault tape Waiting line BranchAtWait
stray_fault tape line (program, (place, block, stands, is, e)) =
    subst (λ l. HasFault tape Waiting l BranchAtWait) e (strays program place block stands is)

-- The line of a ninth call is a fault 66.
deep_fault : (tape : List ControlProgram) (line : ℕ) → IsDeepLine tape line → HasFault tape Waiting line WaitTooDeep
deep_fault tape line (program, by, (place, block, called, stands, (repeats, calls, is_loud), e)) =
    subst (λ l. HasFault tape Waiting l WaitTooDeep) e (deep program place called repeats block by stands calls is_loud)

-- If neither line is found, the tape has no fault of waits.
pub none_waiting : (tape : List ControlProgram) (a b : Option ℕ) → a ≡ None → b ≡ None → IsLeast (IsTapeStrayLine tape) a
    → IsLeast (IsDeepLine tape) b → IsClear tape Waiting
none_waiting tape a b ea eb p q line cause h = elim (judged tape Waiting line cause h refl) [
  | inl s ↦ subst (λ o. IsAtMost o line) ea (p.least line s.0)
  | inr d ↦ subst (λ o. IsAtMost o line) eb (q.least line d.0)
]

-- A number that is not above another is below it or the same.
at_or_before : (m n : ℕ) → m ≤ n → (m < n) ⊎ (m ≡ n)
at_or_before m n h = grind arith

-- A fault of a line that is no lower, with a number that is no lesser, comes no earlier.
no_later : (line l : ℕ) (cause c : Cause) → line ≤ l → cause_number cause ≤ cause_number c → IsNoLater line cause l c
no_later line l cause c le least = elim (at_or_before line l le) [ inl lt ↦ inl lt | inr e ↦ inr (e, least) ]

-- If m is found as the least number, each number of the kind is at least m.
at_most : (o : Option ℕ) (m n : ℕ) → o ≡ Some m → IsAtMost o n → m ≤ n
at_most o m n e h = subst (λ x. IsAtMost x n) e h

-- What is no higher than the found number is no higher than each other one.
below_all : (o : Option ℕ) (line n : ℕ) → ((m : ℕ) → o ≡ Some m → line ≤ m) → IsAtMost o n → line ≤ n
below_all None line n before h = absurd h
below_all (Some m) line n before h = let le = before m refl in omega arith

-- If no ninth call has a lower line, the jump's is the first fault.
pub stray_first : (tape : List ControlProgram) (line : ℕ) (a b : Option ℕ) → a ≡ Some line → IsLeast (IsTapeStrayLine tape) a
    → IsLeast (IsDeepLine tape) b → ((m : ℕ) → b ≡ Some m → line ≤ m)
    → HasFault tape Waiting line BranchAtWait
    × ((l : ℕ) (c : Cause) → HasFault tape Waiting l c → IsNoLater line BranchAtWait l c)
stray_first tape line a b e p q before = (stray_fault tape line (p.holds line e), λ l c h. least l c (judged tape Waiting l c h refl))
  where
    least : (l : ℕ) (c : Cause) → Judged tape l c → IsNoLater line BranchAtWait l c
    least l c (inl (s, is)) = rw is (no_later line l BranchAtWait BranchAtWait (at_most a line l e (p.least l s)) (omega arith))
    least l c (inr (d, is)) = rw is (no_later line l BranchAtWait WaitTooDeep (below_all b line l before (q.least l d)) (omega arith))

-- If each jump's line is higher, the ninth call's is the first fault.
pub deep_first : (tape : List ControlProgram) (line : ℕ) (a b : Option ℕ) → b ≡ Some line → IsLeast (IsTapeStrayLine tape) a
    → IsLeast (IsDeepLine tape) b → ((m : ℕ) → a ≡ Some m → line < m)
    → HasFault tape Waiting line WaitTooDeep
    × ((l : ℕ) (c : Cause) → HasFault tape Waiting l c → IsNoLater line WaitTooDeep l c)
deep_first tape line a b e p q before = (deep_fault tape line (q.holds line e), λ l c h. least l c (judged tape Waiting l c h refl))
  where
    least : (l : ℕ) (c : Cause) → Judged tape l c → IsNoLater line WaitTooDeep l c
    least l c (inl (s, is)) = inl (below_all a (suc line) l before (p.least l s))
    least l c (inr (d, is)) = rw is (no_later line l WaitTooDeep WaitTooDeep (at_most b line l e (q.least l d)) (omega arith))
