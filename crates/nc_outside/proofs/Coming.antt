-- The count of planned faults of a shelf, sink or turret in memory as its calls go on: a call that
-- is to fail raises it, and no other call does. For the proof of `call` (src/plan.rt).
use Rattle.std.proofs.Common.{◌≡◌, ◌==◌, ◌∙◌, refl, sym, ap, ℕ, ◌+◌, ◌<◌, ◌≤◌, false, cond, List, [], ◌∷◌, get_or, remove, Contains, arith}
use Rattle.std.specs.List.{list_any, sum_by}
use Rattle.std.proofs.lemmas.Bool.Decides.{nat_tests}
use Rattle.std.proofs.lemmas.List.Sums.{sum_by-cons, sum_by-le-sum_by, sum_by-remove}
use Rattle.nc_number.proofs.Bools.{neither}
use Rattle.nc_outside.specs.Plan.{has_come, fault_count}

-- the count of one planned fault: 1 if its call has been made, else 0
abbrev come : ℕ → ℕ → ℕ
come calls number = cond (has_come calls number) 1 0

-- a fault that has come stays
come_stays : (m n x : ℕ) → m ≤ n → come m x ≤ come n x
come_stays m n x h = grind (arith, nat_tests)

-- the count of planned faults never falls
pub fault_count-≤ : (m n : ℕ) (failing : List ℕ) → m ≤ n
    → fault_count (record { failing = failing; calls = m }) ≤ fault_count (record { failing = failing; calls = n })
fault_count-≤ m n failing h = sum_by-le-sum_by (come m) (come n) failing (λ x. come_stays m n x h)

-- the count of planned faults rises if the call that is made is one that was to fail
pub fault_count-< : (n : ℕ) (failing : List ℕ) → Contains failing (n + 1)
    → fault_count (record { failing = failing; calls = n }) < fault_count (record { failing = failing; calls = n + 1 })
fault_count-< n failing found =
    let at_place : get_or failing found.0 (n + 1) ≡ n + 1 = found.2 in
    let rest = sum_by-le-sum_by (come n) (come (n + 1)) (remove failing found.0) (λ x. come_stays n (n + 1) x (omega arith)) in
    let before = sum_by-remove (come n) failing found.0 (n + 1) found.1 in
    let after = sum_by-remove (come (n + 1)) failing found.0 (n + 1) found.1 in
    let not_yet : come n (get_or failing found.0 (n + 1)) ≡ 0 = rw at_place (grind (arith, nat_tests)) in
    let now : come (n + 1) (get_or failing found.0 (n + 1)) ≡ 1 = rw at_place (grind (arith, nat_tests)) in
    omega arith

-- the count of one planned fault stays at a call of another number
come_same : (n x : ℕ) → (x == n + 1) ≡ false → come (n + 1) x ≡ come n x
come_same n x other = grind (arith, nat_tests)

-- the count of planned faults stays if the call that is made is not one that was to fail
pub fault_count-kept : (n : ℕ) (failing : List ℕ) → list_any (λ planned. planned == n + 1) failing ≡ false
    → fault_count (record { failing = failing; calls = n + 1 }) ≡ fault_count (record { failing = failing; calls = n })
fault_count-kept n [] none = refl
fault_count-kept n (x ∷ failing) none =
    let here = come_same n x (neither (x == n + 1) _ none).0 in
    let rest = fault_count-kept n failing (neither (x == n + 1) _ none).1 in
    sum_by-cons (come (n + 1)) x failing ∙ (ap (λ k. k + sum_by (come (n + 1)) failing) here ∙ ap (λ k. come n x + k) rest) ∙ sym (sum_by-cons (come n) x failing)
