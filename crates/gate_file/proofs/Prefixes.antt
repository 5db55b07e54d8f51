-- Many appends to a file of gates, one after another: a crash leaves the bodies of the first of
-- them, all acknowledged ones among these. `appends_leave_prefixes` (src/laws.rt) rests on it.
use Rattle.std.proofs.Common.{◌≡◌, inl, inr, ⊎_elim, ℕ, zero, suc, ◌+◌, ◌≤◌, ◌<◌, List, [], ◌∷◌, ◌++◌, sym, subst, arith}
use Rattle.std.proofs.lemmas.Bool.{cases_eq}
use Rattle.disk_model.specs.Device.{DiskState}
use Rattle.disk_model.specs.Moments.{LeavesOnly}
use Rattle.gate_file.specs.Chain.{Spells, IsBeforeOrAfter}
use Rattle.gate_file.specs.Gate.{Keeps}
use Rattle.gate_file.specs.Run.{bodies_after}

-- So many appends, each acknowledged, and one more under way; the k-th of them finds the disk k.
module _ {D : Type 0} (state : D → DiskState) (disk : ℕ → D) (end : ℕ → ℕ) (body : ℕ → List ℕ) (first : List (List ℕ)) (count : ℕ)
    (start : Keeps first (state (disk 0)) (end 0))
    (acknowledged : (k : ℕ) → k < count → (bodies : List (List ℕ)) → Keeps bodies (state (disk k)) (end k) → Keeps (bodies ++ body k ∷ []) (state (disk (k + 1))) (end (k + 1)))
    (moments : (k : ℕ) → k ≤ count → (bodies : List (List ℕ)) → Keeps bodies (state (disk k)) (end k) → LeavesOnly (IsBeforeOrAfter bodies (body k ∷ [])) (state (disk k)) (state (disk (k + 1)))) where
  -- after k appends the disk keeps the first bodies and those of the appends
  keeps_at : (k : ℕ) → k ≤ count → Keeps (bodies_after first body k) (state (disk k)) (end k)
  keeps_at zero le = start
  keeps_at (suc k) le =
      let e : k + 1 ≡ suc k = omega arith in
      subst (λ (i : ℕ). Keeps (bodies_after first body k ++ body k ∷ []) (state (disk i)) (end i)) e (acknowledged k (omega arith) (bodies_after first body k) (keeps_at k (omega arith)))

  -- a crash in the k-th append leaves the bodies before it, or those with its own
  step : (k : ℕ) → k ≤ count → LeavesOnly (IsBeforeOrAfter (bodies_after first body k) (body k ∷ [])) (state (disk k)) (state (disk (suc k)))
  step k le =
      let e : k + 1 ≡ suc k = omega arith in
      subst (λ (i : ℕ). LeavesOnly (IsBeforeOrAfter (bodies_after first body k) (body k ∷ [])) (state (disk k)) (state (disk i))) e (moments k le (bodies_after first body k) (keeps_at k le))

  -- the time at which the k-th append begins
  clock_at : ℕ → ℕ
  clock_at k = (state (disk k)).clock

  -- an append does not begin before the one before it
  later : (k : ℕ) → k ≤ count → clock_at k ≤ clock_at (suc k)
  unfolding clock_at
  later k le = (step k le).later

  -- an append does not begin before any earlier one
  clock_le : (j n : ℕ) → j ≤ n → n ≤ count → clock_at j ≤ clock_at n
  clock_le j zero jn le = let e : j ≡ 0 = omega arith in subst (λ (i : ℕ). clock_at i ≤ clock_at 0) (sym e) (omega arith)
  clock_le j (suc n) jn le = elim (cases_eq j (suc n)) [
    | inl same ↦ subst (λ (i : ℕ). clock_at i ≤ clock_at (suc n)) (sym same) (omega arith)
    | inr less ↦ let before = clock_le j n (omega arith) (omega arith) in omega (arith, before, later n (omega arith))
  ]

  -- the file spells the first bodies and those of m appends, with m at least j and at most n + 1
  Prefix : ℕ → ℕ → List ℕ → Type 0
  Prefix j n c = (m : ℕ) × (j ≤ m) × (m ≤ suc n) × Spells (bodies_after first body m) c

  -- what a crash in one append leaves is such a prefix
  spelled : (j n : ℕ) (c : List ℕ) → j ≤ n → IsBeforeOrAfter (bodies_after first body n) (body n ∷ []) c → Prefix j n c
  unfolding Prefix
  spelled j n c jn (inl same) = (n, jn, omega arith, same)
  spelled j n c jn (inr more) = (suc n, omega arith, omega arith, more)

  -- what spells the bodies of at most n + 1 appends spells those of at most n + 2
  longer : (j n : ℕ) (c : List ℕ) → Prefix j n c → Prefix j (suc n) c
  unfolding Prefix
  longer j n c (m, least, most, spells) = (m, least, omega (arith, most), spells)

  -- what a crash leaves since the j-th append began is such a prefix
  since_then : (n : ℕ) → n ≤ count → (j : ℕ) → j ≤ n → (c : List ℕ) → (state (disk (suc n))).image_since (clock_at j) c → Prefix j n c
  unfolding clock_at
  since_then zero le j jn c since =
      let e : j ≡ 0 = omega arith in
      spelled j 0 c jn ((step 0 le).each c (subst (λ (i : ℕ). (state (disk (suc 0))).image_since (clock_at i) c) e since))
  since_then (suc n) le j jn c since = elim (cases_eq j (suc n)) [
    | inl same ↦ spelled j (suc n) c jn ((step (suc n) le).each c (subst (λ (i : ℕ). (state (disk (suc (suc n)))).image_since (clock_at i) c) same since))
    | inr less ↦ ⊎_elim (λ earlier. longer j n c (since_then n (omega arith) j (omega arith) c earlier)) (λ now. spelled j (suc n) c jn now)
        ((step (suc n) le).before (clock_at j) c (clock_le j (suc n) jn le) since)
  ]

  -- a crash at any moment since the j-th append began leaves the bodies of the first m appends
  pub prefixes : (j : ℕ) → j ≤ count → (c : List ℕ) → (state (disk (count + 1))).image_since (state (disk j)).clock c → (m : ℕ) × (j ≤ m) × (m ≤ count + 1) × Spells (bodies_after first body m) c
  unfolding Prefix clock_at
  prefixes j jn c since =
      let e : count + 1 ≡ suc count = omega arith in
      let found = since_then count (omega arith) j jn c (subst (λ (i : ℕ). (state (disk i)).image_since (state (disk j)).clock c) e since) in
      (found.0, found.1, omega (arith, found.2), found.3)
