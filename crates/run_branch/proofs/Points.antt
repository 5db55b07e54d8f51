-- The shortest prefix with so many meetings: where a branch ends. First that it is the least, for
-- the law `a_branch_point_is_the_least` (src/laws.rt) and for Made.antt; then the loop that looks
-- for it, for `branch_point` (src/branching.rt).
use Rattle.std.proofs.Common.{◌≡◌, inl, inr, ℕ, zero, suc, ◌+◌, ◌-◌, ◌≤◌, ◌<◌, Bool, true, false, List, [], ◌∷◌, length, take, drop, get_or, Option, Some, None, refl, sym, ap, subst, arith, ◌∙◌, if◌then◌else◌}
use Rattle.std.proofs.lemmas.Bool.{cases_lt}
use Rattle.std.proofs.lemmas.List.{drop_more}
use Rattle.std.specs.Option.{option_map}
use Rattle.run_records.specs.Entries.{Entry, is_meeting}
use Rattle.run_branch.specs.Meetings.{meetings, branch_point, IsBranchPoint}

-- a number that is one more comes of a number
mapped : (r : Option ℕ) (k : ℕ) → option_map suc r ≡ Some k → (j : ℕ) × (r ≡ Some j) × (suc j ≡ k)
mapped None k is = absurd cc
mapped (Some j) k is = let same : suc j ≡ k = cc in (j, refl, same)

-- if there is no number that is one more than a given one, none is given
unmapped : (r : Option ℕ) → option_map suc r ≡ None → r ≡ None
unmapped None is = refl
unmapped (Some j) is = absurd cc

-- one record more brings the meetings up to the number, whether or not that record is a meeting
reached : (b : Bool) (n rest : ℕ) → rest ≡ (if b then n else suc n) → (if b then 1 else 0) + rest ≡ suc n
reached true n rest is = omega (arith, is)
reached false n rest is = omega (arith, is)

-- one record more leaves the meetings below the number, if those of the others were below it
fewer : (b : Bool) (n rest : ℕ) → rest < (if b then n else suc n) → (if b then 1 else 0) + rest < suc n
fewer true n rest less = omega (arith, less)
fewer false n rest less = omega (arith, less)

-- a prefix has at most the meetings of all records
take_fewer : (entries : List Entry) (k : ℕ) → meetings (take k entries) ≤ meetings entries
take_fewer entries zero = omega arith
take_fewer [] (suc k) = omega arith
take_fewer (entry ∷ entries) (suc k) = omega (arith, take_fewer entries k)

-- the prefix with no meeting is empty
at_start : (entries : List Entry) → IsBranchPoint 0 entries 0
at_start entries = record { within = omega arith; has = refl; least = λ j less. absurd (omega (arith, less)) }

-- a prefix of the records after the first is one of all, with the first before it
one_on : (entry : Entry) (entries : List Entry) (n k : ℕ) → IsBranchPoint (if is_meeting entry.kind then n else suc n) entries k
    → IsBranchPoint (suc n) (entry ∷ entries) (suc k)
one_on entry entries n k is = record {
  within = omega (arith, is.within);
  has = reached (is_meeting entry.kind) n (meetings (take k entries)) is.has;
  least = least;
} where
  least : (j : ℕ) → j < suc k → meetings (take j (entry ∷ entries)) < suc n
  least zero less = omega arith
  least (suc j) less = fewer (is_meeting entry.kind) n (meetings (take j entries)) (is.least j (omega (arith, less)))

-- what `branch_point` finds is the length of the shortest prefix with so many meetings
pub point_is : (entries : List Entry) (n k : ℕ) → branch_point n entries ≡ Some k → IsBranchPoint n entries k
point_is entries zero k is = let same : 0 ≡ k = cc in subst (λ (j : ℕ). IsBranchPoint 0 entries j) same (at_start entries)
point_is [] (suc n) k is = absurd cc
point_is (entry ∷ entries) (suc n) k is =
    let m = (if is_meeting entry.kind then n else suc n) in
    let found = mapped (branch_point m entries) k is in
    subst (λ (j : ℕ). IsBranchPoint (suc n) (entry ∷ entries) j) found.2
    (one_on entry entries n found.0 (point_is entries m found.0 found.1))

-- if none is found, there are fewer meetings
pub none_left : (entries : List Entry) (n : ℕ) → branch_point n entries ≡ None → meetings entries < n
none_left entries zero is = absurd cc
none_left [] (suc n) is = omega arith
none_left (entry ∷ entries) (suc n) is =
    let m = (if is_meeting entry.kind then n else suc n) in
    fewer (is_meeting entry.kind) n (meetings entries) (none_left entries m (unmapped (branch_point m entries) is))

-- if one is found, there are so many meetings
pub enough : (entries : List Entry) (n k : ℕ) → branch_point n entries ≡ Some k → n ≤ meetings entries
enough entries n k is = omega (arith, (point_is entries n k is).has, take_fewer entries k)

-- with fewer meetings none is found
pub too_few : (entries : List Entry) (n : ℕ) → meetings entries < n → branch_point n entries ≡ None
too_few entries n less = go (branch_point n entries) refl where
  go : (r : Option ℕ) → branch_point n entries ≡ r → branch_point n entries ≡ None
  go None is = is
  go (Some k) is = absurd (omega (arith, enough entries n k is, less))

-- one shortest prefix is no longer than another
one_point : (entries : List Entry) (n j k : ℕ) → IsBranchPoint n entries j → IsBranchPoint n entries k → j ≤ k
one_point entries n j k first second = elim (cases_lt k j) [
  | inl less ↦ absurd (omega (arith, first.least k less, second.has))
  | inr within ↦ within
]

-- the shortest prefix with so many meetings is found
pub is_point : (entries : List Entry) (n k : ℕ) → IsBranchPoint n entries k → branch_point n entries ≡ Some k
is_point entries n k is = go (branch_point n entries) refl where
  go : (r : Option ℕ) → branch_point n entries ≡ r → branch_point n entries ≡ Some k
  go None none = absurd (omega (arith, none_left entries n none, is.has, take_fewer entries k))
  go (Some j) some =
      let found = point_is entries n j some in
      let same : j ≡ k = omega (arith, one_point entries n j k found is, one_point entries n k j is found) in
      some ∙ ap Some same

-- the place counts from the first record, also from the next one on
moved : (index : ℕ) (r : Option ℕ) → option_map (λ (k : ℕ). index + k) (option_map suc r) ≡ option_map (λ (k : ℕ). index + 1 + k) r
moved index None = refl
moved index (Some k) = let same : index + suc k ≡ index + 1 + k = omega arith in ap Some same

-- after one record more the search goes on with the meetings that are left
pub looked_on : (entries : List Entry) (left index : ℕ) (e : Entry) → 0 < left → index < length entries → e ≡ get_or entries index e
    → option_map (λ (k : ℕ). index + k) (branch_point left (drop index entries))
    ≡ option_map (λ (k : ℕ). index + 1 + k) (branch_point (if is_meeting e.kind then left - 1 else left) (drop (index + 1) entries))
looked_on entries zero index e some within is = absurd (omega (arith, some))
looked_on entries (suc n) index e some within is =
    let rest = drop (index + 1) entries in
    let split : drop index entries ≡ e ∷ rest = drop_more entries index e within ∙ ap (λ (x : Entry). x ∷ rest) (sym is) in
    ap (λ (l : List Entry). option_map (λ (k : ℕ). index + k) (branch_point (suc n) l)) split
    ∙ moved index (branch_point (if is_meeting e.kind then n else suc n) rest)
    ∙ less (is_meeting e.kind) where
      less : (b : Bool) → option_map (λ (k : ℕ). index + 1 + k) (branch_point (if b then n else suc n) (drop (index + 1) entries))
          ≡ option_map (λ (k : ℕ). index + 1 + k) (branch_point (if b then suc n - 1 else suc n) (drop (index + 1) entries))
      less true = let same : n ≡ suc n - 1 = omega arith in ap (λ (m : ℕ). option_map (λ (k : ℕ). index + 1 + k) (branch_point m (drop (index + 1) entries))) same
      less false = refl
