-- What the common variables hold after writes, the own ones of a path and the shared ones: for the
-- laws of src/own.rt and src/shared.rt.
use Rattle.std.proofs.Common.{◌≡◌, ℕ, ◌<◌, ◌≤◌, nat_le, All, ◌==◌, List, [], ◌∷◌, ◌++◌, true, false, cond, Option, None, Some, length, arith, refl, sym, ◌∙◌, ap, inl, inr, unwrap_or, eq-eqb}
use Rattle.std.specs.Option.{option_or}
use Rattle.std.proofs.lemmas.Bool.{cases_eq, ne_eqb, and_right, lt-leb, le-leb}
use Rattle.std.proofs.lemmas.List.Elements.{All-head, All-tail}
use Rattle.std.proofs.lemmas.List.{get_or-set_same, get_or-set_other, get_or-replicate}
use Rattle.std.proofs.Math.ListN.{length-set}
use Rattle.nc_number.specs.declared.value.Var.{Var}
use Rattle.nc_number.specs.declared.value.Var.TheVariants.{Vacant}
use Rattle.common_vars.specs.declared.links.Write.{Write}
use Rattle.common_vars.specs.Common.{IsCommon, AreCommon, none_written, value_of, with_value, after_writes, latest_of}
use Rattle.common_vars.specs.Writes.{is_write_of, latest_write, value_after}

-- the number of a common variable is below 1000
common_small : (v : ℕ) → IsCommon v → v < 1000
common_small v (inl low) = omega (arith, low.1)
common_small v (inr high) = omega (arith, high.1)

-- after one write its variable holds it, and each other what it held
after_one : (own : List Var) (v u : ℕ) (to : Var) → length own ≡ 1000 → u < 1000
    → value_of v (with_value u to own) ≡ unwrap_or (cond (u == v) (Some to) None) (value_of v own)
after_one own v u to sized small =
    elim (cases_eq u v) [
      | inl same ↦
          let test : (u == v) ≡ true = eq-eqb u v same in
          rw (test, same) (get_or-set_same own v to Vacant (omega arith))
      | inr other ↦
          let test : (u == v) ≡ false = ne_eqb u v other in
          rw test (get_or-set_other own u v to Vacant (λ e. other (sym e)))
    ]

-- of two values that may be missing the first counts, else the second, else the default
unwrap_or-or : (o p : Option Var) (d : Var) → unwrap_or (option_or o p) d ≡ unwrap_or o (unwrap_or p d)
unwrap_or-or None p d = refl
unwrap_or-or (Some x) p d = refl

-- after writes each variable holds what the latest of it wrote
after_all : (writes : List (ℕ × Var)) (own : List Var) (v : ℕ) → length own ≡ 1000 → AreCommon writes
    → value_of v (after_writes writes own) ≡ unwrap_or (latest_of v writes) (value_of v own)
after_all [] own v sized common = refl
after_all (w ∷ later) own v sized common =
    after_all later (with_value w.0 w.1 own) v (length-set own w.0 w.1 ∙ sized) common.1
    ∙ ap (unwrap_or (latest_of v later)) (after_one own v w.0 w.1 sized (common_small w.0 common.0))
    ∙ sym (unwrap_or-or (latest_of v later) _ (value_of v own))

-- each common variable holds what the latest write of it wrote, and is vacant if there is none
pub latest_is_held : (writes : List (ℕ × Var)) (v : ℕ) → IsCommon v → AreCommon writes
    → value_of v (after_writes writes none_written) ≡ unwrap_or (latest_of v writes) Vacant
latest_is_held writes v common all =
    after_all writes none_written v refl all
    ∙ ap (unwrap_or (latest_of v writes)) (get_or-replicate 1000 v Vacant Vacant (common_small v common))

-- of three values that may be missing the first counts, however they are grouped
option_or-assoc : (a b c : Option Var) → option_or (option_or a b) c ≡ option_or a (option_or b c)
option_or-assoc None b c = refl
option_or-assoc (Some x) b c = refl

-- one more write is the latest of its variable, and changes no other
one_more : (writes : List Write) (w : Write) (k v : ℕ)
    → latest_write k v (writes ++ w ∷ []) ≡ option_or (cond (is_write_of k v w) (Some w.value) None) (latest_write k v writes)
one_more [] w k v = elim (is_write_of k v w) as (λ b. option_or None (cond b (Some w.value) None) ≡ option_or (cond b (Some w.value) None) None) [ true ↦ refl | false ↦ refl ]
one_more (x ∷ writes) w k v =
    ap (λ o. option_or o (cond (is_write_of k v x) (Some x.value) None)) (one_more writes w k v)
    ∙ option_or-assoc _ (latest_write k v writes) _

-- a write is seen by its variable from its stamp on, and by nothing else
pub seen_from_its_stamp : (writes : List Write) (w : Write) (k v : ℕ)
    → value_after k v (writes ++ w ∷ []) ≡ cond (is_write_of k v w) w.value (value_after k v writes)
seen_from_its_stamp writes w k v =
    ap (λ o. unwrap_or o Vacant) (one_more writes w k v)
    ∙ elim (is_write_of k v w) as (λ b. unwrap_or (option_or (cond b (Some w.value) None) (latest_write k v writes)) Vacant ≡ cond b w.value (value_after k v writes)) [ true ↦ refl | false ↦ refl ]

-- later writes are no writes by the first k records
none_of_later : (later : List Write) (k v : ℕ) → All (λ w. k < w.stamp) later → latest_write k v later ≡ None
none_of_later [] k v past = refl
none_of_later (w ∷ later) k v past =
    let Past : Write → Type 0 = λ w. k < w.stamp in
    let first : k < w.stamp = All-head Past w later past in
    let skipped : is_write_of k v w ≡ false = and_right (w.variable == v) (nat_le w.stamp k) (lt-leb w.stamp k first) in
    let rest = none_of_later later k v (All-tail Past w later past) in
    rw (rest, skipped) refl

-- writes by later records are not looked at
behind_later : (writes later : List Write) (k v : ℕ) → All (λ w. k < w.stamp) later
    → latest_write k v (writes ++ later) ≡ latest_write k v writes
behind_later [] later k v past = none_of_later later k v past
behind_later (x ∷ writes) later k v past =
    ap (λ o. option_or o (cond (is_write_of k v x) (Some x.value) None)) (behind_later writes later k v past)

-- what a variable holds after the first k records is the same, whatever later records write
pub earlier_value_stays : (writes later : List Write) (k v : ℕ) → All (λ w. k < w.stamp) later
    → value_after k v (writes ++ later) ≡ value_after k v writes
earlier_value_stays writes later k v past = ap (λ o. unwrap_or o Vacant) (behind_later writes later k v past)

-- once a write is seen, it is seen after any number of records more
seen_alike : (w : Write) (last k v : ℕ) → w.stamp ≤ last → last ≤ k → is_write_of k v w ≡ is_write_of last v w
seen_alike w last k v early behind =
    let now : nat_le w.stamp last ≡ true = le-leb w.stamp last early in
    let later : nat_le w.stamp k ≡ true = le-leb w.stamp k (omega arith) in
    rw (now, later) refl

-- after the last write the latest write stays
all_seen : (writes : List Write) (last k v : ℕ) → All (λ w. w.stamp ≤ last) writes → last ≤ k
    → latest_write k v writes ≡ latest_write last v writes
all_seen [] last k v early behind = refl
all_seen (w ∷ writes) last k v early behind =
    let Early : Write → Type 0 = λ w. w.stamp ≤ last in
    let alike = seen_alike w last k v (All-head Early w writes early) behind in
    let rest = all_seen writes last k v (All-tail Early w writes early) behind in
    rw (rest, alike) refl

-- after the record of the last write no value changes
pub last_value_stays : (writes : List Write) (last k v : ℕ) → All (λ w. w.stamp ≤ last) writes → last ≤ k
    → value_after k v writes ≡ value_after last v writes
last_value_stays writes last k v early behind = ap (λ o. unwrap_or o Vacant) (all_seen writes last k v early behind)
