-- What looking up and copying an entry gives, and options that a test compared. For the proofs of
-- src/loops.rt, src/order.rt and src/sequence.rt.
use Rattle.std.proofs.Common.{◌≡◌, ◌≢◌, ℕ, eqb, true, false, arith, ◌<◌, ◌≤◌, ◌↔◌, Bor, List, length, Option, Some, None, refl, sym, ap}
use Rattle.std.specs.Option.{MatchOption, option_copied, option_flatten, option_eq}
use Rattle.std.proofs.lemmas.Bool.Decides.{nat_tests}
use Rattle.std.proofs.lemmas.Bool.{eqb-true}
use Rattle.std.specs.List.{slice_get, HoldsAt}
use Rattle.std.proofs.lemmas.Option.{slice_get_past, slice_get_read}

-- A looked-up entry, copied, is the entry at that index.
pub got_copied : {X : Type 0} (r : Option (Bor X)) (xs : List X) (i : ℕ)
    → MatchOption r (length xs ≤ i) (λ x. (i < length xs) × HoldsAt (λ y. x.now ≡ y) xs i)
    → option_copied r ≡ slice_get xs i
got_copied None xs i h = sym (slice_get_past xs i h)
got_copied (Some x) xs i h = sym (slice_get_read xs (length xs) i x.now refl h.0 (h.1 x.now))

-- If an option of an option flattens to x, it holds x.
pub flat-some : {X : Type 0} (o : Option (Option X)) (x : X) → option_flatten o ≡ Some x → o ≡ Some (Some x)
flat-some None x e = absurd cc
flat-some (Some None) x e = absurd cc
flat-some (Some (Some y)) x e = ap (λ o. Some o) e

-- Options that hold the same are the same.
pub same_somes : (a b : Option ℕ) → ((x : ℕ) → (a ≡ Some x) ↔ (b ≡ Some x)) → a ≡ b
same_somes (Some x) b both = sym ((both x).0 refl)
same_somes None b both = go b refl where
  go : (o : Option ℕ) → b ≡ o → None ≡ b
  go None e = sym e
  go (Some x) e = let clash : None ≡ Some x = (both x).1 e in absurd cc

-- Two options that a test found equal are equal.
pub eq-some : (o : Option ℕ) (x : ℕ) → option_eq eqb o (Some x) ≡ true → o ≡ Some x
eq-some None x e = absurd cc
eq-some (Some y) x e = ap (λ k. Some k) (eqb-true y x e)

-- Two options that a test found to differ do differ.
pub eq-not : (o : Option ℕ) (x : ℕ) → option_eq eqb o (Some x) ≡ false → o ≢ Some x
eq-not None x e f = absurd cc
eq-not (Some y) x e f =
    let k : y ≡ x = cc in
    let test : eqb y x ≡ true = grind (arith, nat_tests) in absurd cc
