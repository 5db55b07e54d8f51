-- A look-up of a cause by its number finds what a look through the table of causes finds.
-- The proof of `cause_of` (src/end_line.rt) uses it.
use Rattle.std.proofs.Common.{◌≡◌, ◌==◌, ℕ, Bool, true, false, cond, List, [], ◌∷◌, Option, Some, None, IfSome, All, refl, arith, zero, suc}
use Rattle.std.specs.Prelude.{find}
use Rattle.std.proofs.lemmas.List.Elements.{All-contains}
use Rattle.nc_number.specs.declared.cause.Cause.{Cause}
use Rattle.nc_number.specs.Causes.{cause_number, every_cause, cause_of}
use Rattle.nc_number.proofs.CauseTable.{cause_is_listed}
use Rattle.nc_number.proofs.Counts.{equal}
use Rattle.code_tables.proofs.FoundPasses.{found_passes}

-- numbers that fail the test of equality differ
unequal_where : (a b : ℕ) → (a == b) ≡ false → a ≡ b → ⊥
unequal_where a b test same = grind arith

-- if a search finds nothing, no element passes its test
none_passes : {X : Type 0} (p : X → Bool) (xs : List X) → find p xs ≡ None → All (λ x. p x ≡ false) xs
none_passes p [] e k d l = absurd (omega arith)
none_passes p (y ∷ ys) e k d l = go (p y) refl e (none_passes p ys) k d l
  where
    go : (b : Bool) → p y ≡ b → cond b (Some y) (find p ys) ≡ None → (find p ys ≡ None → All (λ x. p x ≡ false) ys)
        → All (λ x. p x ≡ false) (y ∷ ys)
    go true is none rest k d l = absurd (let other : ◌≡◌ {A = Option _} (Some y) None = none in cc)
    go false is none rest zero d l = is
    go false is none rest (suc k) d l = rest none k d (omega arith)

-- What a look-up found is the cause of the number, if a cause that it found has the number, and if
-- it found each cause that has the number.
pub cause_by_number : (number : ℕ) (found : Option Cause) → IfSome found (λ cause. cause_number cause ≡ number)
    → ((cause : Cause) → cause_number cause ≡ number → found ≡ Some cause) → found ≡ cause_of number
cause_by_number number found is all = go (cause_of number) refl
  where
    clash : (found : Option Cause) → IfSome found (λ cause. cause_number cause ≡ number) → cause_of number ≡ None → found ≡ None
    clash None is none = refl
    clash (Some cause) is none =
        absurd (unequal_where (cause_number cause) number (All-contains (λ c. (cause_number c == number) ≡ false) every_cause cause (none_passes (λ c. cause_number c == number) every_cause none) (cause_is_listed cause)) is)

    go : (looked : Option Cause) → cause_of number ≡ looked → found ≡ looked
    go None none = clash found is none
    go (Some cause) same =
        all cause (equal (cause_number cause) number (found_passes (λ c. cause_number c == number) every_cause cause same))
