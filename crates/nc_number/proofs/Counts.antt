-- Facts of counts and of their tests, and of numbers that may be missing. This crate takes none.
use Rattle.std.proofs.Common.{◌≡◌, ◌==◌, ◌+◌, ◌<◌, ◌≤◌, ◌⊎◌, inl, inr, ℕ, Bool, true, false, nat_lt, nat_le, min, Option, Some, None, refl, arith}
use Rattle.std.proofs.lemmas.Bool.Decides.{nat_tests}
use Rattle.nc_number.specs.Options.{lesser}

-- counts that pass the test of equality are equal
pub equal : (a b : ℕ) → (a == b) ≡ true → a ≡ b
equal a b e = grind (arith, nat_tests)

-- the test of `less` holds of a lesser count
pub lt_true : (a b : ℕ) → a < b → nat_lt a b ≡ true
lt_true a b h = grind (arith, nat_tests)

-- the test of `less` fails if the second count is not greater
pub lt_false : (a b : ℕ) → b ≤ a → nat_lt a b ≡ false
lt_false a b h = grind (arith, nat_tests)

-- a count that passes the test of `less` is less
pub true_lt : (a b : ℕ) → nat_lt a b ≡ true → a < b
true_lt a b e = grind (arith, nat_tests)

-- a count that passes the test of `at most` is at most the other
pub true_le : (a b : ℕ) → nat_le a b ≡ true → a ≤ b
true_le a b e = grind (arith, nat_tests)

-- of two counts, the first is at most the second or greater
pub le_or_lt : (a b : ℕ) → (a ≤ b) ⊎ (b < a)
le_or_lt a b = go (nat_lt b a) refl where
  go : (test : Bool) → nat_lt b a ≡ test → (a ≤ b) ⊎ (b < a)
  go true e = inr (true_lt b a e)
  go false e = inl (grind (arith, nat_tests))

-- a count that is at most another is the same or less
pub same_or_below : (a b : ℕ) → a ≤ b → (a ≡ b) ⊎ (a < b)
same_or_below a b h = go (a == b) refl where
  go : (test : Bool) → (a == b) ≡ test → (a ≡ b) ⊎ (a < b)
  go true e = inl (equal a b e)
  go false e = inr (grind (arith, nat_tests))

-- a count below b + 1 is b or below b
pub last_or_before : (a b : ℕ) → a < b + 1 → (a ≡ b) ⊎ (a < b)
last_or_before a b h = same_or_below a b (grind arith)

-- if two options are both there and equal, what they hold is equal
pub some_is : {A : Type 0} {a b : A} → Some a ≡ Some b → a ≡ b
some_is e = cc

-- the lesser of two numbers that may be missing is one of the two
pub lesser_is : (a b : Option ℕ) (n : ℕ) → lesser a b ≡ Some n → (a ≡ Some n) ⊎ (b ≡ Some n)
lesser_is None b n e = inr e
lesser_is (Some x) None n e = inl e
lesser_is (Some x) (Some y) n e = let same : min x y ≡ n = some_is e in go same (either x y)
  where
    either : (x y : ℕ) → (min x y ≡ x) ⊎ (min x y ≡ y)
    either x y = grind arith

    go : min x y ≡ n → (min x y ≡ x) ⊎ (min x y ≡ y) → (Some x ≡ Some n) ⊎ (Some y ≡ Some n)
    go same (inl e) = let it : x ≡ n = cc in inl (cc)
    go same (inr e) = let it : y ≡ n = cc in inr (cc)
