-- Facts of the tests of whole numbers. This crate takes none.
use Rattle.std.proofs.Common.{◌≡◌, true, ℤ, ◌≤ℤ◌, ◌<ℤ◌, arith}
use Rattle.std.specs.Prelude.{int_lt, int_le}
use Rattle.std.proofs.lemmas.Int.{ints}

-- a whole number that passes the test of `less` is less
pub lt_is : (a b : ℤ) → int_lt a b ≡ true → a <ℤ b
lt_is a b e = grind (arith, ints)

-- a whole number that passes the test of `at most` is at most the other
pub le_is : (a b : ℤ) → int_le a b ≡ true → a ≤ℤ b
le_is a b e = grind (arith, ints)
