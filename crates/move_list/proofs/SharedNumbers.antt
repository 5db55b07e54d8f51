-- Which variables both paths share, as a test and as a fact.
-- The proof of `shared_line` (src/listing.rt) uses it.
use Rattle.std.proofs.Common.{◌≡◌, ℕ, ◌+◌, ◌&&◌, ◌||◌, nat_le, nat_lt, true, arith}
use Rattle.std.proofs.lemmas.Grind.{common_steps}
use Rattle.common_vars.specs.Writes.{IsShared}
use Rattle.path_state.specs.View.{Fixed}
use Rattle.path_state.specs.Looks.{is_shared}

-- a number that passes the code's test of both ranges is one of the shared variables
by_numbers : (hundreds upper v : ℕ) → ((nat_le 100 v && nat_lt v (100 + hundreds)) || (nat_le 500 v && nat_lt v (500 + upper))) ≡ true
    → IsShared hundreds upper v
by_numbers hundreds upper v test = grind (arith, common_steps)

-- a variable that passes the test of the machine is shared
pub shared_where : (fixed : Fixed) (v : ℕ) → is_shared fixed v ≡ true → IsShared fixed.shared100 fixed.shared500 v
shared_where fixed v test = by_numbers fixed.shared100 fixed.shared500 v test
