-- Least numbers of which something holds: of the same in other words, of nothing, of either of two.
-- Counted, Deepest, Leading, Nearest, Searching and Strayed, which look for a first block or line,
-- and the proofs of src/view.rt take these.
use Rattle.std.proofs.Common.{◌≡◌, ℕ, ◌⊎◌, inl, inr, Option, Some, None, arith}
use Rattle.wait_order.specs.Waiting.{IsLeast, IsAtMost}
use Rattle.nc_number.specs.Options.{lesser}
use Rattle.nc_number.proofs.Counts.{lesser_is}

-- The least number of which P holds is that of which R holds, if P and R hold of the same numbers.
pub least_same : {P R : ℕ → Type 0} (a : Option ℕ) → IsLeast P a → ((n : ℕ) → P n → R n) → ((n : ℕ) → R n → P n) → IsLeast R a
least_same a l to from = record { holds = λ n e. to n (l.holds n e); least = λ n r. l.least n (from n r) }

-- If P holds of no number, none is the answer.
pub least_none : {P : ℕ → Type 0} → ((n : ℕ) → P n → ⊥) → IsLeast P None
least_none none = record { holds = λ n e. absurd cc; least = λ n p. none n p }

-- The lesser of two is at most what the first is at most.
at_most_left : (a b : Option ℕ) (n : ℕ) → IsAtMost a n → IsAtMost (lesser a b) n
at_most_left None b n h = absurd h
at_most_left (Some x) None n h = h
at_most_left (Some x) (Some y) n h = omega arith

-- The lesser of two is at most what the second is at most.
at_most_right : (a b : Option ℕ) (n : ℕ) → IsAtMost b n → IsAtMost (lesser a b) n
at_most_right None b n h = h
at_most_right (Some x) None n h = absurd h
at_most_right (Some x) (Some y) n h = omega arith

-- The lesser of the least numbers of P and of Q is that of R, if R is either of them.
pub least_either : {P Q R : ℕ → Type 0} (a b : Option ℕ) → IsLeast P a → IsLeast Q b → ((n : ℕ) → P n → R n) → ((n : ℕ) → Q n → R n)
    → ((n : ℕ) → R n → P n ⊎ Q n) → IsLeast R (lesser a b)
least_either {P} {Q} {R} a b p q left right either = record {
  holds = λ n e. held n (lesser_is a b n e);
  least = λ n r. below n (either n r);
}
  where
    held : (n : ℕ) → (a ≡ Some n) ⊎ (b ≡ Some n) → R n
    held n (inl e) = left n (p.holds n e)
    held n (inr e) = right n (q.holds n e)

    below : (n : ℕ) → P n ⊎ Q n → IsAtMost (lesser a b) n
    below n (inl h) = at_most_left a b n (p.least n h)
    below n (inr h) = at_most_right a b n (q.least n h)
