-- The least of two or more lines, of which each may be none. For ItemLines, PartsLeast, Shown and
-- StretchLines.
use Rattle.std.proofs.Common.{◌≡◌, ℕ, ◌≤◌, min, ◌⊎◌, inl, inr, [], ◌∷◌, Option, Some, None, refl, ap, arith}
use Rattle.nc_number.specs.Options.{lesser}
use Rattle.part_lines.specs.Least.{IsLeast}
use Rattle.part_lines.specs.Lines.{Lines, with_first}

-- The lesser of a line and none is the line.
pub lesser_none : (a : Option ℕ) → lesser a None ≡ a
lesser_none None = refl
lesser_none (Some a) = refl

-- The least of three lines is the same however they are joined.
lesser_assoc : (a b c : Option ℕ) → lesser (lesser a b) c ≡ lesser a (lesser b c)
lesser_assoc None b c = refl
lesser_assoc (Some a) None c = refl
lesser_assoc (Some a) (Some b) None = refl
lesser_assoc (Some a) (Some b) (Some c) = let e : min (min a b) c ≡ min a (min b c) = omega arith in ap Some e

-- A line that is joined twice counts once.
lesser_again : (a b : Option ℕ) → lesser a (lesser a b) ≡ lesser a b
lesser_again None b = refl
lesser_again (Some a) None = let e : min a a ≡ a = omega arith in ap Some e
lesser_again (Some a) (Some b) = let e : min a (min a b) ≡ min a b = omega arith in ap Some e

-- To join the lesser of two lines to the first part is to join both.
pub with_both : (a b : Option ℕ) (lines : Lines) → with_first (lesser a b) lines ≡ with_first a (with_first b lines)
with_both a b [] = refl
with_both a b (own ∷ lines) = ap (λ x. x ∷ lines) (lesser_assoc a b own)

-- A line that is joined to the first part twice counts once.
pub with_again : (a : Option ℕ) (lines : Lines) → with_first a (with_first a lines) ≡ with_first a lines
with_again a [] = refl
with_again a (own ∷ lines) = ap (λ x. x ∷ lines) (lesser_again a own)

-- The lesser of the least lines of P and of Q is the least of which P or Q holds.
pub least_either : (P Q : ℕ → Type 0) (a b : Option ℕ) → IsLeast P a → IsLeast Q b → IsLeast (λ k. P k ⊎ Q k) (lesser a b)
least_either P Q None None p q = λ k either. go k either
  where
    go : (k : ℕ) → P k ⊎ Q k → ⊥
    go k (inl is) = p k is
    go k (inr is) = q k is
least_either P Q None (Some b) p q = (inr q.0, λ k either. go k either)
  where
    go : (k : ℕ) → P k ⊎ Q k → b ≤ k
    go k (inl is) = absurd (p k is)
    go k (inr is) = q.1 k is
least_either P Q (Some a) None p q = (inl p.0, λ k either. go k either)
  where
    go : (k : ℕ) → P k ⊎ Q k → a ≤ k
    go k (inl is) = p.1 k is
    go k (inr is) = absurd (q k is)
least_either P Q (Some a) (Some b) p q = (one (order a b), λ k either. go k either)
  where
    order : (a b : ℕ) → ((a ≤ b) × (min a b ≡ a)) ⊎ ((b ≤ a) × (min a b ≡ b))
    order a b = grind arith

    one : ((a ≤ b) × (min a b ≡ a)) ⊎ ((b ≤ a) × (min a b ≡ b)) → P (min a b) ⊎ Q (min a b)
    one (inl (less, e)) = inl (rw e p.0)
    one (inr (less, e)) = inr (rw e q.0)

    go : (k : ℕ) → P k ⊎ Q k → min a b ≤ k
    go k (inl is) = let above = p.1 k is in omega arith
    go k (inr is) = let above = q.1 k is in omega arith

-- If P and Q hold of the same lines, the least line of P is that of Q.
pub least_same : (P Q : ℕ → Type 0) (o : Option ℕ) → ((k : ℕ) → P k → Q k) → ((k : ℕ) → Q k → P k) → IsLeast P o → IsLeast Q o
least_same P Q None to from p = λ k is. p k (from k is)
least_same P Q (Some a) to from p = (to a p.0, λ k is. p.1 k (from k is))

-- A line is the least of itself alone.
pub least_one : (o : Option ℕ) → IsLeast (λ k. o ≡ Some k) o
least_one None = λ k is. absurd cc
least_one (Some a) = (refl, λ k is. let e : a ≡ k = cc in omega arith)

-- If P holds of no line, none is the least.
least_none : (P : ℕ → Type 0) → ((k : ℕ) → P k → ⊥) → IsLeast P None
least_none P never = never
