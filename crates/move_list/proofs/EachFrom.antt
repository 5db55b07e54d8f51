-- Texts of consecutive numbers, in parts.
-- The loop of `put_listing` (src/state.rt) rests on it.
use Rattle.std.proofs.Common.{◌≡◌, ℕ, zero, suc, ◌+◌, ◌-◌, ◌<◌, List, ◌++◌, sym, ◌∙◌, ap, append_assoc, append-nil, arith}
use Rattle.move_list.specs.Pieces.{each_from}

-- the texts of a + b consecutive numbers are those of the first a and then those of the other b
each_append : (f : ℕ → List ℕ) (n a b : ℕ) → each_from f n (a + b) ≡ each_from f n a ++ each_from f (n + a) b
unfolding each_from
each_append f n zero b =
    let count : 0 + b ≡ b = omega arith in
    let first : n ≡ n + 0 = omega arith in
    ap (each_from f n) count ∙ ap (λ k. each_from f k b) first
each_append f n (suc a) b =
    let count : suc a + b ≡ suc (a + b) = omega arith in
    let first : n + 1 + a ≡ n + suc a = omega arith in
    ap (each_from f n) count ∙ ap (λ t. f n ++ t) (each_append f (n + 1) a b)
    ∙ sym (append_assoc (f n) (each_from f (n + 1) a) (each_from f (n + 1 + a) b))
    ∙ ap (λ k. (f n ++ each_from f (n + 1) a) ++ each_from f k b) first

-- the texts of one consecutive number more end with its text
pub each_from_more : (f : ℕ → List ℕ) (n k : ℕ) → each_from f n (k + 1) ≡ each_from f n k ++ f (n + k)
unfolding each_from
each_from_more f n k = each_append f n k 1 ∙ ap (λ t. each_from f n k ++ t) (append-nil (f (n + k)))

-- the texts before a number, its own, and those after it
pub each_from_parted : (f : ℕ → List ℕ) (n k count : ℕ) → k < count
    → each_from f n count ≡ each_from f n k ++ (f (n + k) ++ each_from f (n + k + 1) (count - k - 1))
unfolding each_from
each_from_parted f n k count within =
    let parts : count ≡ k + suc (count - k - 1) = omega arith in
    ap (each_from f n) parts ∙ each_append f n k (suc (count - k - 1))
