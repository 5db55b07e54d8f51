-- Lengths taken so many times: their order and their sums, and points that divide a move. AboveRoot
-- rests on it.
use Rattle.std.proofs.Common.{◌≡◌, ℕ, zero, suc, ◌+◌, ◌*◌, Bool, true, false, ℤ, pos, ◌+ℤ◌, ◌*ℤ◌, ◌≤ℤ◌, refl, ap, sym, ◌∙◌, arith}
use Rattle.std.proofs.lemmas.Int.{ints}
use Rattle.std.proofs.Math.IntN.{suc_ℤ-*ℤ, zero-*ℤ, *ℤ-zero}
use Rattle.std.proofs.Math.Nat.{mul_comm}
use Rattle.thread_cycle.specs.Sides.{IsOnSide}

-- once more is the length more
once_more : (d : ℕ) (z : ℤ) → pos (suc d) *ℤ z ≡ (pos d *ℤ z +ℤ z)
once_more d z = suc_ℤ-*ℤ (pos d) z

-- taken as often, lengths keep their order
pub times_le : (d : ℕ) (a b : ℤ) → a ≤ℤ b → (pos d *ℤ a) ≤ℤ (pos d *ℤ b)
times_le zero a b le = rw (zero-*ℤ a, zero-*ℤ b) (omega (arith, ints))
times_le (suc d) a b le =
    let rest = times_le d a b le in
    rw (once_more d a, once_more d b) (omega (arith, ints))

-- a sum is taken so many times part by part
pub times_sum : (d : ℕ) (a b : ℤ) → (pos d *ℤ (a +ℤ b)) ≡ (pos d *ℤ a +ℤ pos d *ℤ b)
times_sum zero a b = rw (zero-*ℤ (a +ℤ b), zero-*ℤ a, zero-*ℤ b) refl
times_sum (suc d) a b =
    let rest = times_sum d a b in
    rw (once_more d (a +ℤ b), once_more d a, once_more d b) (omega (arith, ints))

-- a length is taken the sum of two counts by taking it each many times
pub sum_times : (m n : ℕ) (a : ℤ) → (pos (m + n) *ℤ a) ≡ (pos m *ℤ a +ℤ pos n *ℤ a)
sum_times zero n a =
    let none : zero + n ≡ n = omega arith in
    let nothing = zero-*ℤ a in
    ap (λ k. pos k *ℤ a) none ∙ omega (arith, ints, nothing)
sum_times (suc m) n a =
    let rest = sum_times m n a in
    let first : suc m + n ≡ suc (m + n) = omega arith in
    let whole = once_more (m + n) a in
    let part = once_more m a in
    ap (λ k. pos k *ℤ a) first ∙ omega (arith, ints, rest, whole, part)

-- a length is taken the product of two counts by taking it the one and then the other many times
count_times : (m n : ℕ) (a : ℤ) → (pos (m * n) *ℤ a) ≡ (pos m *ℤ (pos n *ℤ a))
count_times zero n a =
    let none : zero * n ≡ zero = omega arith in
    ap (λ k. pos k *ℤ a) none ∙ zero-*ℤ a ∙ sym (zero-*ℤ (pos n *ℤ a))
count_times (suc m) n a =
    let rest = count_times m n a in
    let first : suc m * n ≡ m * n + n = omega arith in
    ap (λ k. pos k *ℤ a) first ∙ sum_times (m * n) n a ∙ ap (λ z. z +ℤ pos n *ℤ a) rest ∙ sym (once_more m (pos n *ℤ a))

-- in either order
times_swap : (m n : ℕ) (a : ℤ) → (pos m *ℤ (pos n *ℤ a)) ≡ (pos n *ℤ (pos m *ℤ a))
times_swap m n a = sym (count_times m n a) ∙ ap (λ k. pos k *ℤ a) (mul_comm m n) ∙ count_times n m a

-- of two points on the free side of a line through 0, in cross products, each that divides the way
-- between them is on it too
pub mixed : (inner : Bool) (l r s m n : ℕ) (slope h k : ℤ) → IsOnSide inner (pos r *ℤ slope) (pos l *ℤ h) → IsOnSide inner (pos s *ℤ slope) (pos l *ℤ k)
    → IsOnSide inner (pos (m * r + n * s) *ℤ slope) (pos l *ℤ (pos m *ℤ h +ℤ pos n *ℤ k))
mixed inner l r s m n slope h k first second = rw (run, height) (go inner first second)
  where
    run : (pos (m * r + n * s) *ℤ slope) ≡ (pos m *ℤ (pos r *ℤ slope) +ℤ pos n *ℤ (pos s *ℤ slope))
    run =
        let one = count_times m r slope in
        let other = count_times n s slope in
        sum_times (m * r) (n * s) slope ∙ omega (arith, ints, one, other)

    height : (pos l *ℤ (pos m *ℤ h +ℤ pos n *ℤ k)) ≡ (pos m *ℤ (pos l *ℤ h) +ℤ pos n *ℤ (pos l *ℤ k))
    height =
        let one = times_swap l m h in
        let other = times_swap l n k in
        times_sum l (pos m *ℤ h) (pos n *ℤ k) ∙ omega (arith, ints, one, other)

    go : (inner : Bool) → IsOnSide inner (pos r *ℤ slope) (pos l *ℤ h) → IsOnSide inner (pos s *ℤ slope) (pos l *ℤ k)
        → IsOnSide inner (pos m *ℤ (pos r *ℤ slope) +ℤ pos n *ℤ (pos s *ℤ slope)) (pos m *ℤ (pos l *ℤ h) +ℤ pos n *ℤ (pos l *ℤ k))
    go true first second =
        let one = times_le m (pos l *ℤ h) (pos r *ℤ slope) first in
        let other = times_le n (pos l *ℤ k) (pos s *ℤ slope) second in
        omega (arith, ints, one, other)
    go false first second =
        let one = times_le m (pos r *ℤ slope) (pos l *ℤ h) first in
        let other = times_le n (pos s *ℤ slope) (pos l *ℤ k) second in
        omega (arith, ints, one, other)

-- a point farther to the free side is on it as well
pub further : (inner : Bool) (l : ℕ) (line h k : ℤ) → IsOnSide inner line (pos l *ℤ h) → IsOnSide inner (pos 0) k → IsOnSide inner line (pos l *ℤ (h +ℤ k))
further true l line h k on off =
    let less = times_le l k (pos 0) off in
    let none = *ℤ-zero (pos l) in
    let sum = times_sum l h k in
    omega (arith, ints, on, less, none, sum)
further false l line h k on off =
    let more = times_le l (pos 0) k off in
    let none = *ℤ-zero (pos l) in
    let sum = times_sum l h k in
    omega (arith, ints, on, more, none, sum)

-- at 0 the line is at 0
pub at_zero : (inner : Bool) (l : ℕ) (slope k : ℤ) → IsOnSide inner (pos 0) k → IsOnSide inner (pos 0 *ℤ slope) (pos l *ℤ k)
at_zero true l slope k off =
    let less = times_le l k (pos 0) off in
    let none = *ℤ-zero (pos l) in
    let nothing = zero-*ℤ slope in
    omega (arith, ints, less, none, nothing)
at_zero false l slope k off =
    let more = times_le l (pos 0) k off in
    let none = *ℤ-zero (pos l) in
    let nothing = zero-*ℤ slope in
    omega (arith, ints, more, none, nothing)
