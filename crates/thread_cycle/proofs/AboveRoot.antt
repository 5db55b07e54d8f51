-- No point of a pass lies below the root: for the law `every_move_is_clear` (src/law.rt), in
-- ClearMoves.
use Rattle.std.proofs.Common.{◌≡◌, inl, inr, ℕ, ◌+◌, ◌-◌, ◌*◌, ◌≤◌, Bool, true, false, not, ℤ, pos, ◌+ℤ◌, ◌-ℤ◌, ◌*ℤ◌, ◌≤ℤ◌, refl, sym, subst, ap, ◌∙◌, arith}
use Rattle.std.specs.Prelude.{unsigned_abs}
use Rattle.std.proofs.lemmas.Int.{ints}
use Rattle.std.proofs.Math.IntN.{pos-*ℤ-pos, *ℤ-zero}
use Rattle.nc_number.specs.declared.point.Point.{Point}
use Rattle.plain_block.specs.Shifts.{moved}
use Rattle.plain_block.proofs.Shifted.{moved_by}
use Rattle.nc_number.specs.Distances.{distance, IsBetween}
use Rattle.nc_number.proofs.Integers.{lt_is}
use Rattle.thread_cycle.specs.declared.cycle.ThreadCycle.{ThreadCycle}
use Rattle.thread_cycle.specs.Passes.{is_inner, goes_down, back, whole_length, infeed, end_of, x_before, length_of, begin_of, pull_of, corner_of, rise_of, exit_of}
use Rattle.thread_cycle.specs.Moves.{IsOffRoot, RunsOffRoot}
use Rattle.thread_cycle.specs.Sides.{IsOnSide}
use Rattle.thread_cycle.proofs.Multiples.{times_le, times_sum, sum_times, mixed, further, at_zero}
use Rattle.thread_cycle.proofs.TaperLine.{on_taper}

-- a point so far before the target is off the root
abbrev pub IsPointOff : ThreadCycle → Point → ℕ → Type 0
IsPointOff t at n = (at.z ≡ back t t.target.z n) × (n ≤ whole_length t) × IsOffRoot t (at.x -ℤ t.target.x) n

-- a Z so far before the target lies between it and the start
in_reach : (t : ThreadCycle) (n : ℕ) → n ≤ whole_length t → IsBetween t.target.z (back t t.target.z n) t.start.z
in_reach t n within = go (goes_down t) refl
  where
    go : (down : Bool) → goes_down t ≡ down → IsBetween t.target.z (moved (not down) t.target.z n) t.start.z
    go true test = let less = lt_is t.target.z t.start.z test in inl (omega (arith, ints), omega (arith, ints, less, within))
    go false test = let more : t.start.z ≤ℤ t.target.z = grind (arith, ints) in inr (omega (arith, ints, more, within), omega (arith, ints))

-- no point of a move between two such points is below it
pub runs_off : (t : ThreadCycle) (from to : Point) (m n : ℕ) → IsPointOff t from m → IsPointOff t to n → RunsOffRoot t from to
runs_off t from to m n (from_z, from_within, from_off) (to_z, to_within, to_off) = (
  subst (λ z. IsBetween t.target.z z t.start.z) (sym from_z) (in_reach t m from_within),
  subst (λ z. IsBetween t.target.z z t.start.z) (sym to_z) (in_reach t n to_within),
  λ rest part. subst (λ run. IsOffRoot t (pos rest *ℤ (from.x -ℤ t.target.x) +ℤ pos part *ℤ (to.x -ℤ t.target.x)) run) (sym (runs rest part))
      (mixed (is_inner t) (whole_length t) m n rest part (t.taper +ℤ t.taper) (from.x -ℤ t.target.x) (to.x -ℤ t.target.x) from_off to_off),
)
  where
    far : (z : ℤ) (k : ℕ) → z ≡ back t t.target.z k → distance z t.target.z ≡ k
    far z k is = ap (λ y. distance y t.target.z) is ∙ moved_by (not (goes_down t)) t.target.z k

    runs : (rest part : ℕ) → rest * distance from.z t.target.z + part * distance to.z t.target.z ≡ rest * m + part * n
    runs rest part = rw (far from.z m from_z, far to.z n to_z) refl

-- the end of a pass is above the target
end_height : (t : ThreadCycle) (d : ℕ) → IsOnSide (is_inner t) (pos 0) ((end_of t d).x -ℤ t.target.x)
end_height t d = go (is_inner t)
  where
    go : (inner : Bool) → IsOnSide inner (pos 0) (moved inner t.target.x (2 * (t.depth - d)) -ℤ t.target.x)
    go true = omega (arith, ints)
    go false = omega (arith, ints)

-- the end is off the root
pub end_off : (t : ThreadCycle) (d : ℕ) → IsPointOff t (end_of t d) 0
end_off t d = (stays (goes_down t), omega arith, at_zero (is_inner t) (whole_length t) (t.taper +ℤ t.taper) ((end_of t d).x -ℤ t.target.x) (end_height t d))
  where
    stays : (down : Bool) → t.target.z ≡ moved (not down) t.target.z 0
    stays true = omega (arith, ints)
    stays false = omega (arith, ints)

-- each X of a pass is
line_off : (t : ThreadCycle) (d n : ℕ) → 1 ≤ whole_length t → n ≤ whole_length t → IsOffRoot t (x_before t d n -ℤ t.target.x) n
line_off t d n long within =
    subst (λ h. IsOffRoot t h n) parts
    (further (is_inner t) (whole_length t) (pos n *ℤ (t.taper +ℤ t.taper)) (x_before t d n -ℤ (end_of t d).x) ((end_of t d).x -ℤ t.target.x) (on_taper t d n long within).0 (end_height t d))
  where
    split : (a b c : ℤ) → ((a -ℤ b) +ℤ (b -ℤ c)) ≡ (a -ℤ c)
    split a b c = omega (arith, ints)

    parts : ((x_before t d n -ℤ (end_of t d).x) +ℤ ((end_of t d).x -ℤ t.target.x)) ≡ (x_before t d n -ℤ t.target.x)
    parts = split (x_before t d n) (end_of t d).x t.target.x

-- where a pass is pulled out is
pub corner_off : (t : ThreadCycle) (d : ℕ) → 1 ≤ whole_length t → IsPointOff t (corner_of t d) (pull_of t d)
corner_off t d long = let within : pull_of t d ≤ whole_length t = omega arith in (refl, within, line_off t d (pull_of t d) long within)

-- where it begins is
pub begin_off : (t : ThreadCycle) (d : ℕ) → 1 ≤ whole_length t → infeed t d ≤ whole_length t → IsPointOff t (begin_of t d) (length_of t d)
begin_off t d long ahead = let within : length_of t d ≤ whole_length t = omega arith in (level (goes_down t) refl, within, line_off t d (length_of t d) long within)
  where
    level : (down : Bool) → goes_down t ≡ down → moved down t.start.z (infeed t d) ≡ moved (not down) t.target.z (whole_length t - infeed t d)
    level true test = let less = lt_is t.target.z t.start.z test in omega (arith, ints, less, ahead)
    level false test = let more : t.start.z ≤ℤ t.target.z = grind (arith, ints) in omega (arith, ints, more, ahead)

-- a point that is led off at 45 degrees stays off a line that is no steeper
rise_off : (inner : Bool) (l run rise : ℕ) (slope h : ℤ) → rise ≤ run → unsigned_abs slope ≤ 2 * l → IsOnSide inner (pos run *ℤ slope) (pos l *ℤ h)
    → IsOnSide inner (pos (run - rise) *ℤ slope) (pos l *ℤ moved inner h (2 * rise))
rise_off inner l run rise slope h less gentle on = go inner on
  where
    runs : (pos run *ℤ slope) ≡ (pos (run - rise) *ℤ slope +ℤ pos rise *ℤ slope)
    runs = let whole : run ≡ (run - rise) + rise = omega (arith, less) in ap (λ k. pos k *ℤ slope) whole ∙ sum_times (run - rise) rise slope

    same : (pos l *ℤ pos (2 * rise)) ≡ (pos rise *ℤ pos (2 * l))
    same = let count : l * (2 * rise) ≡ rise * (2 * l) = omega arith in pos-*ℤ-pos l (2 * rise) ∙ ap pos count ∙ sym (pos-*ℤ-pos rise (2 * l))

    go : (inner : Bool) → IsOnSide inner (pos run *ℤ slope) (pos l *ℤ h) → IsOnSide inner (pos (run - rise) *ℤ slope) (pos l *ℤ moved inner h (2 * rise))
    go true on =
        let steep = times_le rise slope (pos (2 * l)) (omega (arith, ints, gentle)) in
        let sum = times_sum l (h -ℤ pos (2 * rise)) (pos (2 * rise)) in
        let back : (pos l *ℤ ((h -ℤ pos (2 * rise)) +ℤ pos (2 * rise))) ≡ (pos l *ℤ h) = ap (λ z. pos l *ℤ z) (put_back h (pos (2 * rise))) in
        omega (arith, ints, on, runs, same, steep, sum, back)
      where
        put_back : (a b : ℤ) → ((a -ℤ b) +ℤ b) ≡ a
        put_back a b = omega (arith, ints)
    go false on =
        let steep = times_le rise (pos 0) (slope +ℤ pos (2 * l)) (omega (arith, ints, gentle)) in
        let sum = times_sum l h (pos (2 * rise)) in
        let parts = times_sum rise slope (pos (2 * l)) in
        let none = *ℤ-zero (pos rise) in
        omega (arith, ints, on, runs, same, steep, sum, parts, none)

-- where a pull-out ends is
pub exit_off : (t : ThreadCycle) (d : ℕ) → 1 ≤ whole_length t → unsigned_abs t.taper ≤ whole_length t → IsPointOff t (exit_of t d) (pull_of t d - rise_of t d)
exit_off t d long gentle = (
  level (goes_down t),
  omega arith,
  subst (λ h. IsOffRoot t h (pull_of t d - rise_of t d)) (shifted (is_inner t) (corner_of t d).x t.target.x (2 * rise_of t d))
      (rise_off (is_inner t) (whole_length t) (pull_of t d) (rise_of t d) (t.taper +ℤ t.taper) ((corner_of t d).x -ℤ t.target.x) less double (corner_off t d long).2),
)
  where
    less : rise_of t d ≤ pull_of t d
    less = omega arith

    double : unsigned_abs (t.taper +ℤ t.taper) ≤ 2 * whole_length t
    double = omega (arith, ints, gentle)

    level : (down : Bool) → moved down (moved (not down) t.target.z (pull_of t d)) (rise_of t d) ≡ moved (not down) t.target.z (pull_of t d - rise_of t d)
    level true = omega (arith, ints, less)
    level false = omega (arith, ints, less)

    shifted : (inner : Bool) (x y : ℤ) (k : ℕ) → moved inner (x -ℤ y) k ≡ (moved inner x k -ℤ y)
    shifted true x y k = omega (arith, ints)
    shifted false x y k = omega (arith, ints)
