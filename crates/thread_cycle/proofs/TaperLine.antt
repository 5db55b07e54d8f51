-- The lines of passes: parallel, along the taper, rounded to the free side by less than one
-- increment. For the law `a_pass_stays_above_the_root` (src/law.rt); AboveRoot and PullOut rest on
-- it.
use Rattle.std.proofs.Common.{◌≡◌, inl, inr, ℕ, suc, ◌+◌, ◌-◌, ◌*◌, ◌/◌, ◌<◌, ◌≤◌, Bool, true, false, ℤ, pos, ◌+ℤ◌, ◌-ℤ◌, ◌*ℤ◌, cond, sym, subst, ap, ◌∙◌, arith}
use Rattle.std.specs.Prelude.{unsigned_abs}
use Rattle.std.specs.Int.{is_negative, div_ceil}
use Rattle.std.proofs.lemmas.Bool.{cases_lt}
use Rattle.std.proofs.lemmas.Grind.{div_ceil_times}
use Rattle.std.proofs.lemmas.Int.{ints}
use Rattle.std.proofs.lemmas.Nat.{div-add-mod'}
use Rattle.std.proofs.Math.IntN.{*ℤ_comm}
use Rattle.std.proofs.Math.Nat.{mod-lt, mul-le-mul_left, mul-le-mul_right}
use Rattle.plain_block.specs.Shifts.{moved}
use Rattle.plain_block.proofs.Shifted.{between_from}
use Rattle.nc_number.specs.Distances.{distance, IsBetween}
use Rattle.nc_number.specs.Signs.{with_sign}
use Rattle.nc_number.proofs.NearestQuotient.{negative_pos, signed_size, signed_times}
use Rattle.thread_cycle.specs.declared.cycle.ThreadCycle.{ThreadCycle}
use Rattle.thread_cycle.specs.Passes.{is_inner, end_of, whole_length, rounds_up, taper_at, x_before}
use Rattle.thread_cycle.specs.Moves.{IsOffRoot, IsOnTaper}
use Rattle.thread_cycle.specs.Sides.{IsOnSide}

-- lengths that are moved

-- a length that was moved by more to the free side is on it
pub moved_more : (inner : Bool) (x : ℤ) (a b : ℕ) → a ≤ b → IsOnSide inner (moved inner x a) (moved inner x b)
moved_more true x a b less = omega (arith, ints)
moved_more false x a b less = omega (arith, ints)

-- a length that was moved to the free side is on it
pub moved_off : (inner : Bool) (x : ℤ) (n : ℕ) → IsOnSide inner x (moved inner x n)
moved_off true x n = omega (arith, ints)
moved_off false x n = omega (arith, ints)

-- no pass ends below those at the whole depth
pub ends_above : (t : ThreadCycle) (d : ℕ) → IsOnSide (is_inner t) (end_of t t.depth).x (end_of t d).x
ends_above t d = moved_more (is_inner t) t.target.x (2 * (t.depth - t.depth)) (2 * (t.depth - d)) (omega arith)

-- shares

-- a share of a number, rounded down, is less than one off it
share_down : (n l : ℕ) → 0 < l → (n / l * l ≤ n) × (n < n / l * l + l)
share_down n l some = let split = div-add-mod' n l in let rest = mod-lt n some in (omega (arith, split), omega (arith, split, rest))

-- a share is less than one off it, to the side that it is rounded to
abbrev Rounds : Bool → ℕ → ℕ → ℕ → Type 0
Rounds true n l share = (n ≤ share * l) × (share * l < n + l)
Rounds false n l share = (share * l ≤ n) × (n < share * l + l)

rounds : (up : Bool) (n l : ℕ) → 0 < l → Rounds up n l (cond up (div_ceil n l) (n / l))
rounds true n l some = div_ceil_times n l some
rounds false n l some = share_down n l some

-- a share of so many parts of all parts is at most the whole
share_within : (up : Bool) (whole part all share : ℕ) → 0 < all → part ≤ all → Rounds up (whole * part) all share → share ≤ whole
share_within up whole part all share some less is = elim (cases_lt whole share) [
  | inl more ↦ (let scaled : suc whole * all ≤ share * all = mul-le-mul_right all more in
      let far : whole * part ≤ whole * all = mul-le-mul_left whole less in
      let near : share * all < whole * part + all = bound up is in
      absurd (omega (arith, scaled, far, near)))
  | inr enough ↦ enough
]
  where
    bound : (up : Bool) → Rounds up (whole * part) all share → share * all < whole * part + all
    bound true r = r.1
    bound false r = omega (arith, r, some)

-- twice a number, by its sign and size
twice : (a : ℤ) → (a +ℤ a) ≡ with_sign (is_negative a) (2 * unsigned_abs a)
twice a = go (is_negative a) (signed_size a)
  where
    go : (s : Bool) → with_sign s (unsigned_abs a) ≡ a → (a +ℤ a) ≡ with_sign s (2 * unsigned_abs a)
    go true size = omega (arith, ints, size)
    go false size = omega (arith, ints, size)

-- a number by its sign and size, times a count
sign_times : (s : Bool) (n m : ℕ) → with_sign s n *ℤ pos m ≡ with_sign s (n * m)
sign_times true n m = rw (negative_pos m) at (signed_times true n (pos m))
sign_times false n m = rw (negative_pos m) at (signed_times false n (pos m))

-- what a length was moved by
moved_less : (down : Bool) (x : ℤ) (n : ℕ) → (moved down x n -ℤ x) ≡ with_sign down n
moved_less true x n = omega (arith, ints)
moved_less false x n = omega (arith, ints)

-- a share rounded to the free side is on it, and less than one off
on_side : (inner falls : Bool) (n l share : ℕ) → Rounds (rounds_up inner falls) n l share
    → IsOnSide inner (with_sign falls n) (with_sign falls (share * l)) × (distance (with_sign falls (share * l)) (with_sign falls n) < l)
on_side true true n l share (low, high) = (omega (arith, ints, low), omega (arith, ints, low, high))
on_side true false n l share (low, high) = (omega (arith, ints, low), omega (arith, ints, low, high))
on_side false true n l share (low, high) = (omega (arith, ints, low), omega (arith, ints, low, high))
on_side false false n l share (low, high) = (omega (arith, ints, low), omega (arith, ints, low, high))

-- the line

-- all passes are parallel
pub lines_parallel : (t : ThreadCycle) (d n : ℕ) → (x_before t d n -ℤ (end_of t d).x) ≡ (x_before t t.depth n -ℤ (end_of t t.depth).x)
lines_parallel t d n =
    moved_less (is_negative t.taper) (end_of t d).x (taper_at t n) ∙ sym (moved_less (is_negative t.taper) (end_of t t.depth).x (taper_at t n))

-- the share of the taper
taper_rounds : (t : ThreadCycle) (n : ℕ) → 1 ≤ whole_length t → Rounds (rounds_up (is_inner t) (is_negative t.taper)) (2 * unsigned_abs t.taper * n) (whole_length t) (taper_at t n)
taper_rounds t n long = rounds (rounds_up (is_inner t) (is_negative t.taper)) (2 * unsigned_abs t.taper * n) (whole_length t) (omega (arith, long))

-- it is no more than the whole
taper_within : (t : ThreadCycle) (n : ℕ) → 1 ≤ whole_length t → n ≤ whole_length t → taper_at t n ≤ 2 * unsigned_abs t.taper
taper_within t n long within =
    share_within (rounds_up (is_inner t) (is_negative t.taper)) (2 * unsigned_abs t.taper) n (whole_length t) (taper_at t n) (omega (arith, long)) within (taper_rounds t n long)

-- a share of all parts is no less than the whole
share_full : (up : Bool) (whole all share : ℕ) → 0 < all → Rounds up (whole * all) all share → whole ≤ share
share_full up whole all share some is = elim (cases_lt share whole) [
  | inl less ↦ (let scaled : suc share * all ≤ whole * all = mul-le-mul_right all less in
      absurd (bound up is scaled))
  | inr enough ↦ enough
]
  where
    bound : (up : Bool) → Rounds up (whole * all) all share → suc share * all ≤ whole * all → ⊥
    bound true r scaled = let low = r.0 in omega (arith, low, scaled, some)
    bound false r scaled = let high = r.1 in omega (arith, high, scaled, some)

-- at the start's Z it is the whole
pub taper_full : (t : ThreadCycle) → 1 ≤ whole_length t → taper_at t (whole_length t) ≡ 2 * unsigned_abs t.taper
taper_full t long =
    let least = share_full (rounds_up (is_inner t) (is_negative t.taper)) (2 * unsigned_abs t.taper) (whole_length t) (taper_at t (whole_length t)) (omega (arith, long)) (taper_rounds t (whole_length t) long) in
    let most = taper_within t (whole_length t) long (omega arith) in
    omega (arith, least, most)

-- the whole taper, by its sign and size
pub whole_taper : (t : ThreadCycle) (x : ℤ) → moved (is_negative t.taper) x (2 * unsigned_abs t.taper) ≡ (x +ℤ t.taper +ℤ t.taper)
whole_taper t x = go (is_negative t.taper) (twice t.taper)
  where
    go : (s : Bool) → (t.taper +ℤ t.taper) ≡ with_sign s (2 * unsigned_abs t.taper) → moved s x (2 * unsigned_abs t.taper) ≡ (x +ℤ t.taper +ℤ t.taper)
    go true is = omega (arith, ints, is)
    go false is = omega (arith, ints, is)

-- a pass lies between its end and the whole taper
pub between_ends : (t : ThreadCycle) (d n : ℕ) → 1 ≤ whole_length t → n ≤ whole_length t → IsBetween (end_of t d).x (x_before t d n) ((end_of t d).x +ℤ t.taper +ℤ t.taper)
between_ends t d n long within =
    subst (λ x. IsBetween (end_of t d).x (x_before t d n) x) (whole_taper t (end_of t d).x)
    (between_from (is_negative t.taper) (end_of t d).x (taper_at t n) (2 * unsigned_abs t.taper) (taper_within t n long within))

-- it is on its taper's line, less than one increment off it to the free side
pub on_taper : (t : ThreadCycle) (d n : ℕ) → 1 ≤ whole_length t → n ≤ whole_length t → IsOnTaper t d n
on_taper t d n long within = (sides.0, sides.1, between_ends t d n long within)
  where
    falls : Bool
    falls = is_negative t.taper

    ideal : pos n *ℤ (t.taper +ℤ t.taper) ≡ with_sign falls (2 * unsigned_abs t.taper * n)
    ideal = *ℤ_comm (pos n) (t.taper +ℤ t.taper) ∙ ap (λ a. a *ℤ pos n) (twice t.taper) ∙ sign_times falls (2 * unsigned_abs t.taper) n

    there : pos (whole_length t) *ℤ (x_before t d n -ℤ (end_of t d).x) ≡ with_sign falls (taper_at t n * whole_length t)
    there =
        *ℤ_comm (pos (whole_length t)) (x_before t d n -ℤ (end_of t d).x)
        ∙ ap (λ a. a *ℤ pos (whole_length t)) (moved_less falls (end_of t d).x (taper_at t n))
        ∙ sign_times falls (taper_at t n) (whole_length t)

    sides : IsOffRoot t (x_before t d n -ℤ (end_of t d).x) n
        × (distance (pos (whole_length t) *ℤ (x_before t d n -ℤ (end_of t d).x)) (pos n *ℤ (t.taper +ℤ t.taper)) < whole_length t)
    sides = rw (ideal, there) (on_side (is_inner t) falls (2 * unsigned_abs t.taper * n) (whole_length t) (taper_at t n) (taper_rounds t n long))
