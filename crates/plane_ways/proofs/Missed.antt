-- A place that is stepped to off another, and rounded, misses where the step leads by little: its
-- height above a line is that of the step within 0.002 mm.
use Rattle.std.proofs.Common.{◌≡◌, ℕ, suc, ◌+◌, ◌-◌, ◌*◌, ◌<◌, ◌≤◌, false, ℤ, pos, negsuc, neg_ℤ, ◌+ℤ◌, ◌*ℤ◌, ◌≤ℤ◌, refl, sym, subst, ◌∙◌, ap, arith, unsigned_abs, inl, inr}
use Rattle.std.specs.Int.{div_ceil, is_negative}
use Rattle.std.proofs.lemmas.Int.{ints, by_lt_z}
use Rattle.std.proofs.lemmas.Bool.{cases_lt}
use Rattle.std.proofs.lemmas.Grind.{div_ceil_times}
use Rattle.std.proofs.Math.Nat.{mul-le-mul, mul-le-mul_left}
use Rattle.plane_ways.specs.Steps.{from_zero}
use Rattle.plane_ways.proofs.Rings.{times_sum, times_neg, times_times, scaled_le}
use Rattle.plane_ways.proofs.Strips.{swapped, size_of_sum}

-- what is at most another, both taken n times
pub cancel : (n a b : ℕ) → 0 < n → n * a ≤ n * b → a ≤ b
cancel n a b some le = elim (cases_lt b a) [
  | inl more ↦ (let s : n * suc b ≤ n * a = mul-le-mul_left n more in absurd (omega (arith, s, le, some)))
  | inr enough ↦ enough
]

-- a quotient rounded away from 0, times its divisor, misses the dividend by the divisor at most
pub record Missed (n x : ℤ) (d most : ℕ) : Type 0 where
  by : ℤ
  is : (pos d *ℤ x) ≡ (n +ℤ by)
  small : unsigned_abs by ≤ most

positive : (m d : ℕ) → from_zero (pos m) d ≡ pos (div_ceil m d)
positive m d = let e : is_negative (pos m) ≡ false = grind (arith, ints) in rw e refl

rounded : (n : ℤ) (d : ℕ) → 0 < d → Missed n (from_zero n d) d d
rounded (pos m) d some = let b = div_ceil_times m d some in subst (λ (x : ℤ). Missed (pos m) x d d) (sym (positive m d)) (go m (div_ceil m d) b.0 b.1)
  where
    go : (m c : ℕ) → m ≤ c * d → c * d < m + d → Missed (pos m) (pos c) d d
    go m c low high = record { by = pos (c * d - m); is = omega (arith, ints, low, high); small = omega (arith, low, high) }
rounded (negsuc m) d some = let b = div_ceil_times (suc m) d some in go (suc m) (div_ceil (suc m) d) b.0 b.1
  where
    go : (m c : ℕ) → m ≤ c * d → c * d < m + d → Missed (neg_ℤ (pos m)) (neg_ℤ (pos c)) d d
    go m c low high = let n = times_neg (pos d) (pos c) in record { by = neg_ℤ (pos (c * d - m)); is = omega (arith, ints, low, high, n); small = omega (arith, ints, low, high) }

-- across: the step's whole counts
pub across_missed : (n : ℤ) (d : ℕ) → 0 < d → Missed n (from_zero n d) d d
across_missed n d some = rounded n d some

-- along: twice the counts of half the step
pub along_missed : (n : ℤ) (d : ℕ) → 0 < d → Missed n (pos 2 *ℤ from_zero n (2 * d)) d (2 * d)
along_missed n d some =
    let r = rounded n (2 * d) (omega arith) in
    let is : (pos d *ℤ (pos 2 *ℤ from_zero n (2 * d))) ≡ (pos (2 * d) *ℤ from_zero n (2 * d)) = times_times (pos d) (pos 2) (from_zero n (2 * d)) ∙ ap (λ t. t *ℤ from_zero n (2 * d)) (twice d) in
    record { by = r.by; is = is ∙ r.is; small = r.small }
  where
    twice : (d : ℕ) → (pos d *ℤ pos 2) ≡ pos (2 * d)
    twice d = omega (arith, ints)

-- the height of a step: d times it is r times that of the way, but for three counts
pub height_missed : (s t b c x y : ℤ) (d r L : ℕ) → Missed (pos r *ℤ b) x d d → Missed (pos r *ℤ c) y d (2 * d)
    → unsigned_abs s ≤ L → unsigned_abs t ≤ L → Missed (pos r *ℤ (s *ℤ b +ℤ t *ℤ c)) (s *ℤ x +ℤ t *ℤ y) d (3 * (d * L))
height_missed s t b c x y d r L m n near_s near_t =
    record { by = s *ℤ m.by +ℤ t *ℤ n.by; is = is; small = small }
  where
    apart : (w u v a e b f g : ℤ) → w ≡ (u +ℤ v) → u ≡ (a +ℤ e) → v ≡ (b +ℤ f) → g ≡ (a +ℤ b) → w ≡ (g +ℤ (e +ℤ f))
    apart w u v a e b f g w_is u_is v_is g_is = omega (arith, ints)

    is : (pos d *ℤ (s *ℤ x +ℤ t *ℤ y)) ≡ (pos r *ℤ (s *ℤ b +ℤ t *ℤ c) +ℤ (s *ℤ m.by +ℤ t *ℤ n.by))
    is =
        let whole = times_sum (pos d) (s *ℤ x) (t *ℤ y) in
        let sx = swapped s x d in
        let ty = swapped t y d in
        let sm = ap (λ v. s *ℤ v) m.is in
        let tn = ap (λ v. t *ℤ v) n.is in
        let ss = times_sum s (pos r *ℤ b) m.by in
        let ts = times_sum t (pos r *ℤ c) n.by in
        let sb = swapped s b r in
        let tc = swapped t c r in
        let back = times_sum (pos r) (s *ℤ b) (t *ℤ c) in
        apart (pos d *ℤ (s *ℤ x +ℤ t *ℤ y)) (pos d *ℤ (s *ℤ x)) (pos d *ℤ (t *ℤ y)) (s *ℤ (pos r *ℤ b)) (s *ℤ m.by) (t *ℤ (pos r *ℤ c)) (t *ℤ n.by) (pos r *ℤ (s *ℤ b +ℤ t *ℤ c))
        whole (sym sx ∙ sm ∙ ss) (sym ty ∙ tn ∙ ts) (back ∙ rw (sb, tc) refl)

    small : unsigned_abs (s *ℤ m.by +ℤ t *ℤ n.by) ≤ 3 * (d * L)
    small =
        let size = size_of_sum s t m.by n.by in
        let one : unsigned_abs s * unsigned_abs m.by ≤ L * d = mul-le-mul near_s m.small in
        let two : unsigned_abs t * unsigned_abs n.by ≤ L * (2 * d) = mul-le-mul near_t n.small in
        omega (arith, size, one, two)

-- a height h is that of a place beside a line of square D, at the radius within 0.002 mm
pub record Beside (r D : ℕ) (h : ℤ) : Type 0 where
  pub is : h ≡ pos (unsigned_abs h)
  pub some : 0 < unsigned_abs h
  pub far : (r - 4) * (r - 4) * D ≤ unsigned_abs h * unsigned_abs h
  pub near : unsigned_abs h * unsigned_abs h ≤ (r + 4) * (r + 4) * D

-- the least and the most of a height, N times
at_least : (k L N : ℕ) (h b : ℤ) → Missed (pos (k + 4) *ℤ b) h N (3 * (N * L)) → pos (N * L) ≤ℤ b → pos (N * ((k + 1) * L)) ≤ℤ (pos N *ℤ h)
at_least k L N h b m low =
    let s = scaled_le (k + 4) (pos (N * L)) b low in
    let flat : (pos (k + 4) *ℤ pos (N * L)) ≡ pos (k * (N * L) + 4 * (N * L)) = omega (arith, ints) in
    go (pos (k + 4) *ℤ b) (pos N *ℤ h) m.by (pos (k + 4) *ℤ pos (N * L)) s m.is m.small flat
  where
    go : (rb nh by low : ℤ) → low ≤ℤ rb → nh ≡ (rb +ℤ by) → unsigned_abs by ≤ 3 * (N * L) → low ≡ pos (k * (N * L) + 4 * (N * L)) → pos (N * ((k + 1) * L)) ≤ℤ nh
    go rb nh by low s e small flat = omega (arith, ints, s, e, small, flat)

at_most : (k L N : ℕ) (h b : ℤ) → Missed (pos (k + 4) *ℤ b) h N (3 * (N * L)) → b ≤ℤ pos (N * (L + 2)) → (pos N *ℤ h) ≤ℤ pos (N * ((k + 4) * (L + 2) + 3 * L))
at_most k L N h b m high =
    let s = scaled_le (k + 4) b (pos (N * (L + 2))) high in
    let flat : (pos (k + 4) *ℤ pos (N * (L + 2))) ≡ pos ((k + 4) * (N * (L + 2))) = omega (arith, ints) in
    go (pos (k + 4) *ℤ b) (pos N *ℤ h) m.by (pos (k + 4) *ℤ pos (N * (L + 2))) s m.is m.small flat
  where
    go : (rb nh by top : ℤ) → rb ≤ℤ top → nh ≡ (rb +ℤ by) → unsigned_abs by ≤ 3 * (N * L) → top ≡ pos ((k + 4) * (N * (L + 2))) → nh ≤ℤ pos (N * ((k + 4) * (L + 2) + 3 * L))
    go rb nh by top s e small flat = omega (arith, ints, s, e, small, flat)

-- a number whose multiple is positive is positive
positive_part : (n m : ℕ) (h : ℤ) → 0 < m → pos m ≤ℤ (pos n *ℤ h) → (h ≡ pos (unsigned_abs h)) × (0 < unsigned_abs h)
positive_part n m h some le = by_lt_z (pos 0) h (λ less. (omega (arith, ints, less), omega (arith, ints, less)))
    (λ more. let s = scaled_le n h (pos 0) more in absurd (omega (arith, ints, s, le, some)))

-- the bounds of a height, as squares
squares_low : (k L D h : ℕ) → (k + 1) * L ≤ h → k ≤ L → D < (L + 1) * (L + 1) → k * k * D ≤ h * h
squares_low k L D h least long next =
    let a : k * (L + 1) ≤ h = omega (arith, least, long) in
    let b : k * (L + 1) * (k * (L + 1)) ≤ h * h = mul-le-mul a a in
    let c : k * k * D ≤ k * k * ((L + 1) * (L + 1)) = mul-le-mul_left (k * k) (omega (arith, next)) in
    omega (arith, b, c)

squares_high : (k L D h : ℕ) → h ≤ (k + 4) * (L + 2) + 3 * L → 2 * (k + 4) ≤ L → L * L ≤ D → h * h ≤ (k + 8) * (k + 8) * D
squares_high k L D h most long square =
    let a : h ≤ (k + 8) * L = omega (arith, most, long) in
    let b : h * h ≤ (k + 8) * L * ((k + 8) * L) = mul-le-mul a a in
    let c : (k + 8) * (k + 8) * (L * L) ≤ (k + 8) * (k + 8) * D = mul-le-mul_left ((k + 8) * (k + 8)) square in
    omega (arith, b, c)

-- a height that is about r times the length
pub about : (r L D N : ℕ) (h b : ℤ) → Missed (pos r *ℤ b) h N (3 * (N * L)) → pos (N * L) ≤ℤ b → b ≤ℤ pos (N * (L + 2))
    → 0 < N → 4 ≤ r → 2 * r ≤ L → L * L ≤ D → D < (L + 1) * (L + 1) → Beside r D h
about r L D N h b m low high some wide long square next = go (r - 4) (omega arith)
  where
    go : (k : ℕ) → r ≡ k + 4 → Beside r D h
    go k r_is =
        let m : Missed (pos (k + 4) *ℤ b) h N (3 * (N * L)) = subst (λ (t : ℕ). Missed (pos t *ℤ b) h N (3 * (N * L))) r_is m in
        let least = at_least k L N h b m low in
        let most = at_most k L N h b m high in
        let length_some : 1 ≤ L = omega (arith, long, wide) in
        let one_more : 1 ≤ k + 1 = omega arith in
        let area : 1 * 1 ≤ (k + 1) * L = mul-le-mul one_more length_some in
        let area_some : 1 ≤ (k + 1) * L = omega (arith, area) in
        let one : 1 * 1 ≤ N * ((k + 1) * L) = mul-le-mul some area_some in
        let part = positive_part N (N * ((k + 1) * L)) h (omega (arith, one)) least in
        let low_size : N * ((k + 1) * L) ≤ N * unsigned_abs h = sized N (N * ((k + 1) * L)) h part.0 least in
        let high_size : N * unsigned_abs h ≤ N * ((k + 4) * (L + 2) + 3 * L) = sized_most N (N * ((k + 4) * (L + 2) + 3 * L)) h part.0 most in
        let at_low = cancel N ((k + 1) * L) (unsigned_abs h) some low_size in
        let at_high = cancel N (unsigned_abs h) ((k + 4) * (L + 2) + 3 * L) some high_size in
        let less : r - 4 ≡ k = omega arith in
        let more : r + 4 ≡ k + 8 = omega arith in
        record {
          is = part.0;
          some = part.1;
          far = rw less (squares_low k L D (unsigned_abs h) at_low (omega (arith, long, r_is)) next);
          near = rw more (squares_high k L D (unsigned_abs h) at_high (omega (arith, long, r_is)) square);
        }
      where
        sized : (n m : ℕ) (h : ℤ) → h ≡ pos (unsigned_abs h) → pos m ≤ℤ (pos n *ℤ h) → m ≤ n * unsigned_abs h
        sized n m h is le = let l : pos m ≤ℤ (pos n *ℤ pos (unsigned_abs h)) = subst (λ (t : ℤ). pos m ≤ℤ (pos n *ℤ t)) is le in omega (arith, ints, l)

        sized_most : (n m : ℕ) (h : ℤ) → h ≡ pos (unsigned_abs h) → (pos n *ℤ h) ≤ℤ pos m → n * unsigned_abs h ≤ m
        sized_most n m h is le = let l : (pos n *ℤ pos (unsigned_abs h)) ≤ℤ pos m = subst (λ (t : ℤ). (pos n *ℤ t) ≤ℤ pos m) is le in omega (arith, ints, l)
