-- The test of the tolerance, in squares, says what the law of arcs says of lengths: the end is
-- 0.010 mm from the circle at most. The law `arcs_end_on_their_circle` (src/circle.rt) rests on it.
-- The tolerance is 20, so 400 below is its square and 1,600 four times that.
use Rattle.std.proofs.Common.{◌≡◌, ℕ, zero, suc, ◌+◌, ◌-◌, ◌*◌, ◌<◌, ◌≤◌, max, min, Bool, true, false, nat_lt, nat_le, subst, refl, ap, arith, ℤ}
use Rattle.std.proofs.Math.Nat.{mul-le-mul_left}
use Rattle.std.proofs.lemmas.Bool.Decides.{nat_tests}
use Rattle.nc_number.specs.declared.point.Point.{Point}
use Rattle.nc_number.proofs.Roots.{root_le}
use Rattle.nc_moves.specs.declared.motion.Centre.TheVariants.{Offset}
use Rattle.motion_track.specs.Circle.{is_past_tolerance, misses}
use Rattle.motion_track.specs.Tolerance.{Reaches, IsAtMostFarther, EndsOnCircle}

-- a square is not negative: 4 S n ≤ (S + n)², where S is n + g
mean : (S n g : ℕ) → S ≡ n + g → 4 * S * n ≤ (S + n) * (S + n)
mean S n g e = rw e (omega arith)

-- the whole root of a number: the greatest whole number whose square is no more
root_of : (n : ℕ) → (r : ℕ) × (r * r ≤ n) × (n < (r + 1) * (r + 1))
root_of zero = (0, omega arith, omega arith)
root_of (suc n) = next (root_of n)
  where
    next : (r : ℕ) × (r * r ≤ n) × (n < (r + 1) * (r + 1)) → (r : ℕ) × (r * r ≤ suc n) × (suc n < (r + 1) * (r + 1))
    next (r, low, high) = go (nat_lt (suc n) ((r + 1) * (r + 1))) refl
      where
        go : (b : Bool) → nat_lt (suc n) ((r + 1) * (r + 1)) ≡ b → (r : ℕ) × (r * r ≤ suc n) × (suc n < (r + 1) * (r + 1))
        go true e = (r, omega arith, grind (arith, nat_tests))
        go false e =
            let reached : (r + 1) * (r + 1) ≤ suc n = grind (arith, nat_tests) in
            (r + 1, reached, omega (arith, high))

-- what reaches the farther place reaches the nearer when 20 is added
nearer_reached : (near far : ℕ) → near ≤ far → IsAtMostFarther near far
nearer_reached near far le p q reaches =
    let scaled : q * q * near ≤ q * q * far = mul-le-mul_left (q * q) le in
    omega (arith, scaled)

-- where the farther place is farther by no more than the tolerance, what reaches the nearer reaches
-- it when 20 is added
farther_reached : (near far e : ℕ) → far ≤ near + 400 + e → e * e ≤ 1600 * near → IsAtMostFarther far near
farther_reached near far e le square p q reaches =
    let scaled : q * q * far ≤ q * q * (near + 400 + e) = mul-le-mul_left (q * q) le in
    let squares : (q * q) * (q * q) * (e * e) ≤ (q * q) * (q * q) * (1600 * near) = mul-le-mul_left ((q * q) * (q * q)) square in
    let reached : (1600 * q * q) * (q * q * near) ≤ (1600 * q * q) * (p * p) = mul-le-mul_left (1600 * q * q) reaches in
    let roots : q * q * e ≤ 40 * p * q = root_le (q * q * e) (40 * p * q) (omega (arith, squares, reached)) in
    omega (arith, scaled, roots, reaches)

-- where the farther place is farther by much, the length (s² + near) / 2 s reaches the nearer
-- place, s being the first whole number past its root, and does not reach the farther when 20 is
-- added
missed_by_much : (near e s g : ℕ) → s * s ≡ near + g → 1 ≤ g → g + 1 ≤ 2 * s → 40 * s + 1 ≤ e → IsAtMostFarther (near + 400 + e) near → ⊥
missed_by_much near e s g square some small much reaches =
    let by_near : s * s * near ≡ (near + g) * near = ap (λ t. t * near) square in
    let by_e : s * s * e ≡ (near + g) * e = ap (λ t. t * e) square in
    let hit : Reaches (near + g + near) (2 * s) near = omega (arith, by_near, mean (near + g) near g refl) in
    let bad = reaches (near + g + near) (2 * s) hit in
    let near_e : near * (40 * s + 1) ≤ near * e = mul-le-mul_left near much in
    let g_e : g * (40 * s + 1) ≤ g * e = mul-le-mul_left g much in
    let g_s : g * (g + 1) ≤ g * (2 * s) = mul-le-mul_left g small in
    omega (arith, bad, by_near, by_e, square, near_e, g_e, g_s)

-- where the farther place is farther by little, the length (e² + 1600 near) / 80 e reaches the
-- nearer place, and does not reach the farther when 20 is added
missed_by_little : (near e r E : ℕ) → e * e ≡ 1600 * near + E → 1 ≤ E → r * r ≤ near → 40 * r ≤ e → e ≤ 40 * (r + 1) → IsAtMostFarther (near + 400 + e) near → ⊥
missed_by_little near e r E square some root low high reaches =
    let by_near : e * e * near ≡ (1600 * near + E) * near = ap (λ t. t * near) square in
    let by_e : e * e * e ≡ (1600 * near + E) * e = ap (λ t. t * e) square in
    let hit : Reaches (1600 * near + E + 1600 * near) (80 * e) near = omega (arith, by_near, mean (1600 * near + E) (1600 * near) E refl) in
    let bad = reaches (1600 * near + E + 1600 * near) (80 * e) hit in
    let e_high : e * e ≤ e * (40 * (r + 1)) = mul-le-mul_left e high in
    let r_high : r * e ≤ r * (40 * (r + 1)) = mul-le-mul_left r high in
    let little : E ≤ 80 * e = omega (arith, square, root, low, e_high, r_high) in
    let E_e : E * E ≤ E * (80 * e) = mul-le-mul_left E little in
    let e_E : e * 1 ≤ e * E = mul-le-mul_left e some in
    omega (arith, bad, by_near, by_e, square, E_e, e_E, little)

-- not every length that reaches the nearer place reaches, with 20 added, one that is farther by
-- more than the tolerance
farther_missed : (near e : ℕ) → 1600 * near < e * e → IsAtMostFarther (near + 400 + e) near → ⊥
farther_missed near e past reaches = by (root_of near)
  where
    by : (r : ℕ) × (r * r ≤ near) × (near < (r + 1) * (r + 1)) → ⊥
    by (r, low, high) = go (nat_lt (40 * (r + 1)) e) refl
      where
        go : (b : Bool) → nat_lt (40 * (r + 1)) e ≡ b → ⊥
        go true t =
            let much : 40 * (r + 1) + 1 ≤ e = grind (arith, nat_tests) in
            missed_by_much near e (r + 1) ((r + 1) * (r + 1) - near) (omega (arith, high)) (omega (arith, high)) (omega (arith, low)) much reaches
        go false t =
            let little : e ≤ 40 * (r + 1) = grind (arith, nat_tests) in
            let root : 40 * r ≤ e = root_le (40 * r) e (omega (arith, low, past)) in
            missed_by_little near e r (e * e - 1600 * near) (omega (arith, past)) (omega (arith, past)) low root little reaches

-- if the test does not say `past`, what reaches the nearer place reaches the farther when 20 is
-- added
not_past : (near far : ℕ) → is_past_tolerance far near ≡ false → IsAtMostFarther far near
not_past near far taken = go (nat_lt (near + 400) far) (nat_lt (1600 * near) ((far - (near + 400)) * (far - (near + 400)))) refl refl
  where
    go : (b c : Bool) → nat_lt (near + 400) far ≡ b → nat_lt (1600 * near) ((far - (near + 400)) * (far - (near + 400))) ≡ c → IsAtMostFarther far near
    go false c eb ec = farther_reached near far 0 (grind (arith, nat_tests)) (omega arith)
    go true false eb ec = farther_reached near far (far - (near + 400)) (omega arith) (grind (arith, nat_tests))
    go true true eb ec = absurd (let wrong = rw (eb, ec) at taken in cc)

-- if the test says `past`, not all that reaches the nearer place reaches the farther when 20 is
-- added
past : (near far : ℕ) → is_past_tolerance far near ≡ true → IsAtMostFarther far near → ⊥
past near far refused reaches = go (nat_lt (near + 400) far) (nat_lt (1600 * near) ((far - (near + 400)) * (far - (near + 400)))) refl refl
  where
    go : (b c : Bool) → nat_lt (near + 400) far ≡ b → nat_lt (1600 * near) ((far - (near + 400)) * (far - (near + 400))) ≡ c → ⊥
    go false c eb ec = let wrong = rw eb at refused in cc
    go true false eb ec = let wrong = rw (eb, ec) at refused in cc
    go true true eb ec =
        let e : ℕ = far - (near + 400) in
        let behind : near + 400 < far = grind (arith, nat_tests) in
        let far_is : far ≡ near + 400 + e = omega arith in
        let square : 1600 * near < e * e = grind (arith, nat_tests) in
        farther_missed near e square (subst (λ f. IsAtMostFarther f near) far_is reaches)

-- if the test does not say `past` of two places, what reaches either reaches the other when 20 is
-- added
pair_within : (a b : ℕ) → is_past_tolerance (max a b) (min a b) ≡ false → IsAtMostFarther b a × IsAtMostFarther a b
pair_within a b taken = go (nat_le a b) refl
  where
    go : (t : Bool) → nat_le a b ≡ t → IsAtMostFarther b a × IsAtMostFarther a b
    go true e =
        let le : a ≤ b = grind (arith, nat_tests) in
        let larger : max a b ≡ b = omega arith in
        let smaller : min a b ≡ a = omega arith in
        (not_past a b (rw (larger, smaller) at taken), nearer_reached a b le)
    go false e =
        let le : b ≤ a = grind (arith, nat_tests) in
        let larger : max a b ≡ a = omega arith in
        let smaller : min a b ≡ b = omega arith in
        (nearer_reached b a le, not_past b a (rw (larger, smaller) at taken))

-- if the test says `past` of two places, it can't be that what reaches either reaches the other
-- when 20 is added
pair_beyond : (a b : ℕ) → is_past_tolerance (max a b) (min a b) ≡ true → IsAtMostFarther b a × IsAtMostFarther a b → ⊥
pair_beyond a b refused ends = go (nat_le a b) refl
  where
    go : (t : Bool) → nat_le a b ≡ t → ⊥
    go true e =
        let le : a ≤ b = grind (arith, nat_tests) in
        let larger : max a b ≡ b = omega arith in
        let smaller : min a b ≡ a = omega arith in
        past a b (rw (larger, smaller) at refused) ends.0
    go false e =
        let le : b ≤ a = grind (arith, nat_tests) in
        let larger : max a b ≡ a = omega arith in
        let smaller : min a b ≡ b = omega arith in
        past b a (rw (larger, smaller) at refused) ends.1

-- an arc that is allowed ends on its circle
pub within : (at to : Point) (i k : ℤ) → misses at to (Offset i k) ≡ false → EndsOnCircle at to i k
within at to i k taken = pair_within _ _ taken

-- an arc that is refused does not end on its circle
pub beyond : (at to : Point) (i k : ℤ) → misses at to (Offset i k) ≡ true → ¬ EndsOnCircle at to i k
beyond at to i k refused ends = pair_beyond _ _ refused ends
