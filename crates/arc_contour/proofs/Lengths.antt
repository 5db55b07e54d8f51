-- Lengths in parts of a count, d parts to a count, and squares of ways.
use Rattle.std.proofs.Common.{◌≡◌, ℕ, zero, suc, ◌+◌, ◌*◌, ◌≤◌, true, false, ℤ, pos, ◌+ℤ◌, ◌*ℤ◌, ◌≤ℤ◌, ◌<ℤ◌, refl, arith}
use Rattle.std.specs.Prelude.{int_lt, int_le}
use Rattle.std.proofs.lemmas.Int.{ints, clamps, by_lt_z}
use Rattle.std.proofs.Math.IntN.{suc_ℤ-*ℤ, zero-*ℤ}
use Rattle.std.proofs.Math.Nat.{mul-le-mul}
use Rattle.nc_number.specs.Distances.{distance}
use Rattle.arc_contour.specs.declared.way.Way.{Way}
use Rattle.arc_contour.specs.declared.way.Way.TheVariants.{Along, Across}
use Rattle.arc_contour.specs.Edges.{beyond, across_square, along_square, square_of}

-- tests of the order of whole numbers, as facts

-- if a is not at most b, b is less
pub not_le_is : (a b : ℤ) → int_le a b ≡ false → b <ℤ a
not_le_is a b e = grind (arith, ints)

-- if a is not less than b, b is at most a
pub not_lt_is : (a b : ℤ) → int_lt a b ≡ false → b ≤ℤ a
not_lt_is a b e = grind (arith, ints)

-- if a is at most b, the test of `at most` says so
pub is_le : (a b : ℤ) → a ≤ℤ b → int_le a b ≡ true
is_le a b e = grind (arith, ints)

-- if a is less than b, the test of `less` says so
pub is_lt : (a b : ℤ) → a <ℤ b → int_lt a b ≡ true
is_lt a b less = grind (arith, ints)

-- if b is at most a, the test whether a is less fails
pub is_not_lt : (a b : ℤ) → b ≤ℤ a → int_lt a b ≡ false
is_not_lt a b less = grind (arith, ints)

-- lengths in parts

-- one part more to a count is the length once more
one_more : (d : ℕ) (z : ℤ) → pos (suc d) *ℤ z ≡ (pos d *ℤ z +ℤ z)
one_more d z = suc_ℤ-*ℤ (pos d) z

-- in parts, lengths keep their order
pub scaled_le : (d : ℕ) (a b : ℤ) → a ≤ℤ b → (pos d *ℤ a) ≤ℤ (pos d *ℤ b)
scaled_le zero a b le = rw (zero-*ℤ a, zero-*ℤ b) (omega (arith, ints))
scaled_le (suc d) a b le =
    let rest = scaled_le d a b le in
    rw (one_more d a, one_more d b) (omega (arith, ints))

-- a sum in parts is the sum of the lengths in parts
pub scaled_add : (d : ℕ) (a b : ℤ) → (pos d *ℤ (a +ℤ b)) ≡ (pos d *ℤ a +ℤ pos d *ℤ b)
scaled_add zero a b = rw (zero-*ℤ (a +ℤ b), zero-*ℤ a, zero-*ℤ b) refl
scaled_add (suc d) a b =
    let rest = scaled_add d a b in
    rw (one_more d (a +ℤ b), one_more d a, one_more d b) (omega (arith, ints))

-- a length and n counts more, in parts
pub scaled_more : (d : ℕ) (a b : ℤ) (n : ℕ) → b ≡ (a +ℤ pos n) → (pos d *ℤ b) ≡ (pos d *ℤ a +ℤ pos (d * n))
scaled_more d a b n e = rw e (scaled_add d a (pos n))

-- the distance of lengths in parts
pub scaled_distance : (d : ℕ) (a b : ℤ) → a ≤ℤ b → distance (pos d *ℤ b) (pos d *ℤ a) ≡ d * distance b a
scaled_distance d a b le =
    let more = scaled_more d a b (distance b a) (omega (arith, ints)) in
    omega (arith, ints, more)

-- the same the other way
pub scaled_distance_back : (d : ℕ) (a b : ℤ) → a ≤ℤ b → distance (pos d *ℤ a) (pos d *ℤ b) ≡ d * distance a b
scaled_distance_back d a b le =
    let more = scaled_more d a b (distance a b) (omega (arith, ints)) in
    omega (arith, ints, more)

-- how far a length lies beyond another, in parts, if it is at least so far on
pub beyond_more : (d : ℕ) (x c at : ℤ) → (pos d *ℤ x) ≤ℤ at → d * beyond x c ≤ beyond at (pos d *ℤ c)
beyond_more d x c at le = go (beyond x c) refl
  where
    go : (n : ℕ) → beyond x c ≡ n → d * n ≤ beyond at (pos d *ℤ c)
    go zero e = omega arith
    go (suc n) e =
        let is : x ≡ (c +ℤ pos (suc n)) = omega (arith, ints, clamps) in
        let more = scaled_more d c x (suc n) is in
        omega (arith, ints, clamps, more, le)

-- how far a length lies before another, in parts, if it is at least so far on
pub beyond_less : (d : ℕ) (x c at : ℤ) → (pos d *ℤ x) ≤ℤ at → beyond (pos d *ℤ c) at ≤ d * beyond c x
beyond_less d x c at le =
    let near : c ≤ℤ (x +ℤ pos (beyond c x)) = omega (arith, ints, clamps) in
    let scaled = scaled_le d c (x +ℤ pos (beyond c x)) near in
    let more = scaled_more d x (x +ℤ pos (beyond c x)) (beyond c x) refl in
    omega (arith, ints, clamps, scaled, more, le)

-- squares of ways

-- a longer length across has a larger square
pub across_more : (way : Way) (a b : ℕ) → a ≤ b → across_square way a ≤ across_square way b
across_more Along a b le = mul-le-mul le le
across_more Across a b le = let squares : a * a ≤ b * b = mul-le-mul le le in omega (arith, squares)

-- a longer length along has a larger square
pub along_more : (way : Way) (m n : ℕ) → m ≤ n → along_square way m ≤ along_square way n
along_more Along m n le = let squares : m * m ≤ n * n = mul-le-mul le le in omega (arith, squares)
along_more Across m n le = mul-le-mul le le

-- a way that is longer across and along has a larger square
pub square_more : (way : Way) (a b m n : ℕ) → a ≤ b → m ≤ n → square_of way a m ≤ square_of way b n
square_more way a b m n across along =
    let first = across_more way a b across in
    let second = along_more way m n along in
    omega (arith, first, second)

-- the square of a way in parts
pub square_parts : (way : Way) (d a m : ℕ) → square_of way (d * a) (d * m) ≡ d * d * square_of way a m
square_parts Along d a m = omega arith
square_parts Across d a m = omega arith

-- the square of a distance is that of how far either lies beyond the other
distance_square : (a c : ℤ) → distance a c * distance a c ≡ beyond a c * beyond a c + beyond c a * beyond c a
distance_square a c = by_lt_z a c
    (λ less.
    let none : beyond a c ≡ 0 = omega (arith, ints, clamps) in
    let all : beyond c a ≡ distance a c = omega (arith, ints, clamps) in
    rw (none, all) (omega arith))
    (λ least.
    let none : beyond c a ≡ 0 = omega (arith, ints, clamps) in
    let all : beyond a c ≡ distance a c = omega (arith, ints, clamps) in
    rw (none, all) (omega arith))

-- the square of a distance in the plane, as that of the ways beyond and before the other point
pub split_square : (way : Way) (ax az cx cz : ℤ) → square_of way (distance ax cx) (distance az cz) ≡ square_of way (beyond ax cx) (beyond az cz) + square_of way (beyond cx ax) (beyond cz az)
split_square Along ax az cx cz =
    let across = distance_square ax cx in
    let along = distance_square az cz in
    omega (arith, across, along)
split_square Across ax az cx cz =
    let across = distance_square ax cx in
    let along = distance_square az cz in
    omega (arith, across, along)
