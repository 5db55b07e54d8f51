-- What a pass and the finish meet at one edge: the room beside an edge is open to greater X and greater
-- Z, in parts too; the end of a pass lies in it; and so does each point of the edge's own move.
use Rattle.std.proofs.Common.{◌≡◌, ℕ, suc, ◌+◌, ◌-◌, ◌*◌, ◌/◌, ◌<◌, ◌≤◌, Bool, true, false, ◌&&◌, ◌||◌, ℤ, pos, ◌+ℤ◌, ◌-ℤ◌, ◌*ℤ◌, ◌≤ℤ◌, ◌<ℤ◌, refl, ap, sym, ◌∙◌, arith, cond, ◌⊎◌, inl, inr, nat_lt}
use Rattle.std.specs.Prelude.{int_lt}
use Rattle.std.specs.Ordering.{int_eq}
use Rattle.std.proofs.lemmas.Int.{ints, clamps}
use Rattle.std.proofs.lemmas.Bool.{cases_lt}
use Rattle.std.proofs.lemmas.Bool.Decides.{Decides-int_eq}
use Rattle.std.proofs.lemmas.Nat.{div-add-mod', mod_below}
use Rattle.std.proofs.Math.Nat.{mul-le-mul_left, mul-le-mul_right}
use Rattle.nc_number.specs.declared.point.Point.{Point}
use Rattle.nc_number.specs.Distances.{distance}
use Rattle.nc_number.proofs.Bools.{both, neither, only_false, not_true}
use Rattle.nc_number.proofs.Integers.{lt_is, le_is}
use Rattle.nc_number.proofs.Roots.{root_squares, root_next}
use Rattle.arc_contour.specs.declared.way.Way.{Way}
use Rattle.arc_contour.specs.declared.way.Way.TheVariants.{Along, Across}
use Rattle.arc_contour.specs.declared.edge.Edge.{Edge}
use Rattle.arc_contour.specs.declared.edge.Edge.TheVariants.{Straight, Curved}
use Rattle.arc_contour.specs.Edges.{beyond, across_square, along_square, square_of, square_between, edge_to}
use Rattle.arc_contour.specs.Inside.{is_below, is_below_straight, is_below_curved, is_out, in_parts, edge_in_parts}
use Rattle.arc_contour.specs.Ends.{within, along_root, line_end, arc_end, edge_end, least_along, most_along, is_passed}
use Rattle.arc_contour.proofs.Lengths.{not_le_is, not_lt_is, is_not_lt, scaled_le, scaled_distance, scaled_distance_back, beyond_more, beyond_less, square_more, square_parts, split_square}

-- a number that is not less is at least the other
pub nat_not_lt_is : (a b : ℕ) → nat_lt a b ≡ false → b ≤ a
nat_not_lt_is a b e = grind arith

-- the test whether a number is less fails if it is at least the other
pub nat_is_not_lt : (a b : ℕ) → b ≤ a → nat_lt a b ≡ false
nat_is_not_lt a b e = grind arith

-- an `or` is false if both sides are
or_no : (a b : Bool) → a ≡ false → b ≡ false → (a || b) ≡ false
or_no a b x y = rw (x, y) refl

-- an `and` is false if one side is
and_no : (a b : Bool) → (a ≡ false) ⊎ (b ≡ false) → (a && b) ≡ false
and_no true b (inl e) = absurd (let wrong : true ≡ false = e in cc)
and_no true b (inr e) = e
and_no false b e = refl

-- an `and` that is false has a side that is
pub no_both : (a b : Bool) → (a && b) ≡ false → (a ≡ false) ⊎ (b ≡ false)
no_both true b e = inr e
no_both false b e = inl refl

-- arcs

-- beside an arc that bulges a point is not left of its start, and not within the circle
bulge_free : (way : Way) (p q c at : Point) (square : ℕ) → p.x ≤ℤ at.x → square ≤ square_of way (beyond at.x c.x) (beyond at.z c.z) → is_below_curved way true p q c square at ≡ false
unfolding is_below_curved
bulge_free way p q c at square right out = or_no _ _ (is_not_lt at.x p.x right) (nat_is_not_lt _ square out)

-- a point that is not below an arc that bulges is not left of its start, and not within the circle
bulge_room : (way : Way) (p q c at : Point) (square : ℕ) → is_below_curved way true p q c square at ≡ false → (p.x ≤ℤ at.x) × (square ≤ square_of way (beyond at.x c.x) (beyond at.z c.z))
unfolding is_below_curved
bulge_room way p q c at square e =
    let parts = neither _ _ e in
    (not_lt_is at.x p.x parts.0, nat_not_lt_is _ square parts.1)

-- beside a hollow arc a point is not left of its start, and right of its end or not out of the circle
hollow_free : (way : Way) (p q c at : Point) (square : ℕ) → p.x ≤ℤ at.x → (q.x ≤ℤ at.x) ⊎ (square_of way (beyond c.x at.x) (beyond c.z at.z) ≤ square) → is_below_curved way false p q c square at ≡ false
unfolding is_below_curved
hollow_free way p q c at square right (inl past) = or_no _ _ (is_not_lt at.x p.x right) (and_no _ _ (inl (is_not_lt at.x q.x past)))
hollow_free way p q c at square right (inr near) = or_no _ _ (is_not_lt at.x p.x right) (and_no _ _ (inr (nat_is_not_lt square _ near)))

-- a point that is not below a hollow arc is not left of its start, and right of its end or not out of
-- the circle
hollow_room : (way : Way) (p q c at : Point) (square : ℕ) → is_below_curved way false p q c square at ≡ false → (p.x ≤ℤ at.x) × ((q.x ≤ℤ at.x) ⊎ (square_of way (beyond c.x at.x) (beyond c.z at.z) ≤ square))
unfolding is_below_curved
hollow_room way p q c at square e = (not_lt_is at.x p.x (neither _ _ e).0, go (no_both _ _ (neither _ _ e).1))
  where
    go : (int_lt at.x q.x ≡ false) ⊎ (is_out way c square at ≡ false) → (q.x ≤ℤ at.x) ⊎ (square_of way (beyond c.x at.x) (beyond c.z at.z) ≤ square)
    go (inl past) = inl (not_lt_is at.x q.x past)
    go (inr near) = inr (nat_not_lt_is square _ near)

-- the room beside an arc is open to greater X and greater Z, in parts
curved_open : (way : Way) (d : ℕ) (bulges : Bool) (p q c free at : Point) (square : ℕ) → is_below_curved way bulges p q c square free ≡ false
    → (pos d *ℤ free.x) ≤ℤ at.x → (pos d *ℤ free.z) ≤ℤ at.z
    → is_below_curved way bulges (in_parts d p) (in_parts d q) (in_parts d c) (d * d * square) at ≡ false
curved_open way d true p q c free at square e right up =
    let room = bulge_room way p q c free square e in
    let begins = scaled_le d p.x free.x room.0 in
    let farther = square_more way _ _ _ _ (beyond_more d free.x c.x at.x right) (beyond_more d free.z c.z at.z up) in
    let parts = square_parts way d (beyond free.x c.x) (beyond free.z c.z) in
    let scaled : d * d * square ≤ d * d * square_of way (beyond free.x c.x) (beyond free.z c.z) = mul-le-mul_left (d * d) room.1 in
    bulge_free way (in_parts d p) (in_parts d q) (in_parts d c) at (d * d * square) (omega (arith, ints, begins, right)) (omega (arith, farther, parts, scaled))
curved_open way d false p q c free at square e right up =
    hollow_free way (in_parts d p) (in_parts d q) (in_parts d c) at (d * d * square) begins (go (hollow_room way p q c free square e).1)
  where
    begins : (pos d *ℤ p.x) ≤ℤ at.x
    begins = let from = scaled_le d p.x free.x (hollow_room way p q c free square e).0 in omega (arith, ints, from, right)

    go : (q.x ≤ℤ free.x) ⊎ (square_of way (beyond c.x free.x) (beyond c.z free.z) ≤ square)
        → ((pos d *ℤ q.x) ≤ℤ at.x) ⊎ (square_of way (beyond (pos d *ℤ c.x) at.x) (beyond (pos d *ℤ c.z) at.z) ≤ d * d * square)
    go (inl past) = inl (let ends = scaled_le d q.x free.x past in omega (arith, ints, ends, right))
    go (inr near) = inr (
        let nearer = square_more way _ _ _ _ (beyond_less d free.x c.x at.x right) (beyond_less d free.z c.z at.z up) in
        let parts = square_parts way d (beyond c.x free.x) (beyond c.z free.z) in
        let scaled : d * d * square_of way (beyond c.x free.x) (beyond c.z free.z) ≤ d * d * square = mul-le-mul_left (d * d) near in
        omega (arith, nearer, parts, scaled)
        )

-- lines

-- no product of the line is past that of the point, so the point is not below
not_below : (p q at : Point) → p.x ≤ℤ q.x → p.x ≤ℤ at.x → distance q.x p.x * distance at.z p.z ≤ distance at.x p.x * distance q.z p.z → is_below_straight p q at ≡ true → ⊥
unfolding is_below_straight
not_below p q at rises right products = go (int_eq p.z q.z)
  where
    across : (at.x -ℤ p.x) ≡ pos (distance at.x p.x)
    across = omega (arith, ints)

    width : (q.x -ℤ p.x) ≡ pos (distance q.x p.x)
    width = omega (arith, ints)

    go : (b : Bool) → cond b (int_lt at.x p.x && int_lt at.x q.x) (int_lt ((at.x -ℤ p.x) *ℤ pos (distance q.z p.z)) ((q.x -ℤ p.x) *ℤ pos (distance at.z p.z))) ≡ true → ⊥
    go true e = let less = lt_is at.x p.x (both _ _ e).0 in omega (arith, ints)
    go false e =
        let less : int_lt (pos (distance at.x p.x) *ℤ pos (distance q.z p.z)) (pos (distance q.x p.x) *ℤ pos (distance at.z p.z)) ≡ true = rw (across, width) at e in
        let past : distance at.x p.x * distance q.z p.z < distance q.x p.x * distance at.z p.z = grind (arith, ints) in
        omega (arith, past, products)

-- the same, as a test that fails
line_free : (p q at : Point) → p.x ≤ℤ q.x → p.x ≤ℤ at.x → distance q.x p.x * distance at.z p.z ≤ distance at.x p.x * distance q.z p.z → is_below_straight p q at ≡ false
line_free p q at rises right products = only_false _ (not_below p q at rises right products)

-- a point that is not below a line, and not left of its start, has products that say so
line_room : (p q at : Point) → p.x ≤ℤ q.x → q.z ≤ℤ at.z → at.z ≤ℤ p.z → p.x ≤ℤ at.x → is_below_straight p q at ≡ false → distance q.x p.x * distance at.z p.z ≤ distance at.x p.x * distance q.z p.z
unfolding is_below_straight
line_room p q at rises low high right = go (int_eq p.z q.z) refl
  where
    across : (at.x -ℤ p.x) ≡ pos (distance at.x p.x)
    across = omega (arith, ints)

    width : (q.x -ℤ p.x) ≡ pos (distance q.x p.x)
    width = omega (arith, ints)

    go : (b : Bool) → int_eq p.z q.z ≡ b → cond b (int_lt at.x p.x && int_lt at.x q.x) (int_lt ((at.x -ℤ p.x) *ℤ pos (distance q.z p.z)) ((q.x -ℤ p.x) *ℤ pos (distance at.z p.z))) ≡ false
        → distance q.x p.x * distance at.z p.z ≤ distance at.x p.x * distance q.z p.z
    go true t e =
        let same = (Decides-int_eq p.z q.z).0 t in
        let none : distance at.z p.z ≡ 0 = omega (arith, ints, same, low, high) in
        rw none (omega arith)
    go false t e =
        let less : int_lt (pos (distance at.x p.x) *ℤ pos (distance q.z p.z)) (pos (distance q.x p.x) *ℤ pos (distance at.z p.z)) ≡ false = rw (across, width) at e in
        let le = not_lt_is (pos (distance at.x p.x * distance q.z p.z)) (pos (distance q.x p.x * distance at.z p.z)) less in
        omega (arith, ints, le)

-- the room beside a line is open to greater X and greater Z, in parts
line_open : (d : ℕ) (p q free at : Point) → p.x ≤ℤ q.x → q.z ≤ℤ free.z → free.z ≤ℤ p.z → p.x ≤ℤ free.x → is_below_straight p q free ≡ false
    → (pos d *ℤ free.x) ≤ℤ at.x → (pos d *ℤ free.z) ≤ℤ at.z → at.z ≤ℤ (pos d *ℤ p.z)
    → is_below_straight (in_parts d p) (in_parts d q) at ≡ false
line_open d p q free at rises low high from e right up held =
    let room = line_room p q free rises low high from e in
    let begins = scaled_le d p.x free.x from in
    let scaled : d * d * (distance q.x p.x * distance free.z p.z) ≤ d * d * (distance free.x p.x * distance q.z p.z) = mul-le-mul_left (d * d) room in
    let width : distance (pos d *ℤ q.x) (pos d *ℤ p.x) ≡ d * distance q.x p.x = scaled_distance d p.x q.x rises in
    let length : distance (pos d *ℤ q.z) (pos d *ℤ p.z) ≡ d * distance q.z p.z = scaled_distance_back d q.z p.z (omega (arith, ints)) in
    let across = scaled_distance d p.x free.x from in
    let along = scaled_distance_back d free.z p.z high in
    let wide : d * distance free.x p.x ≤ distance at.x (pos d *ℤ p.x) = omega (arith, ints, across, right, begins) in
    let deep : distance at.z (pos d *ℤ p.z) ≤ d * distance free.z p.z = omega (arith, ints, along, up, held) in
    let left_part : d * distance q.x p.x * distance at.z (pos d *ℤ p.z) ≤ d * distance q.x p.x * (d * distance free.z p.z) = mul-le-mul_left (d * distance q.x p.x) deep in
    let right_part : d * distance free.x p.x * (d * distance q.z p.z) ≤ distance at.x (pos d *ℤ p.x) * (d * distance q.z p.z) = mul-le-mul_right (d * distance q.z p.z) wide in
    line_free (in_parts d p) (in_parts d q) at (scaled_le d p.x q.x rises) (omega (arith, ints, begins, right))
    (rw (width, length) (omega (arith, scaled, left_part, right_part)))

-- edges

-- the room beside an edge is open to greater X and greater Z, in parts
pub edge_open : (d : ℕ) (p : Point) (edge : Edge) (free at : Point) → p.x ≤ℤ (edge_to edge).x → (edge_to edge).z ≤ℤ free.z → free.z ≤ℤ p.z → p.x ≤ℤ free.x
    → is_below p edge free ≡ false
    → (pos d *ℤ free.x) ≤ℤ at.x → (pos d *ℤ free.z) ≤ℤ at.z → at.z ≤ℤ (pos d *ℤ p.z)
    → is_below (in_parts d p) (edge_in_parts d edge) at ≡ false
edge_open d p (Straight q) free at rises low high from e right up held = line_open d p q free at rises low high from e right up held
edge_open d p (Curved way q c square bulges) free at rises low high from e right up held = curved_open way d bulges p q c free at square e right up

-- the end of a pass

-- a share of a length l, k parts in w of it, is at most l
part_below : (l k w : ℕ) → k ≤ w → 0 < w → l * k / w ≤ l
part_below l k w less some = go (cases_lt l (l * k / w))
  where
    go : (l < l * k / w) ⊎ (l * k / w ≤ l) → l * k / w ≤ l
    go (inr low) = low
    go (inl high) =
        let split = div-add-mod' (l * k) w in
        let scaled : suc l * w ≤ l * k / w * w = mul-le-mul_right w high in
        let far : l * k ≤ l * w = mul-le-mul_left l less in
        absurd (omega (arith, split, scaled, far, some))

-- where a line comes to x, it does not lie above the point, and not past its ends
line_ends : (x : ℤ) (p q : Point) → q.z ≤ℤ p.z → p.x ≤ℤ x → x <ℤ q.x
    → (is_below_straight p q (record { x = x; z = line_end x p q }) ≡ false) × (q.z ≤ℤ line_end x p q) × (line_end x p q ≤ℤ p.z)
line_ends x p q falls from to = (
  line_free p q (record { x = x; z = line_end x p q }) (omega (arith, ints)) from products,
  omega (arith, ints, part),
  omega (arith, ints),
)
  where
    share : ℕ
    share = distance p.z q.z * distance x p.x / distance q.x p.x

    part : distance p.z q.z * distance x p.x / distance q.x p.x ≤ distance p.z q.z
    part = part_below (distance p.z q.z) (distance x p.x) (distance q.x p.x) (omega (arith, ints)) (omega (arith, ints))

    products : distance q.x p.x * distance (line_end x p q) p.z ≤ distance x p.x * distance q.z p.z
    products =
        let split = div-add-mod' (distance p.z q.z * distance x p.x) (distance q.x p.x) in
        let way : distance (line_end x p q) p.z ≡ distance p.z q.z * distance x p.x / distance q.x p.x = omega (arith, ints) in
        let turned : distance q.z p.z ≡ distance p.z q.z = omega (arith, ints) in
        rw (way, turned) (omega (arith, split))

-- a Z held within two others lies within them, and is at least the Z, or the greater of the others
within_is : (p q : Point) (z : ℤ) → q.z ≤ℤ p.z → (q.z ≤ℤ within p q z) × (within p q z ≤ℤ p.z) × (within p q z <ℤ p.z → z ≤ℤ within p q z)
within_is p q z falls = (omega (arith, ints, clamps), omega (arith, ints, clamps), λ less. omega (arith, ints, clamps, less))

-- a length one longer than the root has a square that is larger
pub along_root_next : (way : Way) (n : ℕ) → n < along_square way (along_root way n + 1)
along_root_next Along n =
    let past = root_next (n / 4) in
    let split = div-add-mod' n 4 in
    let rest = mod_below n 4 (omega arith) in
    omega (arith, past, split, rest)
along_root_next Across n = let past = root_next n in omega (arith, past)

-- the square of the root is at most the number
pub along_root_squares : (way : Way) (n : ℕ) → along_square way (along_root way n) ≤ n
along_root_squares Along n =
    let most = root_squares (n / 4) (n / 4) in
    let split = div-add-mod' n 4 in
    omega (arith, most, split)
along_root_squares Across n = let most = root_squares n n in omega (arith, most)

-- the square of the least way along reaches what is left of the square
pub least_reaches : (way : Way) (square across : ℕ) → square ≤ square_of way across (least_along way square across)
least_reaches way square across =
    let past = along_root_next way (square - across_square way across - 1) in
    omega (arith, past)

-- the square of the greatest way along is at most what is left of the square
most_within : (way : Way) (square across : ℕ) → across_square way across ≤ square → square_of way across (most_along way square across) ≤ square
most_within way square across fits =
    let most = along_root_squares way (square - across_square way across) in
    omega (arith, most, fits)

-- where an arc comes to x before its start's Z, it does not lie above the point
arc_ends_free : (way : Way) (bulges : Bool) (x : ℤ) (p q c : Point) (square : ℕ) → q.z ≤ℤ p.z → p.x ≤ℤ x → arc_end way bulges x p q c square <ℤ p.z
    → is_below_curved way bulges p q c square (record { x = x; z = arc_end way bulges x p q c square }) ≡ false
arc_ends_free way true x p q c square falls from = λ before.
    let reached = (within_is p q (c.z +ℤ pos (least_along way square (beyond x c.x))) falls).2 before in
    let far : least_along way square (beyond x c.x) ≤ beyond (arc_end way true x p q c square) c.z = omega (arith, ints, clamps, reached) in
    let more = square_more way (beyond x c.x) (beyond x c.x) (least_along way square (beyond x c.x)) (beyond (arc_end way true x p q c square) c.z) (omega arith) far in
    let reaches = least_reaches way square (beyond x c.x) in
    bulge_free way p q c (record { x = x; z = arc_end way true x p q c square }) square from (omega (arith, more, reaches))
arc_ends_free way false x p q c square falls from = go (nat_lt square (across_square way (beyond c.x x))) refl
  where
    go : (b : Bool) → nat_lt square (across_square way (beyond c.x x)) ≡ b
        → cond b p.z (within p q (c.z -ℤ pos (most_along way square (beyond c.x x)))) <ℤ p.z
        → is_below_curved way false p q c square (record { x = x; z = cond b p.z (within p q (c.z -ℤ pos (most_along way square (beyond c.x x)))) }) ≡ false
    go true t before = absurd (omega (arith, ints, before))
    go false t before =
        let fits = nat_not_lt_is square (across_square way (beyond c.x x)) t in
        let reached = (within_is p q (c.z -ℤ pos (most_along way square (beyond c.x x))) falls).2 before in
        let near : beyond c.z (within p q (c.z -ℤ pos (most_along way square (beyond c.x x)))) ≤ most_along way square (beyond c.x x) = omega (arith, ints, clamps, reached) in
        let less = square_more way (beyond c.x x) (beyond c.x x) _ _ (omega arith) near in
        let fit = most_within way square (beyond c.x x) fits in
        hollow_free way p q c (record { x = x; z = within p q (c.z -ℤ pos (most_along way square (beyond c.x x))) }) square from (inr (omega (arith, less, fit)))

-- an arc comes to x within its ends
arc_ends_within : (way : Way) (bulges : Bool) (x : ℤ) (p q c : Point) (square : ℕ) → q.z ≤ℤ p.z
    → (q.z ≤ℤ arc_end way bulges x p q c square) × (arc_end way bulges x p q c square ≤ℤ p.z)
arc_ends_within way true x p q c square falls =
    let is = within_is p q (c.z +ℤ pos (least_along way square (beyond x c.x))) falls in (is.0, is.1)
arc_ends_within way false x p q c square falls = go (nat_lt square (across_square way (beyond c.x x)))
  where
    go : (b : Bool) → (q.z ≤ℤ cond b p.z (within p q (c.z -ℤ pos (most_along way square (beyond c.x x))))) × (cond b p.z (within p q (c.z -ℤ pos (most_along way square (beyond c.x x)))) ≤ℤ p.z)
    go true = (falls, omega (arith, ints))
    go false = let is = within_is p q (c.z -ℤ pos (most_along way square (beyond c.x x))) falls in (is.0, is.1)

-- past the end of a line there is room beside it
pub line_over : (x : ℤ) (p q : Point) → p.x ≤ℤ q.x → q.z ≤ℤ p.z → q.x ≤ℤ x → is_below_straight p q (record { x = x; z = q.z }) ≡ false
line_over x p q rises falls over =
    let wide : distance q.x p.x ≤ distance x p.x = omega (arith, ints) in
    line_free p q (record { x = x; z = q.z }) rises (omega (arith, ints)) (mul-le-mul_right (distance q.z p.z) wide)

-- a pass that passes over an edge passes over its end
pub passed_over : (x : ℤ) (p : Point) (edge : Edge) → is_passed x p edge ≡ true → (edge_to edge).x ≤ℤ x
passed_over x p (Straight q) e = le_is q.x x e
passed_over x p (Curved way q c square bulges) e = le_is q.x x (both _ _ e).0

-- at the end of an edge that a pass passes over there is room beside the edge
pub passed_room : (x : ℤ) (p : Point) (edge : Edge) → p.x ≤ℤ (edge_to edge).x → (edge_to edge).z ≤ℤ p.z → is_passed x p edge ≡ true
    → is_below p edge (record { x = x; z = (edge_to edge).z }) ≡ false
passed_room x p (Straight q) rises falls e = line_over x p q rises falls (le_is q.x x e)
passed_room x p (Curved way q c square bulges) rises falls e = not_true _ (both _ _ e).1

-- where a pass that does not pass over an edge ends, there is room beside the edge, if it ends before
-- the edge begins
pub end_free : (x : ℤ) (p : Point) (edge : Edge) → p.x ≤ℤ (edge_to edge).x → (edge_to edge).z ≤ℤ p.z → p.x ≤ℤ x → is_passed x p edge ≡ false
    → edge_end x p edge <ℤ p.z → is_below p edge (record { x = x; z = edge_end x p edge }) ≡ false
end_free x p (Straight q) rises falls from stops before = (line_ends x p q falls from (not_le_is q.x x stops)).0
end_free x p (Curved way q c square bulges) rises falls from stops before = arc_ends_free way bulges x p q c square falls from before

-- such a pass ends within the edge
pub end_within : (x : ℤ) (p : Point) (edge : Edge) → p.x ≤ℤ (edge_to edge).x → (edge_to edge).z ≤ℤ p.z → p.x ≤ℤ x → is_passed x p edge ≡ false
    → ((edge_to edge).z ≤ℤ edge_end x p edge) × (edge_end x p edge ≤ℤ p.z)
end_within x p (Straight q) rises falls from stops = let is = line_ends x p q falls from (not_le_is q.x x stops) in (is.1, is.2)
end_within x p (Curved way q c square bulges) rises falls from stops = arc_ends_within way bulges x p q c square falls

-- the finish along a piece

-- what a test of the inner bound of an arc that bulges takes off is taken off in parts too
scaled_off : (d near off at : ℕ) → d * d * near ≤ at → d * d * (near - off) ≤ at - d * d * off
scaled_off d near off at reached = go (cases_lt off near)
  where
    go : (off < near) ⊎ (near ≤ off) → d * d * (near - off) ≤ at - d * d * off
    go (inl less) =
        let split : near ≡ (near - off) + off = omega arith in
        let scaled : d * d * near ≡ d * d * (near - off) + d * d * off = (ap (λ n. d * d * n) split ∙ omega arith) in
        omega (arith, scaled, reached)
    go (inr none) =
        let zero_left : near - off ≡ 0 = omega arith in
        rw zero_left (omega arith)

-- a point at least as far from the centre as the nearer end is not below the inner bound of an arc that
-- bulges
pub bulge_own : (way : Way) (d : ℕ) (p q c at : Point) (near : ℕ) → (pos d *ℤ p.x) ≤ℤ at.x → (pos d *ℤ q.z) ≤ℤ at.z
    → d * d * near ≤ square_between way at (in_parts d c)
    → is_below_curved way true (in_parts d p) (in_parts d q) (in_parts d c) (d * d * (near - square_of way (beyond c.x p.x) (beyond c.z q.z))) at ≡ false
bulge_own way d p q c at near right up reached =
    let lost = square_more way _ _ _ _ (beyond_less d p.x c.x at.x right) (beyond_less d q.z c.z at.z up) in
    let parts = square_parts way d (beyond c.x p.x) (beyond c.z q.z) in
    let split = split_square way at.x at.z (pos d *ℤ c.x) (pos d *ℤ c.z) in
    let off = scaled_off d near (square_of way (beyond c.x p.x) (beyond c.z q.z)) (square_between way at (in_parts d c)) reached in
    bulge_free way (in_parts d p) (in_parts d q) (in_parts d c) at (d * d * (near - square_of way (beyond c.x p.x) (beyond c.z q.z))) right (omega (arith, lost, parts, split, off))

-- a point at most as far from the centre as the farther end is not below the inner bound of a hollow arc
pub hollow_own : (way : Way) (d : ℕ) (p q c at : Point) (far : ℕ) → (pos d *ℤ p.x) ≤ℤ at.x
    → square_between way at (in_parts d c) ≤ d * d * far
    → is_below_curved way false (in_parts d p) (in_parts d q) (in_parts d c) (d * d * far) at ≡ false
hollow_own way d p q c at far right within =
    let split = split_square way at.x at.z (pos d *ℤ c.x) (pos d *ℤ c.z) in
    hollow_free way (in_parts d p) (in_parts d q) (in_parts d c) at (d * d * far) right (inr (omega (arith, split, within)))

-- a point on a line is not below it
pub line_own : (p q at : Point) → p.x ≤ℤ q.x → p.x ≤ℤ at.x → distance at.x p.x * distance q.z p.z ≡ distance q.x p.x * distance at.z p.z → is_below_straight p q at ≡ false
line_own p q at rises right on = line_free p q at rises right (omega (arith, on))

-- a point of a bulging arc, in whole counts, at least as far from the centre as the nearer end
pub bulge_at : (way : Way) (p q c at : Point) (near : ℕ) → p.x ≤ℤ at.x → q.z ≤ℤ at.z → near ≤ square_between way at c
    → is_below_curved way true p q c (near - square_of way (beyond c.x p.x) (beyond c.z q.z)) at ≡ false
bulge_at way p q c at near right up reached =
    let lost = square_more way (beyond c.x at.x) (beyond c.x p.x) (beyond c.z at.z) (beyond c.z q.z) (omega (arith, ints, clamps, right)) (omega (arith, ints, clamps, up)) in
    let split = split_square way at.x at.z c.x c.z in
    bulge_free way p q c at (near - square_of way (beyond c.x p.x) (beyond c.z q.z)) right (omega (arith, lost, split, reached))

-- a point of a hollow arc, in whole counts, at most as far from the centre as the farther end
pub hollow_at : (way : Way) (p q c at : Point) (far : ℕ) → p.x ≤ℤ at.x → square_between way at c ≤ far → is_below_curved way false p q c far at ≡ false
hollow_at way p q c at far right within =
    let split = split_square way at.x at.z c.x c.z in
    hollow_free way p q c at far right (inr (omega (arith, split, within)))

-- the first point of a line is not below it
pub line_begins : (p q : Point) → p.x ≤ℤ q.x → is_below_straight p q p ≡ false
line_begins p q rises =
    let none : distance p.z p.z ≡ 0 = omega (arith, ints) in
    line_free p q p rises (omega (arith, ints)) (rw none (omega arith))

-- what is in a bulging arc with a smaller square is in it with a larger one
pub bulge_more : (way : Way) (p q c at : Point) (small large : ℕ) → small ≤ large → is_below_curved way true p q c small at ≡ true → is_below_curved way true p q c large at ≡ true
bulge_more way p q c at small large le e = go (is_below_curved way true p q c large at) refl
  where
    go : (b : Bool) → is_below_curved way true p q c large at ≡ b → b ≡ true
    go true t = refl
    go false t =
        let room = bulge_room way p q c at large t in
        let free = bulge_free way p q c at small room.0 (omega (arith, room.1, le)) in
        absurd (let wrong : false ≡ true = sym free ∙ e in cc)

-- what is out of a hollow arc with a larger square is out of it with a smaller one
pub hollow_more : (way : Way) (p q c at : Point) (small large : ℕ) → small ≤ large → is_below_curved way false p q c large at ≡ true → is_below_curved way false p q c small at ≡ true
hollow_more way p q c at small large le e = go (is_below_curved way false p q c small at) refl
  where
    wider : (q.x ≤ℤ at.x) ⊎ (square_of way (beyond c.x at.x) (beyond c.z at.z) ≤ small) → (q.x ≤ℤ at.x) ⊎ (square_of way (beyond c.x at.x) (beyond c.z at.z) ≤ large)
    wider (inl past) = inl past
    wider (inr near) = inr (omega (arith, near, le))

    go : (b : Bool) → is_below_curved way false p q c small at ≡ b → b ≡ true
    go true t = refl
    go false t =
        let room = hollow_room way p q c at small t in
        let free = hollow_free way p q c at large room.0 (wider room.1) in
        absurd (let wrong : false ≡ true = sym free ∙ e in cc)
