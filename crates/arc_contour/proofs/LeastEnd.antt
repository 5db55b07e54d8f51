-- The end of a pass is the least whole Z: at the whole Z before it an edge is above the pass.
use Rattle.std.proofs.Common.{◌≡◌, ℕ, suc, ◌+◌, ◌-◌, ◌*◌, ◌/◌, ◌<◌, ◌≤◌, min, max, Bool, true, false, not, ◌&&◌, ◌||◌, List, [], ◌∷◌, ℤ, pos, negsuc, neg_ℤ, ◌+ℤ◌, ◌-ℤ◌, ◌*ℤ◌, ◌≤ℤ◌, ◌<ℤ◌, refl, sym, subst, ◌∙◌, arith, cond, ◌⊎◌, inl, inr, nat_lt}
use Rattle.std.specs.Prelude.{int_lt, int_le}
use Rattle.std.specs.Ordering.{int_eq}
use Rattle.std.proofs.Math.IntN.{negsuc-*ℤ-pos}
use Rattle.std.proofs.Math.Nat.{mul-le-mul, mul-le-mul_right}
use Rattle.std.proofs.lemmas.Int.{ints, clamps, by_lt_z}
use Rattle.std.proofs.lemmas.Nat.{div-add-mod', mod_below}
use Rattle.std.proofs.lemmas.Bool.{cases_lt}
use Rattle.std.proofs.lemmas.Bool.Decides.{Decides-int_eq}
use Rattle.nc_number.specs.declared.point.Point.{Point}
use Rattle.nc_number.specs.Distances.{distance}
use Rattle.nc_number.specs.Arithmetic.{square_root}
use Rattle.nc_number.proofs.Bools.{both, both_true, or_left, or_right, not_false}
use Rattle.nc_number.proofs.Integers.{le_is}
use Rattle.nc_number.proofs.Points.{same_point}
use Rattle.nc_number.proofs.Roots.{root_squares, root_next}
use Rattle.arc_contour.specs.declared.way.Way.{Way}
use Rattle.arc_contour.specs.declared.way.Way.TheVariants.{Along, Across}
use Rattle.arc_contour.specs.declared.edge.Edge.{Edge}
use Rattle.arc_contour.specs.declared.edge.Edge.TheVariants.{Straight, Curved}
use Rattle.arc_contour.specs.declared.edge.Bound.TheVariants.{Outer}
use Rattle.arc_contour.specs.declared.piece.Piece.{Piece}
use Rattle.arc_contour.specs.declared.piece.Piece.TheVariants.{Line, Arc}
use Rattle.arc_contour.specs.Contour.{Descends, last_of}
use Rattle.arc_contour.specs.Edges.{beyond, across_square, along_square, square_of, square_between, centre_of, edge_to, edges_of}
use Rattle.arc_contour.specs.Inside.{in_parts, edge_in_parts, holds, is_below, is_below_straight, is_below_curved, is_below_line, is_within, is_out}
use Rattle.arc_contour.specs.Ends.{within, along_root, line_end, arc_end, least_along, most_along, is_passed, end_at}
use Rattle.arc_contour.specs.Least.{is_below_some, LeadsOn, EndsMet}
use Rattle.arc_contour.proofs.Lengths.{not_le_is, is_lt, is_le, is_not_lt, along_more, square_more}
use Rattle.arc_contour.proofs.Edges.{edge_open, no_both, along_root_next, along_root_squares, least_reaches, passed_over, end_within}
use Rattle.arc_contour.proofs.Contours.{Falls, last_end, last_is, edges_fall, held, holds_between}

-- if the test whether a number is less holds
nat_is_lt : (a b : ℕ) → a < b → nat_lt a b ≡ true
nat_is_lt a b less = grind arith

-- a number that passes the test of `less` is less
nat_lt_is : (a b : ℕ) → nat_lt a b ≡ true → a < b
nat_lt_is a b e = grind arith

-- a negative number times a length above 0 is below a number from 0 on times a length
negative_below : (a w : ℤ) (d n : ℕ) → a <ℤ pos 0 → pos 0 ≤ℤ w → 0 < d → int_lt (a *ℤ pos d) (w *ℤ pos n) ≡ true
negative_below (pos m) w d n negative wide deep = absurd (omega (arith, ints))
negative_below (negsuc m) (negsuc v) d n negative wide deep = absurd (omega (arith, ints))
negative_below (negsuc m) (pos v) d n negative wide deep =
    let some : 1 * d ≤ suc m * d = mul-le-mul_right d (omega arith) in
    rw (negsuc-*ℤ-pos m d) (is_lt (neg_ℤ (pos (suc m * d))) (pos (v * n)) (omega (arith, ints)))

-- two numbers that differ have a distance above 0
apart_some : (a b : ℤ) → int_eq a b ≡ false → 0 < distance b a
apart_some a b differ = go (cases_lt 0 (distance b a))
  where
    go : (0 < distance b a) ⊎ (distance b a ≤ 0) → 0 < distance b a
    go (inl some) = some
    go (inr none) =
        let same : a ≡ b = omega (arith, ints) in
        let equal = (Decides-int_eq a b).1 same in
        absurd (let wrong : false ≡ true = sym differ ∙ equal in cc)

-- a point left of a line along which X does not fall is below it (left: of smaller X)
line_left : (p q at : Point) → p.x ≤ℤ q.x → at.x <ℤ p.x → is_below_straight p q at ≡ true
unfolding is_below_straight
line_left p q at rises left = go (int_eq p.z q.z) refl
  where
    go : (b : Bool) → int_eq p.z q.z ≡ b → cond b (int_lt at.x p.x && int_lt at.x q.x) (is_below_line p q at) ≡ true
    go true e = rw (is_lt at.x p.x left, is_lt at.x q.x (omega (arith, ints))) refl
    go false e = negative_below (at.x -ℤ p.x) (q.x -ℤ p.x) (distance q.z p.z) (distance at.z p.z) (omega (arith, ints)) (omega (arith, ints)) (apart_some p.z q.z e)

-- a point left of an arc is below it
arc_left : (way : Way) (bulges : Bool) (p q c at : Point) (square : ℕ) → at.x <ℤ p.x → is_below_curved way bulges p q c square at ≡ true
unfolding is_below_curved
arc_left way true p q c at square left = or_left _ _ (is_lt at.x p.x left)
arc_left way false p q c at square left = or_left _ _ (is_lt at.x p.x left)

-- a point left of an edge is below it
edge_left : (p : Point) (edge : Edge) (at : Point) → p.x ≤ℤ (edge_to edge).x → at.x <ℤ p.x → is_below p edge at ≡ true
edge_left p (Straight q) at rises left = line_left p q at rises left
edge_left p (Curved way q c square bulges) at rises left = arc_left way bulges p q c at square left

-- a point left of the first one, at a Z of the contour, is below some edge
left_of_all : (p : Point) (edges : List Edge) (at : Point) → Falls p edges → at.x <ℤ p.x → at.z <ℤ p.z → (last_end p edges).z ≤ℤ at.z → is_below_some p edges at ≡ true
left_of_all p [] at falls left low high = absurd (omega (arith, ints, low, high))
left_of_all p (edge ∷ edges) at (rises, falls, later) left low high = by_lt_z at.z (edge_to edge).z
    (λ less. or_right _ _ (left_of_all (edge_to edge) edges at later (omega (arith, ints, left, rises)) less high))
    (λ least. or_left _ _ (both_true _ _ (holds_between p (edge_to edge) at.z least (omega (arith, ints, low))) (edge_left p edge at rises left)))

-- if a share of l, rounded down, is below a, the product of l and k is below w times a
products_before : (a l k w : ℕ) → 0 < w → l * k / w < a → l * k < w * a
products_before a l k w some past =
    let split = div-add-mod' (l * k) w in
    let rest = mod_below (l * k) w some in
    let scaled : suc (l * k / w) * w ≤ a * w = mul-le-mul_right w past in
    omega (arith, split, rest, scaled)

-- a point before the place where a line comes to its X is below that line
line_before : (p q at : Point) → p.x ≤ℤ at.x → at.x <ℤ q.x → at.z <ℤ line_end at.x p q → q.z ≤ℤ at.z → is_below_straight p q at ≡ true
unfolding is_below_straight
line_before p q at above below before low = go (int_eq p.z q.z) refl
  where
    go : (b : Bool) → int_eq p.z q.z ≡ b → cond b (int_lt at.x p.x && int_lt at.x q.x) (is_below_line p q at) ≡ true
    go true e = let same = (Decides-int_eq p.z q.z).0 e in absurd (omega (arith, ints))
    go false e =
        let across : (at.x -ℤ p.x) ≡ pos (distance at.x p.x) = omega (arith, ints) in
        let width : (q.x -ℤ p.x) ≡ pos (distance q.x p.x) = omega (arith, ints) in
        let past : distance p.z q.z * distance at.x p.x / distance q.x p.x < distance at.z p.z = omega (arith, ints) in
        let products = products_before (distance at.z p.z) (distance p.z q.z) (distance at.x p.x) (distance q.x p.x) (omega (arith, ints)) past in
        let along : distance p.z q.z ≡ distance q.z p.z = omega (arith, ints) in
        let turned : distance p.z q.z * distance at.x p.x < distance q.x p.x * distance at.z p.z = products in
        let less : distance at.x p.x * distance q.z p.z < distance q.x p.x * distance at.z p.z = subst (λ l. distance at.x p.x * l < distance q.x p.x * distance at.z p.z) along (omega (arith, turned)) in
        rw (across, width) (is_lt (pos (distance at.x p.x * distance q.z p.z)) (pos (distance q.x p.x * distance at.z p.z)) (omega (arith, ints, less)))

-- a Z before one held within two others, and at least the lesser of these, is before the Z itself
before_within : (p q : Point) (z at : ℤ) → q.z ≤ℤ at → at <ℤ within p q z → at <ℤ z
before_within p q z at low before = omega (arith, ints, clamps, low, before)

-- a way along that is less than the least leaves the point within the circle, if a part of the square is
-- left
least_is : (way : Way) (square across n : ℕ) → across_square way across < square → n < least_along way square across → square_of way across n < square
least_is way square across n left less =
    let squares = along_root_squares way (square - across_square way across - 1) in
    let short : n ≤ along_root way (square - across_square way across - 1) = omega (arith, less) in
    let smaller = along_more way n (along_root way (square - across_square way across - 1)) short in
    omega (arith, squares, smaller, left)

-- a way along that is more than the greatest leaves the point out of the circle
most_is : (way : Way) (square across n : ℕ) → most_along way square across < n → square < square_of way across n
most_is way square across n more =
    let next = along_root_next way (square - across_square way across) in
    let larger = along_more way (along_root way (square - across_square way across) + 1) n (omega (arith, more)) in
    omega (arith, next, larger)

-- a point before the place where an arc that bulges comes to its X is below that arc, if its way across
-- is less than the radius
pub bulge_before : (way : Way) (p q c at : Point) (square : ℕ) → across_square way (beyond at.x c.x) < square → q.z ≤ℤ at.z → at.z <ℤ arc_end way true at.x p q c square → is_below_curved way true p q c square at ≡ true
unfolding is_below_curved
bulge_before way p q c at square left low before =
    let less = before_within p q (c.z +ℤ pos (least_along way square (beyond at.x c.x))) at.z low before in
    let near : beyond at.z c.z < least_along way square (beyond at.x c.x) = least_way less in
    or_right _ _ (nat_is_lt _ square (least_is way square (beyond at.x c.x) (beyond at.z c.z) left near))
  where
    least_way : at.z <ℤ (c.z +ℤ pos (least_along way square (beyond at.x c.x))) → beyond at.z c.z < least_along way square (beyond at.x c.x)
    least_way less = let some : 1 ≤ least_along way square (beyond at.x c.x) = omega arith in omega (arith, ints, clamps, less, some)

-- a point before the place where a hollow arc comes to its X is below that arc, if it is left of the
-- arc's end
hollow_before : (way : Way) (p q c at : Point) (square : ℕ) → at.x <ℤ q.x → q.z ≤ℤ at.z → at.z <ℤ arc_end way false at.x p q c square → is_below_curved way false p q c square at ≡ true
unfolding is_below_curved
hollow_before way p q c at square left low before = go (nat_lt square (across_square way (beyond c.x at.x))) refl before
  where
    go : (b : Bool) → nat_lt square (across_square way (beyond c.x at.x)) ≡ b → at.z <ℤ cond b p.z (within p q (c.z -ℤ pos (most_along way square (beyond c.x at.x))))
        → (int_lt at.x p.x || (int_lt at.x q.x && is_out way c square at)) ≡ true
    go true t before =
        let out : square < across_square way (beyond c.x at.x) = grind (arith, t) in
        or_right _ _ (both_true _ _ (is_lt at.x q.x left) (nat_is_lt square _ (omega (arith, out))))
    go false t before =
        let less = before_within p q (c.z -ℤ pos (most_along way square (beyond c.x at.x))) at.z low before in
        let far : most_along way square (beyond c.x at.x) < beyond c.z at.z = omega (arith, ints, clamps, less) in
        or_right _ _ (both_true _ _ (is_lt at.x q.x left) (nat_is_lt square _ (most_is way square (beyond c.x at.x) (beyond c.z at.z) far)))

-- where a pass that does not pass over an arc that bulges is: left of the arc's end, or within its
-- circle there
bulge_stops : (way : Way) (x : ℤ) (p q c : Point) (square : ℕ) → p.x ≤ℤ x → is_passed x p (Curved way q c square true) ≡ false
    → (x <ℤ q.x) ⊎ (square_of way (beyond x c.x) (beyond q.z c.z) < square)
unfolding is_below_curved
bulge_stops way x p q c square from e = go (no_both (int_le q.x x) _ e)
  where
    below : (a b : Bool) → a ≡ false → not (a || b) ≡ false → b ≡ true
    below true b f e = absurd (let wrong : true ≡ false = f in cc)
    below false b f e = not_false b e

    go : (int_le q.x x ≡ false) ⊎ (not (is_below_curved way true p q c square (record { x = x; z = q.z })) ≡ false) → (x <ℤ q.x) ⊎ (square_of way (beyond x c.x) (beyond q.z c.z) < square)
    go (inl less) = inl (not_le_is q.x x less)
    go (inr within_it) = inr (nat_lt_is _ square (below (int_lt x p.x) (is_within way c square (record { x = x; z = q.z })) (is_not_lt x p.x from) within_it))

-- a pass that does not pass over a hollow arc is left of the arc's end
hollow_stops : (way : Way) (x : ℤ) (p q c : Point) (square : ℕ) → p.x ≤ℤ x → is_passed x p (Curved way q c square false) ≡ false → x <ℤ q.x
unfolding is_below_curved
hollow_stops way x p q c square from e = by_lt_z x q.x (λ less. less) (λ least. absurd (
    let over = is_le q.x x least in
    let free : (int_lt x p.x || (int_lt x q.x && is_out way c square (record { x = x; z = q.z }))) ≡ false = rw (is_not_lt x p.x from, is_not_lt x q.x least) refl in
    let passed : (int_le q.x x && not (int_lt x p.x || (int_lt x q.x && is_out way c square (record { x = x; z = q.z })))) ≡ true = rw (over, free) refl in
    let wrong : false ≡ true = sym e ∙ passed in cc))

-- a length across that is above 0 has a square above 0
across_some : (way : Way) (a : ℕ) → 1 ≤ a → 1 ≤ across_square way a
across_some Along a some = let square : 1 * 1 ≤ a * a = mul-le-mul some some in square
across_some Across a some = let square : 1 * 1 ≤ a * a = mul-le-mul some some in omega (arith, square)

-- a longer length across has a square that is larger
across_less : (way : Way) (a b : ℕ) → a < b → across_square way a < across_square way b
across_less Along a b less = let squares : suc a * suc a ≤ b * b = mul-le-mul less less in omega (arith, squares)
across_less Across a b less = let squares : suc a * suc a ≤ b * b = mul-le-mul less less in omega (arith, squares)

-- no length has no square
across_none : (way : Way) → across_square way 0 ≡ 0
across_none Along = refl
across_none Across = refl

-- left of the end of an arc that bulges, a pass is nearer across than the radius
bulge_across : (way : Way) (x : ℤ) (p q c : Point) → p.x ≤ℤ x → x <ℤ q.x → across_square way (beyond x c.x) < max (square_between way p c) (square_between way q c)
bulge_across way x p q c from left = go (cases_lt (beyond x c.x) (distance q.x c.x))
  where
    go : (beyond x c.x < distance q.x c.x) ⊎ (distance q.x c.x ≤ beyond x c.x) → across_square way (beyond x c.x) < max (square_between way p c) (square_between way q c)
    go (inl less) =
        let wide = across_less way (beyond x c.x) (distance q.x c.x) less in
        omega (arith, wide)
    go (inr least) =
        let none : beyond x c.x ≡ 0 = omega (arith, ints, clamps, least, left) in
        let same : distance q.x c.x ≡ 0 = omega (arith, ints, clamps, least, none) in
        let far : 1 ≤ distance p.x c.x = omega (arith, ints, same, from, left) in
        let square = across_some way (distance p.x c.x) far in
        let zero_square = across_none way in
        rw none (omega (arith, square, zero_square))

-- a pass that does not pass over an arc that bulges ends past the arc's end, if the arc leads on in Z
bulge_past : (way : Way) (x : ℤ) (p q c : Point) (square : ℕ) → q.z <ℤ p.z → square_of way (beyond x c.x) (beyond q.z c.z) < square → q.z <ℤ arc_end way true x p q c square
bulge_past way x p q c square on within_it = omega (arith, ints, clamps, on, far)
  where
    less : beyond q.z c.z < least_along way square (beyond x c.x)
    less = go (cases_lt (beyond q.z c.z) (least_along way square (beyond x c.x)))
      where
        go : (beyond q.z c.z < least_along way square (beyond x c.x)) ⊎ (least_along way square (beyond x c.x) ≤ beyond q.z c.z) → beyond q.z c.z < least_along way square (beyond x c.x)
        go (inl yes_less) = yes_less
        go (inr more) =
            let reaches = least_reaches way square (beyond x c.x) in
            let longer = square_more way (beyond x c.x) (beyond x c.x) (least_along way square (beyond x c.x)) (beyond q.z c.z) (omega arith) more in
            absurd (omega (arith, reaches, longer, within_it))

    far : q.z <ℤ (c.z +ℤ pos (least_along way square (beyond x c.x)))
    far = omega (arith, ints, clamps, less)

-- at the whole Z before the end of a pass an edge is above the pass
pub least_end : (way : Way) (p : Point) (pieces : List Piece) (at : Point) → Descends p pieces → LeadsOn p pieces → p.x ≤ℤ at.x
    → (at.z +ℤ pos 1) ≡ end_at at.x p (edges_of way Outer p pieces) → (last_end p (edges_of way Outer p pieces)).z ≤ℤ at.z
    → is_below_some p (edges_of way Outer p pieces) at ≡ true
least_end way p [] at falls on from ends low = absurd (omega (arith, ints, ends, low))
least_end way p (Line q ∷ pieces) at (rises, falls, later) on from ends low =
    go (is_passed at.x p (Straight q)) refl ends (λ over ends. least_end way q pieces at later on over ends low)
  where
    go : (b : Bool) → is_passed at.x p (Straight q) ≡ b → (at.z +ℤ pos 1) ≡ cond b (end_at at.x q (edges_of way Outer q pieces)) (line_end at.x p q)
        → (q.x ≤ℤ at.x → (at.z +ℤ pos 1) ≡ end_at at.x q (edges_of way Outer q pieces) → is_below_some q (edges_of way Outer q pieces) at ≡ true)
        → ((holds p q at.z && is_below_straight p q at) || is_below_some q (edges_of way Outer q pieces) at) ≡ true
    go true t ends rest = or_right _ _ (rest (le_is q.x at.x t) ends)
    go false t ends rest =
        let left = not_le_is q.x at.x t in
        by_lt_z at.z q.z
        (λ less. or_right _ _ (left_of_all q (edges_of way Outer q pieces) at (edges_fall way Outer q pieces later) left less low))
        (λ least. or_left _ _ (both_true _ _ (holds_between p q at.z least (omega (arith, ints, ends))) (line_before p q at from left (omega (arith, ints, ends)) least)))
least_end way p (Arc true q i k ∷ pieces) at (rises, falls, later) on from ends low =
    go (is_passed at.x p (Curved way q c square false)) refl ends (λ over ends. least_end way q pieces at later on over ends low)
  where
    c : Point
    c = centre_of way p i k

    square : ℕ
    square = min (square_between way p c) (square_between way q c)

    go : (b : Bool) → is_passed at.x p (Curved way q c square false) ≡ b → (at.z +ℤ pos 1) ≡ cond b (end_at at.x q (edges_of way Outer q pieces)) (arc_end way false at.x p q c square)
        → (q.x ≤ℤ at.x → (at.z +ℤ pos 1) ≡ end_at at.x q (edges_of way Outer q pieces) → is_below_some q (edges_of way Outer q pieces) at ≡ true)
        → ((holds p q at.z && is_below_curved way false p q c square at) || is_below_some q (edges_of way Outer q pieces) at) ≡ true
    go true t ends rest = or_right _ _ (rest (passed_over at.x p (Curved way q c square false) t) ends)
    go false t ends rest =
        let left = hollow_stops way at.x p q c square from t in
        let is = end_within at.x p (Curved way q c square false) rises falls from t in
        by_lt_z at.z q.z
        (λ less. or_right _ _ (left_of_all q (edges_of way Outer q pieces) at (edges_fall way Outer q pieces later) left less low))
        (λ least. or_left _ _ (both_true _ _ (holds_between p q at.z least (let high = is.1 in omega (arith, ints, ends, high))) (hollow_before way p q c at square left least (omega (arith, ints, ends)))))
least_end way p (Arc false q i k ∷ pieces) at (rises, falls, later) on from ends low =
    go (is_passed at.x p (Curved way q c square true)) refl ends (λ over ends. least_end way q pieces at later on.1 over ends low)
  where
    c : Point
    c = centre_of way p i k

    square : ℕ
    square = max (square_between way p c) (square_between way q c)

    near : (at.x <ℤ q.x) ⊎ (square_of way (beyond at.x c.x) (beyond q.z c.z) < square) → across_square way (beyond at.x c.x) < square
    near (inl left) = bulge_across way at.x p q c from left
    near (inr within_it) = omega (arith, within_it)

    before : (at.x <ℤ q.x) ⊎ (square_of way (beyond at.x c.x) (beyond q.z c.z) < square) → at.z <ℤ q.z → (at.z +ℤ pos 1) ≡ arc_end way true at.x p q c square → at.x <ℤ q.x
    before (inl left) less ends = left
    before (inr within_it) less ends = let past = bulge_past way at.x p q c square on.0 within_it in absurd (omega (arith, ints, past, less, ends))

    go : (b : Bool) → is_passed at.x p (Curved way q c square true) ≡ b → (at.z +ℤ pos 1) ≡ cond b (end_at at.x q (edges_of way Outer q pieces)) (arc_end way true at.x p q c square)
        → (q.x ≤ℤ at.x → (at.z +ℤ pos 1) ≡ end_at at.x q (edges_of way Outer q pieces) → is_below_some q (edges_of way Outer q pieces) at ≡ true)
        → ((holds p q at.z && is_below_curved way true p q c square at) || is_below_some q (edges_of way Outer q pieces) at) ≡ true
    go true t ends rest = or_right _ _ (rest (passed_over at.x p (Curved way q c square true) t) ends)
    go false t ends rest =
        let stops = bulge_stops way at.x p q c square from t in
        let is = end_within at.x p (Curved way q c square true) rises falls from t in
        by_lt_z at.z q.z
        (λ less. or_right _ _ (left_of_all q (edges_of way Outer q pieces) at (edges_fall way Outer q pieces later) (before stops less ends) less low))
        (λ least. or_left _ _ (both_true _ _ (holds_between p q at.z least (let high = is.1 in omega (arith, ints, ends, high))) (bulge_before way p q c at square (near stops) least (omega (arith, ints, ends)))))

-- a pass that does not pass over an arc that bulges, and that ends on its circle, is left of the arc's
-- end
bulge_left : (way : Way) (x : ℤ) (p q c : Point) → p.x ≤ℤ x → square_between way p c ≤ square_between way q c → c.x ≤ℤ q.x → c.z ≤ℤ q.z
    → is_passed x p (Curved way q c (max (square_between way p c) (square_between way q c)) true) ≡ false → x <ℤ q.x
bulge_left way x p q c from met right past stops = go (bulge_stops way x p q c (max (square_between way p c) (square_between way q c)) from stops)
  where
    go : (x <ℤ q.x) ⊎ (square_of way (beyond x c.x) (beyond q.z c.z) < max (square_between way p c) (square_between way q c)) → x <ℤ q.x
    go (inl left) = left
    go (inr within_it) = by_lt_z x q.x (λ less. less) (λ least. absurd (
        let across : distance q.x c.x ≤ beyond x c.x = omega (arith, ints, clamps, right, least) in
        let along : distance q.z c.z ≤ beyond q.z c.z = omega (arith, ints, clamps, past) in
        let more = square_more way (distance q.x c.x) (beyond x c.x) (distance q.z c.z) (beyond q.z c.z) across along in
        omega (arith, more, met, within_it)))

-- at each whole Z of the contour before the end of a pass an edge is above the pass, if its arcs that
-- bulge end on their circles
pub all_left : (way : Way) (p : Point) (pieces : List Piece) (at : Point) → Descends p pieces → EndsMet way p pieces → p.x ≤ℤ at.x
    → at.z <ℤ end_at at.x p (edges_of way Outer p pieces) → (last_end p (edges_of way Outer p pieces)).z ≤ℤ at.z
    → is_below_some p (edges_of way Outer p pieces) at ≡ true
all_left way p [] at falls met from before low = absurd (omega (arith, ints, before, low))
all_left way p (Line q ∷ pieces) at (rises, falls, later) met from before low =
    go (is_passed at.x p (Straight q)) refl before (λ over before. all_left way q pieces at later met over before low)
  where
    go : (b : Bool) → is_passed at.x p (Straight q) ≡ b → at.z <ℤ cond b (end_at at.x q (edges_of way Outer q pieces)) (line_end at.x p q)
        → (q.x ≤ℤ at.x → at.z <ℤ end_at at.x q (edges_of way Outer q pieces) → is_below_some q (edges_of way Outer q pieces) at ≡ true)
        → ((holds p q at.z && is_below_straight p q at) || is_below_some q (edges_of way Outer q pieces) at) ≡ true
    go true t before rest = or_right _ _ (rest (le_is q.x at.x t) before)
    go false t before rest =
        let left = not_le_is q.x at.x t in
        by_lt_z at.z q.z
        (λ less. or_right _ _ (left_of_all q (edges_of way Outer q pieces) at (edges_fall way Outer q pieces later) left less low))
        (λ least. or_left _ _ (both_true _ _ (holds_between p q at.z least (omega (arith, ints, before))) (line_before p q at from left before least)))
all_left way p (Arc true q i k ∷ pieces) at (rises, falls, later) met from before low =
    go (is_passed at.x p (Curved way q c square false)) refl before (λ over before. all_left way q pieces at later met over before low)
  where
    c : Point
    c = centre_of way p i k

    square : ℕ
    square = min (square_between way p c) (square_between way q c)

    go : (b : Bool) → is_passed at.x p (Curved way q c square false) ≡ b → at.z <ℤ cond b (end_at at.x q (edges_of way Outer q pieces)) (arc_end way false at.x p q c square)
        → (q.x ≤ℤ at.x → at.z <ℤ end_at at.x q (edges_of way Outer q pieces) → is_below_some q (edges_of way Outer q pieces) at ≡ true)
        → ((holds p q at.z && is_below_curved way false p q c square at) || is_below_some q (edges_of way Outer q pieces) at) ≡ true
    go true t before rest = or_right _ _ (rest (passed_over at.x p (Curved way q c square false) t) before)
    go false t before rest =
        let left = hollow_stops way at.x p q c square from t in
        let is = end_within at.x p (Curved way q c square false) rises falls from t in
        by_lt_z at.z q.z
        (λ less. or_right _ _ (left_of_all q (edges_of way Outer q pieces) at (edges_fall way Outer q pieces later) left less low))
        (λ least. or_left _ _ (both_true _ _ (holds_between p q at.z least (let high = is.1 in omega (arith, ints, before, high))) (hollow_before way p q c at square left least before)))
all_left way p (Arc false q i k ∷ pieces) at (rises, falls, later) (met, right, past, on) from before low =
    go (is_passed at.x p (Curved way q c square true)) refl before (λ over before. all_left way q pieces at later on over before low)
  where
    c : Point
    c = centre_of way p i k

    square : ℕ
    square = max (square_between way p c) (square_between way q c)

    go : (b : Bool) → is_passed at.x p (Curved way q c square true) ≡ b → at.z <ℤ cond b (end_at at.x q (edges_of way Outer q pieces)) (arc_end way true at.x p q c square)
        → (q.x ≤ℤ at.x → at.z <ℤ end_at at.x q (edges_of way Outer q pieces) → is_below_some q (edges_of way Outer q pieces) at ≡ true)
        → ((holds p q at.z && is_below_curved way true p q c square at) || is_below_some q (edges_of way Outer q pieces) at) ≡ true
    go true t before rest = or_right _ _ (rest (passed_over at.x p (Curved way q c square true) t) before)
    go false t before rest =
        let left = bulge_left way at.x p q c from met right past t in
        let is = end_within at.x p (Curved way q c square true) rises falls from t in
        by_lt_z at.z q.z
        (λ less. or_right _ _ (left_of_all q (edges_of way Outer q pieces) at (edges_fall way Outer q pieces later) left less low))
        (λ least. or_left _ _ (both_true _ _ (holds_between p q at.z least (let high = is.1 in omega (arith, ints, before, high))) (bulge_before way p q c at square (bulge_across way at.x p q c from left) least before)))

-- one part to a count is the count
one_point : (p : Point) → in_parts 1 p ≡ p
one_point p = same_point (in_parts 1 p) p (omega (arith, ints)) (omega (arith, ints))

-- an edge of one part to a count is the edge
one_edge : (p : Point) (edge : Edge) (at : Point) → is_below (in_parts 1 p) (edge_in_parts 1 edge) at ≡ is_below p edge at
one_edge p (Straight q) at = rw (one_point p, one_point q) refl
one_edge p (Curved way q c square bulges) at =
    let whole : 1 * 1 * square ≡ square = omega arith in
    rw (one_point p, one_point q, one_point c, whole) refl

-- what is below an edge that holds its Z is so at a lesser X
lower : (p : Point) (edge : Edge) (at : Point) (x : ℤ) → p.x ≤ℤ (edge_to edge).x → (edge_to edge).z ≤ℤ p.z → holds p (edge_to edge) at.z ≡ true → at.x ≤ℤ x
    → is_below p edge (record { x = x; z = at.z }) ≡ true → is_below p edge at ≡ true
lower p edge at x rises falls h left e = by_lt_z at.x p.x (λ less. edge_left p edge at rises less) (λ least. go least (is_below p edge at) refl)
  where
    go : p.x ≤ℤ at.x → (b : Bool) → is_below p edge at ≡ b → b ≡ true
    go least true t = refl
    go least false t =
        let z = held p (edge_to edge) at.z falls h in
        let high : at.z ≤ℤ p.z = z.1 in
        let open_there = edge_open 1 p edge at (record { x = x; z = at.z }) rises z.0 z.1 least t (omega (arith, ints, left)) (omega (arith, ints)) (omega (arith, ints, high)) in
        absurd (let wrong : false ≡ true = sym open_there ∙ one_edge p edge (record { x = x; z = at.z }) ∙ e in cc)

-- an `or` that holds has a side that does
some_side : (a b : Bool) → (a || b) ≡ true → (a ≡ true) ⊎ (b ≡ true)
some_side true b e = inl refl
some_side false b e = inr e

-- what is below some edge is so at a lesser X
pub some_lower : (p : Point) (edges : List Edge) (at : Point) (x : ℤ) → Falls p edges → at.x ≤ℤ x → is_below_some p edges (record { x = x; z = at.z }) ≡ true → is_below_some p edges at ≡ true
some_lower p [] at x falls left e = e
some_lower p (edge ∷ edges) at x (rises, falls, later) left e =
    go (some_side (holds p (edge_to edge) at.z && is_below p edge (record { x = x; z = at.z })) _ e) (some_lower (edge_to edge) edges at x later left)
  where
    go : ((holds p (edge_to edge) at.z && is_below p edge (record { x = x; z = at.z })) ≡ true) ⊎ (is_below_some (edge_to edge) edges (record { x = x; z = at.z }) ≡ true)
        → (is_below_some (edge_to edge) edges (record { x = x; z = at.z }) ≡ true → is_below_some (edge_to edge) edges at ≡ true)
        → is_below_some p (edge ∷ edges) at ≡ true
    go (inl here) rest = let parts = both _ _ here in or_left _ _ (both_true _ _ parts.0 (lower p edge at x rises falls parts.0 left parts.1))
    go (inr there) rest = or_right _ _ (rest there)
