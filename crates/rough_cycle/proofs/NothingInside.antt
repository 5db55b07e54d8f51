-- No move of G71 or G70 enters the contour: the law `no_move_enters_the_contour` (src/law.rt).
-- First come facts of single points, then of moves, then of passes. LeastEnd takes the facts on
-- segments.
use Rattle.std.proofs.Common.{◌≡◌, ℕ, zero, suc, ◌+◌, ◌*◌, ◌/◌, ◌<◌, ◌≤◌, Bool, true, false, not, ◌&&◌, ◌||◌, List, [], ◌∷◌, ◌++◌, map, ℤ, pos, ◌+ℤ◌, ◌-ℤ◌, ◌*ℤ◌, ◌≤ℤ◌, ◌<ℤ◌, refl, sym, subst, ◌∙◌, arith, cond}
use Rattle.std.specs.Prelude.{int_lt, int_le}
use Rattle.std.specs.Ordering.{int_eq}
use Rattle.std.specs.List.{flat_map}
use Rattle.std.specs.Int.{int_min}
use Rattle.std.proofs.lemmas.Int.{ints}
use Rattle.std.proofs.Math.Nat.{mul-le-mul, mul-le-mul_left, mul-le-mul_right}
use Rattle.nc_number.specs.declared.point.Point.{Point}
use Rattle.rough_cycle.specs.declared.block.PlainBlock.{PlainBlock}
use Rattle.rough_cycle.specs.Contour.{Descends, last_of, moved_point, moved_points}
use Rattle.nc_number.specs.Distances.{distance}
use Rattle.rough_cycle.specs.Inside.{holds, is_below, some_holds, is_below_each, is_inside_from}
use Rattle.rough_cycle.specs.Roughing.{end_at, Rough, IsForm, IsFinishStart, first_moved, points_moved, x_of_pass, pass_of, is_made, passes_from, across_to, along_to, straight_to, pass_blocks, contour_blocks, rough_blocks, finish_blocks}
use Rattle.nc_number.proofs.Bools.{both, only_false}
use Rattle.nc_number.proofs.Integers.{lt_is, le_is}
use Rattle.rough_cycle.proofs.Orders.{not_le_is, is_le}
use Rattle.rough_cycle.proofs.Products.{quotient_below, part_below}
use Rattle.rough_cycle.specs.Moves.{IsOn, point_after, after_all, IsClear, AreClear}

-- a number at most two others is at most the lesser of them
not_before_least : (z a b : ℤ) → z ≤ℤ a → z ≤ℤ b → z ≤ℤ int_min a b
not_before_least z a b to_a to_b = go (int_lt b a)
  where
    go : (t : Bool) → z ≤ℤ cond t b a
    go true = to_b
    go false = to_a

-- one segment

-- no product of the segment is past that of the point, so the point is not below
not_below : (p q at : Point) → p.x ≤ℤ q.x → p.x ≤ℤ at.x → distance q.x p.x * distance at.z p.z ≤ distance at.x p.x * distance q.z p.z → is_below p q at ≡ true → ⊥
unfolding is_below
not_below p q at rises right products = go (int_eq p.z q.z)
  where
    across : (at.x -ℤ p.x) ≡ pos (distance at.x p.x)
    across = omega (arith, ints)

    width : (q.x -ℤ p.x) ≡ pos (distance q.x p.x)
    width = omega (arith, ints)

    go : (b : Bool) → cond b (int_lt at.x p.x && int_lt at.x q.x) (int_lt ((at.x -ℤ p.x) *ℤ pos (distance q.z p.z)) ((q.x -ℤ p.x) *ℤ pos (distance at.z p.z))) ≡ true → ⊥
    go true e = let less = lt_is at.x p.x (both _ _ e).0 in omega (arith, ints)
    go false e =
        let less : int_lt (pos (distance at.x p.x) *ℤ pos (distance q.z p.z)) (pos (distance q.x p.x) *ℤ pos (distance at.z p.z)) ≡ true = rw (across, width) at e in
        let past : distance at.x p.x * distance q.z p.z < distance q.x p.x * distance at.z p.z = grind (arith, ints) in
        omega (arith, past, products)

-- a point right of both ends of a segment, with a Z between theirs, is not below it (right: of
-- greater X)
not_below_right : (p q at : Point) → p.x ≤ℤ q.x → q.x ≤ℤ at.x → q.z ≤ℤ at.z → at.z ≤ℤ p.z → is_below p q at ≡ true → ⊥
not_below_right p q at rises right low high =
    let wide : distance q.x p.x ≤ distance at.x p.x = omega (arith, ints) in
    let deep : distance at.z p.z ≤ distance q.z p.z = omega (arith, ints) in
    not_below p q at rises (omega (arith, ints)) (mul-le-mul wide deep)

-- a point on a segment along which X does not fall is not below it
not_below_on : (p q at : Point) → p.x ≤ℤ q.x → IsOn p q at → is_below p q at ≡ true → ⊥
not_below_on p q at rises on =
    let line = on.line in
    not_below p q at rises (omega (arith, ints, on.across)) (omega (arith, line))

-- A product for a point past the end of a pass: a is how far along it lies, k and m how far across
-- the pass and the point are, of w across and l along.
products_behind : (a l k m w : ℕ) → a ≤ l * k / w → k ≤ m → w * a ≤ m * l
products_behind a l k m w near right =
    let scaled : a * w ≤ l * k / w * w = mul-le-mul_right w near in
    let reached : l * k / w * w ≤ l * k = quotient_below (l * k) w in
    let far : l * k ≤ l * m = mul-le-mul_left l right in
    omega (arith, scaled, reached, far)

-- a point with X at least x, at or after the place where a segment comes to x, is not below the
-- segment
not_below_behind : (p q at : Point) (x : ℤ) → p.x ≤ℤ x → x <ℤ q.x → x ≤ℤ at.x → (p.z -ℤ pos (distance p.z q.z * distance x p.x / distance q.x p.x)) ≤ℤ at.z → at.z ≤ℤ p.z → is_below p q at ≡ true → ⊥
not_below_behind p q at x above below right behind high =
    let along : distance p.z q.z ≡ distance q.z p.z = omega (arith, ints) in
    let near : distance at.z p.z ≤ distance p.z q.z * distance x p.x / distance q.x p.x = omega (arith, ints) in
    let across : distance x p.x ≤ distance at.x p.x = omega (arith, ints) in
    let products = products_behind (distance at.z p.z) (distance p.z q.z) (distance x p.x) (distance at.x p.x) (distance q.x p.x) near across in
    not_below p q at (omega (arith, ints)) (omega (arith, ints)) (subst (λ l. distance q.x p.x * distance at.z p.z ≤ distance at.x p.x * l) along products)

-- which Z a segment holds

-- a Z within a segment that descends lies between its ends' Z
pub held : (p q : Point) (z : ℤ) → q.z ≤ℤ p.z → holds p q z ≡ true → (q.z ≤ℤ z) × (z ≤ℤ p.z)
unfolding holds
held p q z falls e = (grind (arith, ints), grind (arith, ints))

-- a Z between the ends' Z is within the segment
pub holds_between : (p q : Point) (z : ℤ) → q.z ≤ℤ z → z ≤ℤ p.z → holds p q z ≡ true
unfolding holds
holds_between p q z low high = rw (is_le q.z z low, is_le z p.z high) refl

-- a Z that a segment holds is at most the first point's: the contour goes down from there
held_low : (p : Point) (points : List Point) (z : ℤ) → Descends p points → some_holds p points z ≡ true → z ≤ℤ p.z
held_low p [] z falls e = absurd (let wrong : false ≡ true = e in cc)
held_low p (q ∷ points) z (rises, falls, later) e = go (holds p q z) refl e (held_low q points z later)
  where
    go : (b : Bool) → holds p q z ≡ b → (b || some_holds q points z) ≡ true → (some_holds q points z ≡ true → z ≤ℤ q.z) → z ≤ℤ p.z
    go true h e rest = (held p q z falls h).1
    go false h e rest = let low = rest e in omega (arith, ints)

-- a whole contour

-- a point is not inside a contour if it is not below the first segment when that holds its Z, and
-- not inside the rest when the first segment does not hold its Z
step : (p q at : Point) (points : List Point)
    → (holds p q at.z ≡ true → is_below p q at ≡ true → ⊥)
    → (holds p q at.z ≡ false → some_holds q points at.z ≡ true → is_below_each q points at ≡ true → ⊥)
    → some_holds p (q ∷ points) at.z ≡ true → is_below_each p (q ∷ points) at ≡ true → ⊥
step p q at points first rest = go (holds p q at.z) refl
  where
    go : (b : Bool) → holds p q at.z ≡ b → (b || some_holds q points at.z) ≡ true → ((not b || is_below p q at) && is_below_each q points at) ≡ true → ⊥
    go true h s e = first h (both _ _ e).0
    go false h s e = rest h s e

-- a point is not inside if no segment both holds its Z and is above it
pub not_inside : (p : Point) (points : List Point) (at : Point) → (some_holds p points at.z ≡ true → is_below_each p points at ≡ true → ⊥) → is_inside_from p points at ≡ false
not_inside p points at contrary = only_false (is_inside_from p points at) (λ e. let parts = both (some_holds p points at.z) (is_below_each p points at) e in contrary parts.0 parts.1)

-- the first point of a contour that descends has no greater X than the last one
last_is_high : (p : Point) (points : List Point) → Descends p points → p.x ≤ℤ (last_of p points).x
last_is_high p [] falls = omega (arith, ints)
last_is_high p (q ∷ points) (rises, falls, later) = let high = last_is_high q points later in omega (arith, ints)

-- a point whose X is at least the contour's last is below no segment (right: of greater X)
right_of_all : (p : Point) (points : List Point) (at : Point) → Descends p points → (last_of p points).x ≤ℤ at.x → some_holds p points at.z ≡ true → is_below_each p points at ≡ true → ⊥
right_of_all p [] at falls right = λ s e. absurd (let wrong : false ≡ true = s in cc)
right_of_all p (q ∷ points) at (rises, falls, later) right =
    let high = last_is_high q points later in
    let beyond : q.x ≤ℤ at.x = omega (arith, ints) in
    step p q at points
    (λ h. let z = held p q at.z falls h in not_below_right p q at rises beyond z.0 z.1)
    (λ h. right_of_all q points at later right)

-- a point whose X is at least a pass's and whose Z is at least that of its end is not inside
pub behind_end : (x : ℤ) (p : Point) (points : List Point) (at : Point) → Descends p points → p.x ≤ℤ x → x ≤ℤ at.x → end_at x p points ≤ℤ at.z → some_holds p points at.z ≡ true → is_below_each p points at ≡ true → ⊥
behind_end x p [] at falls above right = λ behind s e. absurd (let wrong : false ≡ true = s in cc)
behind_end x p (q ∷ points) at (rises, falls, later) above right = go (int_le q.x x) refl (behind_end x q points at later)
  where
    go : (b : Bool) → int_le q.x x ≡ b
        → (q.x ≤ℤ x → x ≤ℤ at.x → end_at x q points ≤ℤ at.z → some_holds q points at.z ≡ true → is_below_each q points at ≡ true → ⊥)
        → cond b (end_at x q points) (p.z -ℤ pos (distance p.z q.z * distance x p.x / distance q.x p.x)) ≤ℤ at.z
        → some_holds p (q ∷ points) at.z ≡ true → is_below_each p (q ∷ points) at ≡ true → ⊥
    go true t rest behind =
        let reached = le_is q.x x t in
        step p q at points
        (λ h. let z = held p q at.z falls h in not_below_right p q at rises (omega (arith, ints)) z.0 z.1)
        (λ h. rest reached right behind)
    go false t rest behind =
        let less = not_le_is q.x x t in
        step p q at points
        (λ h. let z = held p q at.z falls h in not_below_behind p q at x above less right behind z.1)
        (λ h s. let low = held_low q points at.z later s in
        let part = part_below (distance p.z q.z) (distance x p.x) (distance q.x p.x) (omega (arith, ints)) (omega (arith, ints)) in
        let same : q.z ≤ℤ at.z = omega (arith, ints) in
        let holds_it = holds_between p q at.z same (omega (arith, ints)) in
        absurd (let wrong : false ≡ true = sym h ∙ holds_it in cc))

-- a pass ends at or before the first point's Z
pub end_is_low : (x : ℤ) (p : Point) (points : List Point) → Descends p points → end_at x p points ≤ℤ p.z
end_is_low x p [] falls = omega (arith, ints)
end_is_low x p (q ∷ points) (rises, falls, later) = go (int_le q.x x) (end_is_low x q points later)
  where
    go : (b : Bool) → end_at x q points ≤ℤ q.z → cond b (end_at x q points) (p.z -ℤ pos (distance p.z q.z * distance x p.x / distance q.x p.x)) ≤ℤ p.z
    go true low = omega (arith, ints)
    go false low = omega (arith, ints)

-- the allowances

-- a contour that descends does so with its allowances
moved_descends : (u w : ℕ) (p : Point) (points : List Point) → Descends p points → Descends (moved_point u w p) (moved_points u w points)
moved_descends u w p [] falls = tt
moved_descends u w p (q ∷ points) (rises, falls, later) = (omega (arith, ints), omega (arith, ints), moved_descends u w q points later)

-- the last point with its allowances is the last of the contour with them
last_moved : (u w : ℕ) (p : Point) (points : List Point) → last_of (moved_point u w p) (moved_points u w points) ≡ moved_point u w (last_of p points)
last_moved u w p [] = refl
last_moved u w p (q ∷ points) = last_moved u w q points

-- moves

-- if blocks are clear, and those after them are clear from where the first lead, all are clear
clear_behind : (p : Point) (points : List Point) (from : Point) (xs ys : List PlainBlock) → AreClear p points from xs → AreClear p points (after_all from xs) ys → AreClear p points from (xs ++ ys)
clear_behind p points from [] ys first rest = rest
clear_behind p points from (x ∷ xs) ys (clear, first) rest = (clear, clear_behind p points (point_after from x) xs ys first rest)

-- a move is clear if both its ends lie right of x, and past the end of a pass at x
move_behind : (x : ℤ) (p : Point) (points : List Point) (from to : Point) → Descends p points → p.x ≤ℤ x → x ≤ℤ from.x → x ≤ℤ to.x → end_at x p points ≤ℤ from.z → end_at x p points ≤ℤ to.z → IsClear p points from to
move_behind x p points from to falls above right_from right_to behind_from behind_to at on =
    let right : x ≤ℤ at.x = omega (arith, ints, on.across) in
    let behind : end_at x p points ≤ℤ at.z = omega (arith, ints, on.along) in
    not_inside p points at (behind_end x p points at falls above right behind)

-- a move is clear if both its ends lie right of the whole contour
move_right : (p : Point) (points : List Point) (from to : Point) → Descends p points → (last_of p points).x ≤ℤ from.x → (last_of p points).x ≤ℤ to.x → IsClear p points from to
move_right p points from to falls right_from right_to at on =
    let right : (last_of p points).x ≤ℤ at.x = omega (arith, ints, on.across) in
    not_inside p points at (right_of_all p points at falls right)

-- the moves along the contour itself are clear: a point on a segment is not below it
along_contour : (f : Point) (all : List Point) (p : Point) (points : List Point)
    → ((at : Point) → is_below_each f all at ≡ true → is_below_each p points at ≡ true)
    → Descends p points → AreClear f all p (map (straight_to true) points)
along_contour f all p [] leads falls = tt
along_contour f all p (q ∷ points) leads (rises, falls, later) = (
  λ at on. not_inside f all at (λ s e. on_first at on (leads at e)),
  along_contour f all q points (λ at e. (both (not (holds p q at.z) || is_below p q at) _ (leads at e)).1) later,
)
  where
    on_first : (at : Point) → IsOn p q at → is_below_each p (q ∷ points) at ≡ true → ⊥
    on_first at on e =
        let low : q.z ≤ℤ at.z = omega (arith, ints, on.along) in
        let high : at.z ≤ℤ p.z = omega (arith, ints, on.along) in
        let holds_it = holds_between p q at.z low high in
        let first = (both (not (holds p q at.z) || is_below p q at) _ e).0 in
        not_below_on p q at rises on (rw holds_it at first)

-- blocks to each point of the contour lead to its last one
ends_at_last : (p : Point) (points : List Point) → after_all p (map (straight_to true) points) ≡ last_of p points
ends_at_last p [] = refl
ends_at_last p (q ∷ points) = ends_at_last q points

-- the blocks to the contour, along it and back are clear, if the way to its first point is
contour_clear : (start p : Point) (points : List Point) (from : Point) → Descends p points → (last_of p points).x ≤ℤ start.x → p.x ≤ℤ from.x
    → IsClear p points from (point_after from (along_to false p)) → AreClear p points from (contour_blocks start p points)
contour_clear start p points from falls high right rise =
    let low = end_is_low p.x p points falls in
    let there : Point = record { x = from.x; z = p.z } in
    let last : Point = last_of p points in
    let off : Point = record { x = start.x; z = last.z } in (
      rise,
      (
        move_behind p.x p points there p falls (omega (arith, ints)) right (omega (arith, ints)) low low,
        clear_behind p points p (map (straight_to true) points) _ (along_contour p points p points (λ at e. e) falls)
            (subst (λ l. AreClear p points l (across_to true start ∷ along_to false start ∷ [])) (sym (ends_at_last p points))
            (move_right p points last off falls (omega (arith, ints)) high, (move_right p points off start falls high high, tt))),
      ),
    )

-- no move of G70 enters the contour
pub finish_clear : (r : Rough) (start : Point) → IsForm r → IsFinishStart r start → AreClear r.first r.points start (finish_blocks r start)
finish_clear r start form at_start =
    let falls = form.descends in
    let high = at_start.high in
    let rises = last_is_high r.first r.points falls in
    contour_clear start r.first r.points start falls high (omega (arith, ints)) (move_right r.first r.points start _ falls high high)

-- where a pass begins: at the start's Z, not left of the pass, and with a clear way to the
-- contour's first Z
record MayBegin (r : Rough) (k : ℕ) (from : Point) : Type 0 where
  -- it is at the start's Z
  level : from.z ≡ r.start.z
  -- its X is at least the pass's
  right : x_of_pass r k ≤ℤ from.x
  -- its X is at least that of the contour's first point
  of_first : (first_moved r).x ≤ℤ from.x
  -- the move from there along to the first point's Z is clear
  rise : IsClear (first_moved r) (points_moved r) from (point_after from (along_to false (first_moved r)))

-- a point that is not left of a pass, and not before its end
record IsPast (r : Rough) (k : ℕ) (at : Point) : Type 0 where
  -- its X is at least the pass's
  right : x_of_pass r k ≤ℤ at.x
  -- its Z is at least that of the pass's end
  behind : (pass_of r k).z ≤ℤ at.z

-- the contour of a form descends with its allowances
form_descends : (r : Rough) → IsForm r → Descends (first_moved r) (points_moved r)
form_descends r form = moved_descends r.across r.along r.first r.points form.descends

-- the start's X is at least that of the contour's last point with its allowance
form_high : (r : Rough) → IsForm r → (last_of (first_moved r) (points_moved r)).x ≤ℤ r.start.x
form_high r form = rw (last_moved r.across r.along r.first r.points) form.high

-- no move between two points past a pass that is not below the contour's first point enters the
-- contour
past_clear : (r : Rough) (k : ℕ) (from to : Point) → IsForm r → (first_moved r).x ≤ℤ x_of_pass r k → IsPast r k from → IsPast r k to → IsClear (first_moved r) (points_moved r) from to
past_clear r k from to form above a b = move_behind (x_of_pass r k) (first_moved r) (points_moved r) from to (form_descends r form) above a.right b.right a.behind b.behind

-- the moves of a pass are clear, and the next pass may begin after them
pass_clear : (r : Rough) (k : ℕ) (from : Point) (rest : List PlainBlock) → IsForm r → MayBegin r k from
    → is_made r (pass_of r k) ≡ true
    → ((next : Point) → MayBegin r (k + 1) next → AreClear (first_moved r) (points_moved r) next rest)
    → AreClear (first_moved r) (points_moved r) from (pass_blocks r (pass_of r k) ++ rest)
pass_clear r k from rest form begins made further = (
  past_clear r k from above form over at_from at_above,
  (
    past_clear r k above low form over at_above at_low,
    (
      past_clear r k low off form over at_low at_off,
      (
        past_clear r k off back form over at_off at_back,
        further back next,
      ),
    ),
  ),
)
  where
    x : ℤ
    x = x_of_pass r k

    end : ℤ
    end = (pass_of r k).z

    above : Point
    above = record { x = x; z = from.z }

    low : Point
    low = record { x = x; z = end }

    off : Point
    off = record { x = x +ℤ pos (2 * r.retreat); z = int_min (end +ℤ pos r.retreat) r.start.z }

    back : Point
    back = record { x = x +ℤ pos (2 * r.retreat); z = r.start.z }

    tests : (int_lt (first_moved r).x x ≡ true) × (int_lt end r.start.z ≡ true)
    tests = both _ _ made

    over : (first_moved r).x ≤ℤ x
    over = let less = lt_is (first_moved r).x x tests.0 in omega (arith, ints)

    down : end ≤ℤ r.start.z
    down = let less = lt_is end r.start.z tests.1 in omega (arith, ints)

    out : x ≤ℤ (x +ℤ pos (2 * r.retreat))
    out = omega (arith, ints)

    retreat : end ≤ℤ int_min (end +ℤ pos r.retreat) r.start.z
    retreat = not_before_least end (end +ℤ pos r.retreat) r.start.z (omega (arith, ints)) down

    at_from : IsPast r k from
    at_from = record { right = begins.right; behind = subst (λ z. end ≤ℤ z) (sym begins.level) down }

    at_above : IsPast r k above
    at_above = record { right = omega (arith, ints); behind = subst (λ z. end ≤ℤ z) (sym begins.level) down }

    at_low : IsPast r k low
    at_low = record { right = omega (arith, ints); behind = omega (arith, ints) }

    at_off : IsPast r k off
    at_off = record { right = out; behind = retreat }

    at_back : IsPast r k back
    at_back = record { right = out; behind = down }

    first_z : r.first.z ≡ r.start.z
    first_z = form.at_start

    top : Point
    top = record { x = x +ℤ pos (2 * r.retreat); z = (first_moved r).z }

    at_top : IsPast r k top
    at_top = record { right = out; behind = omega (arith, ints, first_z, down) }

    next : MayBegin r (k + 1) back
    next = record { level = refl; right = omega (arith, ints); of_first = omega (arith, ints, over, out); rise = past_clear r k back top form over at_back at_top }

-- the moves of the passes from k on, and of the contour after them, are clear
passes_clear : (r : Rough) (most k : ℕ) (from : Point) → IsForm r → MayBegin r k from
    → AreClear (first_moved r) (points_moved r) from (flat_map (pass_blocks r) (passes_from r k most) ++ contour_blocks r.start (first_moved r) (points_moved r))
unfolding passes_from
passes_clear r zero k from form begins = contour_clear r.start (first_moved r) (points_moved r) from (form_descends r form) (form_high r form) begins.of_first begins.rise
passes_clear r (suc most) k from form begins = go (is_made r (pass_of r k)) refl (λ next may. passes_clear r most (k + 1) next form may)
  where
    go : (b : Bool) → is_made r (pass_of r k) ≡ b
        → ((next : Point) → MayBegin r (k + 1) next → AreClear (first_moved r) (points_moved r) next (flat_map (pass_blocks r) (passes_from r (k + 1) most) ++ contour_blocks r.start (first_moved r) (points_moved r)))
        → AreClear (first_moved r) (points_moved r) from (flat_map (pass_blocks r) (cond b (pass_of r k ∷ passes_from r (k + 1) most) []) ++ contour_blocks r.start (first_moved r) (points_moved r))
    go true made further = pass_clear r k from (flat_map (pass_blocks r) (passes_from r (k + 1) most) ++ contour_blocks r.start (first_moved r) (points_moved r)) form begins made further
    go false made further = contour_clear r.start (first_moved r) (points_moved r) from (form_descends r form) (form_high r form) begins.of_first begins.rise

-- no move of G71 enters the contour with its allowances
pub rough_clear : (r : Rough) (most : ℕ) → IsForm r → AreClear (first_moved r) (points_moved r) r.start (rough_blocks r most)
rough_clear r most form =
    let falls = form_descends r form in
    let high = form_high r form in
    let rises = last_is_high (first_moved r) (points_moved r) falls in
    passes_clear r most 1 r.start form (record {
      level = refl;
      right = omega (arith, ints);
      of_first = omega (arith, ints, rises, high);
      rise = move_right (first_moved r) (points_moved r) r.start _ falls high high;
    })
