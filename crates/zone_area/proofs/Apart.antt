-- What lies in clear areas lies apart. The laws `clear_areas_keep_apart` and
-- `an_area_in_the_cell_holds_what_may_be_passed` (src/laws.rt) rest on it.
use Rattle.std.proofs.Common.{◌≡◌, ℕ, ◌≤◌, Bool, true, false, List, ℤ, pos, neg_ℤ, ◌+ℤ◌, ◌-ℤ◌, ◌*ℤ◌, ◌≤ℤ◌, ◌<ℤ◌, arith, inl, inr, if◌then◌else◌}
use Rattle.std.proofs.lemmas.Int.{ints}
use Rattle.nc_number.proofs.Bools.{either}
use Rattle.nc_number.specs.declared.point.Point.{Point}
use Rattle.nc_moves.specs.declared.motion.Move.{Move}
use Rattle.zone_area.specs.declared.area.Area.{Area}
use Rattle.zone_area.specs.declared.frame.Frame.{Frame}
use Rattle.nc_number.specs.Distances.{distance}
use Rattle.nc_number.proofs.Integers.{lt_is}
use Rattle.nc_number.specs.Signs.{signed_number}
use Rattle.zone_area.specs.Passing.{MayPassSome, IsInside, AreApart, point_in_cell}
use Rattle.zone_area.specs.Area.{area_of, area_in_cell, is_beyond, is_clear}
use Rattle.zone_area.proofs.Scaled.{scaled_lt, scaled_add, scaled_neg}
use Rattle.zone_area.proofs.InArea.{all_inside}
use Rattle.zone_area.proofs.Least.{area_holds}

-- the frame of a path moves a point and an area alike

-- along one axis, what lies between two lengths lies between them after a shift
shifted : (d : ℕ) (low high shift q : ℤ) → (pos d *ℤ low) ≤ℤ q → q ≤ℤ (pos d *ℤ high)
    → ((pos d *ℤ (low +ℤ shift)) ≤ℤ (q +ℤ pos d *ℤ shift)) × ((q +ℤ pos d *ℤ shift) ≤ℤ (pos d *ℤ (high +ℤ shift)))
shifted d low high shift q l h =
    let low_is = scaled_add d low shift in
    let high_is = scaled_add d high shift in
    (omega (arith, ints, low_is, l), omega (arith, ints, high_is, h))

-- along an axis that may be mirrored, what lies between two lengths lies between them after a shift
across : (d : ℕ) (mirror : Bool) (low high shift q : ℤ) → (pos d *ℤ low) ≤ℤ q → q ≤ℤ (pos d *ℤ high)
    → ((pos d *ℤ (signed_number mirror (if mirror then high else low) +ℤ shift)) ≤ℤ (signed_number mirror q +ℤ pos d *ℤ shift))
    × ((signed_number mirror q +ℤ pos d *ℤ shift) ≤ℤ (pos d *ℤ (signed_number mirror (if mirror then low else high) +ℤ shift)))
across d false low high shift q l h = shifted d low high shift q l h
across d true low high shift q l h =
    let low_is = scaled_neg d low in
    let high_is = scaled_neg d high in
    shifted d (neg_ℤ high) (neg_ℤ low) shift (neg_ℤ q) (rw high_is (omega (arith, ints, h))) (rw low_is (omega (arith, ints, l)))

-- a point in an area lies in it as both lie in the cell
pub in_cell : (d : ℕ) (frame : Frame) (area : Area) (q : Point) → IsInside d area q → IsInside d (area_in_cell frame area) (point_in_cell d frame q)
in_cell d frame area q i =
    let x = across d frame.mirror area.low.x area.high.x frame.shift.x q.x i.left i.right in
    let z = across d frame.mirror_z area.low.z area.high.z frame.shift.z q.z i.below i.above in
    record { left = x.0; right = x.1; below = z.0; above = z.1 }

-- a length that lies beyond another by more than the gap keeps what lies on its side as far apart
beyond : (d : ℕ) (gap high low p q : ℤ) → 1 ≤ d → is_beyond gap high low ≡ true → p ≤ℤ (pos d *ℤ high) → (pos d *ℤ low) ≤ℤ q
    → (pos d *ℤ gap) <ℤ (q -ℤ p)
beyond d gap high low p q some is ph lq =
    let less = scaled_lt d (high +ℤ gap) low some (lt_is (high +ℤ gap) low is) in
    let sum = scaled_add d high gap in
    let less' : (pos d *ℤ high +ℤ pos d *ℤ gap) <ℤ (pos d *ℤ low) = rw sum at less in
    omega (arith, ints, less', ph, lq)

-- if the second length is greater by more than the gap, their distance is more than the gap
second_beyond : (g p q : ℤ) → g <ℤ (q -ℤ p) → g <ℤ pos (distance p q)
second_beyond g p q less = omega (arith, ints, less)

-- if the first length is greater by more than the gap, their distance is more than the gap
first_beyond : (g p q : ℤ) → g <ℤ (p -ℤ q) → g <ℤ pos (distance p q)
first_beyond g p q less = omega (arith, ints, less)

-- two points of clear areas differ by more than the gap in X or in Z
pub clear_apart : (d : ℕ) (gap : Point) (a b : Area) (p q : Point) → 1 ≤ d → is_clear gap a b ≡ true → IsInside d a p → IsInside d b q → AreApart d gap p q
clear_apart d gap a b p q some clear i j = elim (either _ _ clear) [
  | inl x ↦ (elim (either _ _ x) [
    | inl up ↦ inl (second_beyond _ p.x q.x (beyond d gap.x a.high.x b.low.x p.x q.x some up i.right j.left))
    | inr down ↦ inl (first_beyond _ p.x q.x (beyond d gap.x b.high.x a.low.x q.x p.x some down j.right i.left))
  ])
  | inr z ↦ (elim (either _ _ z) [
    | inl up ↦ inr (second_beyond _ p.z q.z (beyond d gap.z a.high.z b.low.z p.z q.z some up i.above j.below))
    | inr down ↦ inr (first_beyond _ p.z q.z (beyond d gap.z b.high.z a.low.z q.z p.z some down j.above i.below))
  ])
]

-- the area of moves, in the cell, holds what they may pass there
pub cell_holds : (d : ℕ) (f : Frame) (at : Point) (moves : List Move) (q : Point) → MayPassSome d at moves q
    → IsInside d (area_in_cell f (area_of at moves)) (point_in_cell d f q)
cell_holds d f at moves q passed = in_cell d f (area_of at moves) q (all_inside d (area_of at moves) at moves q (area_holds at moves) passed)

-- points that the moves of two paths may pass differ by more than the gap if the areas of these
-- moves are clear in the cell
pub segments_apart : (d : ℕ) (gap : Point) (f g : Frame) (at to : Point) (left right : List Move) (p q : Point) → 1 ≤ d
    → is_clear gap (area_in_cell f (area_of at left)) (area_in_cell g (area_of to right)) ≡ true
    → MayPassSome d at left p → MayPassSome d to right q
    → AreApart d gap (point_in_cell d f p) (point_in_cell d g q)
segments_apart d gap f g at to left right p q some clear i j =
    clear_apart d gap (area_in_cell f (area_of at left)) (area_in_cell g (area_of to right)) (point_in_cell d f p) (point_in_cell d g q) some clear
    (in_cell d f (area_of at left) p (all_inside d (area_of at left) at left p (area_holds at left) i))
    (in_cell d g (area_of to right) q (all_inside d (area_of to right) to right q (area_holds to right) j))
