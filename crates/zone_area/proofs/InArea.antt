-- An area that holds the ends of moves and the reach of their arcs holds what the moves may pass.
-- The law `an_area_holds_what_may_be_passed` (src/laws.rt) and Apart.antt rest on it.
use Rattle.std.proofs.Common.{◌≡◌, ℕ, ◌+◌, ◌*◌, ◌≤◌, List, [], ◌∷◌, Option, Some, None, unwrap_or, ℤ, pos, ◌+ℤ◌, ◌-ℤ◌, ◌*ℤ◌, ◌≤ℤ◌, arith, ◌⊎◌, inl, inr}
use Rattle.std.proofs.lemmas.Int.{ints}
use Rattle.std.proofs.Math.Nat.{mul-le-mul_left}
use Rattle.nc_number.specs.declared.point.Point.{Point}
use Rattle.nc_moves.specs.declared.motion.Centre.{Centre}
use Rattle.nc_moves.specs.declared.motion.Centre.TheVariants.{Offset, Radius}
use Rattle.nc_moves.specs.declared.motion.Move.{Move}
use Rattle.zone_area.specs.declared.area.Area.{Area}
use Rattle.nc_moves.specs.Motion.{end_of}
use Rattle.motion_track.specs.Circle.{place_of, square_between}
use Rattle.motion_track.specs.Within.{centre_in}
use Rattle.nc_number.specs.Distances.{distance, IsBetween}
use Rattle.zone_area.specs.Passing.{in_parts, middle_of, square_of, place_after, MayPassTo, MayPass, MayPassSome, IsInside}
use Rattle.zone_area.specs.Area.{reach_of, Holds, HoldsAround, HoldsEnd, HoldsAll}
use Rattle.zone_area.proofs.Scaled.{scaled_le, scaled_add, scaled_sub}
use Rattle.nc_number.proofs.Roots.{root_le}
use Rattle.zone_area.proofs.LeastRoot.{root_reaches}

-- a whole point that an area holds lies in it in parts too
held : (d : ℕ) (area : Area) (p q : Point) → Holds area p → q ≡ in_parts d p → IsInside d area q
held d area p q h is = rw is (record {
  left = scaled_le d area.low.x p.x h.left;
  right = scaled_le d p.x area.high.x h.right;
  below = scaled_le d area.low.z p.z h.below;
  above = scaled_le d p.z area.high.z h.above;
})

-- what lies in parts between two lengths lies between the bounds of both
between : (d : ℕ) (low high a b q : ℤ) → low ≤ℤ a → a ≤ℤ high → low ≤ℤ b → b ≤ℤ high
    → IsBetween (pos d *ℤ a) q (pos d *ℤ b) → ((pos d *ℤ low) ≤ℤ q) × (q ≤ℤ (pos d *ℤ high))
between d low high a b q la ah lb bh is =
    let la' = scaled_le d low a la in
    let ah' = scaled_le d a high ah in
    let lb' = scaled_le d low b lb in
    let bh' = scaled_le d b high bh in
    elim is [
      | inl up ↦ (omega (arith, ints, up, la', ah', lb', bh'), omega (arith, ints, up, la', ah', lb', bh'))
      | inr down ↦ (omega (arith, ints, down, la', ah', lb', bh'), omega (arith, ints, down, la', ah', lb', bh'))
    ]

-- a length whose square is at most d * d times a square within that of the reach is at most d times
-- the reach
reached : (d square reach n : ℕ) → square ≤ reach * reach → n * n ≤ d * d * square → n ≤ d * reach
reached d square reach n reaches within =
    let scaled : d * d * square ≤ d * d * (reach * reach) = mul-le-mul_left (d * d) reaches in
    root_le n (d * reach) (omega (arith, scaled, within))

-- a length in parts that lies no farther from the middle than the reach lies between the bounds
near : (d reach : ℕ) (low high middle q : ℤ) → low ≤ℤ (middle -ℤ pos reach) → (middle +ℤ pos reach) ≤ℤ high
    → distance (pos d *ℤ middle) q ≤ d * reach → ((pos d *ℤ low) ≤ℤ q) × (q ≤ℤ (pos d *ℤ high))
near d reach low high middle q l h within =
    let low_is = scaled_le d low (middle -ℤ pos reach) l in
    let high_is = scaled_le d (middle +ℤ pos reach) high h in
    let difference = scaled_sub d middle (pos reach) in
    let sum = scaled_add d middle (pos reach) in
    let low_at : (pos d *ℤ low) ≤ℤ (pos d *ℤ middle -ℤ pos (d * reach)) = rw difference at low_is in
    let high_at : (pos d *ℤ middle +ℤ pos (d * reach)) ≤ℤ (pos d *ℤ high) = rw sum at high_is in
    (omega (arith, ints, low_at, within), omega (arith, ints, high_at, within))

-- two factors change places
twice : (d : ℕ) (z : ℤ) → pos d *ℤ (pos 2 *ℤ z) ≡ pos 2 *ℤ (pos d *ℤ z)
twice d z =
    let e : pos 2 *ℤ z ≡ (z +ℤ z) = omega (arith, ints) in
    let sum = scaled_add d z z in
    rw (e, sum) (omega (arith, ints))

-- a length in parts whose double lies no farther from the doubled middle than the reach lies
-- between the bounds
near_twice : (d reach : ℕ) (low high middle q : ℤ) → (pos 2 *ℤ low) ≤ℤ (pos 2 *ℤ middle -ℤ pos reach) → (pos 2 *ℤ middle +ℤ pos reach) ≤ℤ (pos 2 *ℤ high)
    → distance (pos 2 *ℤ (pos d *ℤ middle)) (pos 2 *ℤ q) ≤ d * reach → ((pos d *ℤ low) ≤ℤ q) × (q ≤ℤ (pos d *ℤ high))
near_twice d reach low high middle q l h within =
    let m = twice d middle in
    let far : distance (pos d *ℤ (pos 2 *ℤ middle)) (pos 2 *ℤ q) ≤ d * reach = rw m within in
    let both = near d reach (pos 2 *ℤ low) (pos 2 *ℤ high) (pos 2 *ℤ middle) (pos 2 *ℤ q) l h far in
    let left = both.0 in
    let right = both.1 in
    let low_is = twice d low in
    let high_is = twice d high in
    (omega (arith, ints, left, low_is), omega (arith, ints, right, high_is))

-- the first of two squares is at most their sum
first_part : (a b n : ℕ) → a * a + b * b ≤ n → a * a ≤ n
first_part a b n within = omega (arith, within)

-- the second of two squares is at most their sum
second_part : (a b n : ℕ) → a * a + b * b ≤ n → b * b ≤ n
second_part a b n within = omega (arith, within)

-- a point no farther from the middle than the reach lies in the area around it
around : (d square reach : ℕ) (area : Area) (middle q : Point) → square ≤ reach * reach → HoldsAround area middle reach
    → square_between (place_of (in_parts d middle)) (place_of q) ≤ d * d * square → IsInside d area q
around d square reach area middle q reaches h within =
    let across = distance (pos d *ℤ middle.x) q.x in
    let along = distance (pos 2 *ℤ (pos d *ℤ middle.z)) (pos 2 *ℤ q.z) in
    let x = near d reach area.low.x area.high.x middle.x q.x h.left h.right (reached d square reach _ reaches (first_part across along _ within)) in
    let z = near_twice d reach area.low.z area.high.z middle.z q.z h.below h.above (reached d square reach _ reaches (second_part across along _ within)) in
    record { left = x.0; right = x.1; below = z.0; above = z.1 }

-- the reach is at least as far as the arc may go
square_reached : (at to : Point) (centre : Centre) → square_of at to centre ≤ reach_of at to centre * reach_of at to centre
square_reached at to (Offset i k) = root_reaches (square_of at to (Offset i k))
square_reached at to (Radius r) = omega arith

-- what one move may pass lies in an area that holds its ends and its reach
end_inside : (d : ℕ) (area : Area) (at : Point) (end : Option Point) (centre : Option Centre) (q : Point)
    → Holds area at → HoldsEnd area at end centre → MayPassTo d at end centre q → IsInside d area q
end_inside d area at None centre q h m p = held d area at q h p
end_inside d area at (Some to) None q h m p =
    let x = between d area.low.x area.high.x at.x to.x q.x h.left h.right m.left m.right p.0 in
    let z = between d area.low.z area.high.z at.z to.z q.z h.below h.above m.below m.above p.1 in
    record { left = x.0; right = x.1; below = z.0; above = z.1 }
end_inside d area at (Some to) (Some centre) q h m p = elim p [
  | inl start ↦ held d area at q h start
  | inr (inl end) ↦ held d area to q m.0 end
  | inr (inr near) ↦ around d (square_of at to centre) (reach_of at to centre) area (middle_of at centre) q (square_reached at to centre) m.1 near
]

-- an area that holds the place before a move and the end of the move holds the place after it
end_held : (area : Area) (at : Point) (end : Option Point) (centre : Option Centre) → Holds area at → HoldsEnd area at end centre → Holds area (unwrap_or end at)
end_held area at None centre h m = h
end_held area at (Some to) None h m = m
end_held area at (Some to) (Some centre) h m = m.0

-- what several moves may pass lies in an area that holds their ends and the reach of their arcs
pub all_inside : (d : ℕ) (area : Area) (at : Point) (moves : List Move) (q : Point) → HoldsAll area at moves → MayPassSome d at moves q → IsInside d area q
all_inside d area at [] q h p = held d area at q h.0 p
all_inside d area at (move ∷ moves) q h p = go p (λ rest. all_inside d area (place_after at move) moves q (end_held area at (end_of move) (centre_in move) h.0 h.1.0, h.1.1) rest)
  where
    go : MayPass d at move q ⊎ MayPassSome d (place_after at move) moves q → (MayPassSome d (place_after at move) moves q → IsInside d area q) → IsInside d area q
    go (inl here) rest = end_inside d area at (end_of move) (centre_in move) q h.0 h.1.0 here
    go (inr later) rest = rest later
