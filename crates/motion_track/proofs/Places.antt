-- Lengths, and squares of distances in 0.0005 mm, fit numbers of 64 and 128 bits. `reached`
-- (src/targets.rt), `centre_from` and `squared` (src/circle.rt) rest on it.
-- The longest length of a block is 100,000,000,000,000 (in 0.001 mm), so a target is twice that at
-- most. Two places are 800,000,000,000,000 apart at most along each axis.
use Rattle.std.proofs.Common.{◌≡◌, ℕ, ◌*◌, ◌≤◌, ◌∙◌, ap, arith, ℤ, unsigned_abs, to_z, of_z, w64}
use Rattle.std.proofs.Math.Nat.{mul-le-mul}
use Rattle.std.proofs.lemmas.Int.{to_z-of_z, fits_signed_from_abs}
use Rattle.nc_number.specs.declared.axis.Axis.{Axis}
use Rattle.motion_track.specs.declared.circle.Place.{Place}
use Rattle.motion_track.specs.Target.{part_of}

-- the square of the longest distance that arises
pub square_bound : (d : ℕ) → d ≤ 800000000000000 → d * d ≤ 640000000000000000000000000000
square_bound d le = let squares : d * d ≤ 800000000000000 * 800000000000000 = mul-le-mul le le in squares

-- places with equal parts are equal
pub same_place : (p q : Place) → p.across ≡ q.across → p.along ≡ q.along → p ≡ q
same_place p q across along =
    let at : ℤ → ℤ → Place = λ a b. record { across = a; along = b } in
    ap (λ a. at a p.along) across ∙ ap (λ b. at q.across b) along

-- a length of 200,000,000,000,000 at most is stored as it is in 64 bits
stored : (z : ℤ) → unsigned_abs z ≤ 200000000000000 → to_z w64 (of_z w64 z) ≡ z
stored z within = to_z-of_z w64 z (fits_signed_from_abs w64 z (omega arith))

-- where an axis word leads, from the lengths as they are stored
pub stored_part : (at shift part : ℤ) (axis : Axis) → unsigned_abs at ≤ 100000000000000 → unsigned_abs shift ≤ 100000000000000 → unsigned_abs part ≤ 200000000000000 → part ≡ part_of (to_z w64 (of_z w64 at)) (to_z w64 (of_z w64 shift)) axis → to_z w64 (of_z w64 part) ≡ part_of at shift axis
stored_part at shift part axis near_at near_shift near is =
    let at_is : to_z w64 (of_z w64 at) ≡ at = stored at (omega arith) in
    let shift_is : to_z w64 (of_z w64 shift) ≡ shift = stored shift (omega arith) in
    stored part near ∙ (rw (at_is, shift_is) at is)
