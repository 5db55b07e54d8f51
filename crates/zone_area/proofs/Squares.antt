-- Squares and lengths of areas as numbers of 64 and 128 bits, and areas with equal parts. The
-- functions of arc.rt, area.rt, clear.rt and frame.rt (src) rest on it.
use Rattle.std.proofs.Common.{◌≡◌, ℕ, ◌+◌, max, pos, ◌-ℤ◌, ◌*ℤ◌, sym, ◌*◌, ◌≤◌, ◌∙◌, ap, refl, arith, Bool, if◌then◌else◌, ◌+ℤ◌, ℤ, unsigned_abs, to_z, of_z, w64}
use Rattle.std.specs.Int.{int_min, int_max}
use Rattle.std.proofs.lemmas.Int.{to_z-of_z, fits_signed_from_abs, ints}
use Rattle.std.proofs.Math.Nat.{mul-le-mul}
use Rattle.nc_number.specs.declared.point.Point.{Point}
use Rattle.zone_area.specs.declared.area.Area.{Area}
use Rattle.nc_moves.specs.declared.motion.Centre.TheVariants.{Offset}
use Rattle.motion_track.specs.Circle.{place_of, centre_from, square_between}
use Rattle.nc_number.proofs.Points.{same_point}
use Rattle.zone_area.specs.Roots.{least_root}
use Rattle.nc_number.specs.Signs.{signed_number}
use Rattle.zone_area.specs.Passing.{middle_of}
use Rattle.zone_area.specs.Area.{reach_of, lie_apart, hull_of}
use Rattle.zone_area.specs.Range.{far_apart, far_square, far_in_cell, IsAreaWithin}

-- the square of a distance within range is within range
pub square_bound : (d : ℕ) → d ≤ far_apart → d * d ≤ far_square
square_bound d le = let squares : d * d ≤ 700000000000000 * 700000000000000 = mul-le-mul le le in squares

-- areas with the same four lengths are one
pub same_area : (a b : Area) → a.low.x ≡ b.low.x → a.low.z ≡ b.low.z → a.high.x ≡ b.high.x → a.high.z ≡ b.high.z → a ≡ b
same_area a b lx lz hx hz =
    let at : Point → Point → Area = λ p q. record { low = p; high = q } in
    ap (λ p. at p a.high) (same_point a.low b.low lx lz) ∙ ap (λ q. at b.low q) (same_point a.high b.high hx hz)

-- a length that is stored is the length
stored : (r z : ℤ) → r ≡ z → unsigned_abs r ≤ far_in_cell → to_z w64 (of_z w64 r) ≡ z
stored r z is near = to_z-of_z w64 r (fits_signed_from_abs w64 r (omega arith)) ∙ is

-- an edge in the cell, from lengths as they are stored
pub edge_stored : (mirror : Bool) (r e o s e' o' s' : ℤ) → r ≡ (signed_number mirror (if mirror then o' else e') +ℤ s')
    → e' ≡ e → o' ≡ o → s' ≡ s → unsigned_abs r ≤ far_in_cell
    → to_z w64 (of_z w64 r) ≡ (signed_number mirror (if mirror then o else e) +ℤ s)
edge_stored mirror r e o s e' o' s' is e_is o_is s_is near =
    stored r (signed_number mirror (if mirror then o else e) +ℤ s) (is ∙ rw (e_is, o_is, s_is) refl) near

-- whether two spans lie apart, from lengths as they are stored
pub apart_stored : (r : Bool) (g l h k i : ℤ)
    → unsigned_abs g ≤ far_in_cell → unsigned_abs l ≤ far_in_cell → unsigned_abs h ≤ far_in_cell
    → unsigned_abs k ≤ far_in_cell → unsigned_abs i ≤ far_in_cell
    → r ≡ lie_apart (to_z w64 (of_z w64 g)) (to_z w64 (of_z w64 l)) (to_z w64 (of_z w64 h)) (to_z w64 (of_z w64 k)) (to_z w64 (of_z w64 i))
    → r ≡ lie_apart g l h k i
apart_stored r g l h k i ng nl nh nk ni is =
    is ∙ rw (stored g g refl ng, stored l l refl nl, stored h h refl nh, stored k k refl nk, stored i i refl ni) refl

-- the lesser of two lengths is what the code stores in 64 bits
pub lesser_stored : (r a b : ℤ) → unsigned_abs a ≤ far_in_cell → unsigned_abs b ≤ far_in_cell → unsigned_abs r ≤ far_in_cell
    → r ≡ int_min (to_z w64 (of_z w64 a)) (to_z w64 (of_z w64 b)) → to_z w64 (of_z w64 r) ≡ int_min a b
lesser_stored r a b na nb nr is = stored r (int_min a b) (is ∙ rw (stored a a refl na, stored b b refl nb) refl) nr

-- the greater of two lengths is what the code stores in 64 bits
pub greater_stored : (r a b : ℤ) → unsigned_abs a ≤ far_in_cell → unsigned_abs b ≤ far_in_cell → unsigned_abs r ≤ far_in_cell
    → r ≡ int_max (to_z w64 (of_z w64 a)) (to_z w64 (of_z w64 b)) → to_z w64 (of_z w64 r) ≡ int_max a b
greater_stored r a b na nb nr is = stored r (int_max a b) (is ∙ rw (stored a a refl na, stored b b refl nb) refl) nr

-- the middle of an arc by its centre, where the test of the arc's end has it
middle_place : (at : Point) (i k : ℤ) → place_of (middle_of at (Offset i k)) ≡ centre_from (place_of at) i k
middle_place at i k =
    let e : pos 2 *ℤ (at.z +ℤ k) ≡ (pos 2 *ℤ at.z +ℤ pos 2 *ℤ k) = omega (arith, ints) in
    ap (λ along. record { across = at.x +ℤ pos 2 *ℤ i; along = along }) e

-- the distance of two lengths that are doubled is doubled
doubled : (a b : ℤ) → unsigned_abs (pos 2 *ℤ a -ℤ pos 2 *ℤ b) ≡ 2 * unsigned_abs (a -ℤ b)
doubled a b = omega (arith, ints)

-- the square of a distance, as the code adds it up
pub squares_between : (a b : Point) (across along s t : ℕ) → across ≡ unsigned_abs (a.x -ℤ b.x) → along ≡ unsigned_abs (a.z -ℤ b.z)
    → s ≡ across * across → t ≡ (2 * along) * (2 * along) → s + t ≡ square_between (place_of a) (place_of b)
squares_between a b across along s t across_is along_is s_is t_is =
    let twice : 2 * along ≡ unsigned_abs (pos 2 *ℤ a.z -ℤ pos 2 *ℤ b.z) = ap (λ n. 2 * n) along_is ∙ sym (doubled a.z b.z) in
    ap (λ n. n + t) (s_is ∙ ap (λ n. n * n) across_is)
    ∙ ap (λ n. unsigned_abs (a.x -ℤ b.x) * unsigned_abs (a.x -ℤ b.x) + n) (t_is ∙ ap (λ n. n * n) twice)

-- the reach of an arc, as the code finds it
pub root_reached : (at to m : Point) (i k : ℤ) (p q most root : ℕ) → m ≡ middle_of at (Offset i k)
    → p ≡ square_between (place_of m) (place_of at) → q ≡ square_between (place_of m) (place_of to)
    → most ≡ max p q → root ≡ least_root most → root ≡ reach_of at to (Offset i k)
root_reached at to m i k p q most root m_is p_is q_is most_is root_is =
    let middle : place_of m ≡ centre_from (place_of at) i k = ap place_of m_is ∙ middle_place at i k in
    let first : p ≡ square_between (centre_from (place_of at) i k) (place_of at) = p_is ∙ ap (λ c. square_between c (place_of at)) middle in
    let second : q ≡ square_between (centre_from (place_of at) i k) (place_of to) = q_is ∙ ap (λ c. square_between c (place_of to)) middle in
    root_is ∙ ap least_root (most_is ∙ ap (λ n. max n q) first ∙ ap (λ n. max (square_between (centre_from (place_of at) i k) (place_of at)) n) second)

-- how far two lengths are apart, from lengths as they are stored
pub distance_stored : (n : ℕ) (a b : ℤ) → unsigned_abs a ≤ far_in_cell → unsigned_abs b ≤ far_in_cell
    → n ≡ unsigned_abs (to_z w64 (of_z w64 a) -ℤ to_z w64 (of_z w64 b)) → n ≡ unsigned_abs (a -ℤ b)
distance_stored n a b na nb is = is ∙ rw (stored a a refl na, stored b b refl nb) refl

-- the lesser of two lengths is as near to 0 as both are
lesser_within : (far : ℕ) (a b : ℤ) → unsigned_abs a ≤ far → unsigned_abs b ≤ far → unsigned_abs (int_min a b) ≤ far
lesser_within far a b na nb = grind (arith, ints)

-- the greater of two lengths is as near to 0 as both are
greater_within : (far : ℕ) (a b : ℤ) → unsigned_abs a ≤ far → unsigned_abs b ≤ far → unsigned_abs (int_max a b) ≤ far
greater_within far a b na nb = grind (arith, ints)

-- the hull of two areas is as near to 0 as both are
pub hull_within : (far : ℕ) (a b : Area) → IsAreaWithin far a → IsAreaWithin far b → IsAreaWithin far (hull_of a b)
hull_within far a b na nb = (
  (lesser_within far a.low.x b.low.x na.0.0 nb.0.0, lesser_within far a.low.z b.low.z na.0.1 nb.0.1),
  (greater_within far a.high.x b.high.x na.1.0 nb.1.0, greater_within far a.high.z b.high.z na.1.1 nb.1.1),
)
