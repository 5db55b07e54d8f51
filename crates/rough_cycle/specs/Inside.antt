-- What lies inside a contour: the part that may not be cut. A point is inside if each segment that
-- its Z lies in is above it, and there is one. `inside` (src/contour.rt) computes it; the laws of
-- src/law.rt are said by it. Crates above rest on it through Moves.
use Rattle.std.specs.Prelude.{◌≤◌, Bool, true, false, not, ◌&&◌, ◌||◌, List, [], ◌∷◌, ℤ, pos, ◌-ℤ◌, ◌*ℤ◌, unsigned_abs, int_lt, int_le, if◌then◌else◌}
use Rattle.std.specs.Ordering.{int_eq}
use Rattle.nc_number.specs.declared.point.Point.{Point}
use Rattle.nc_number.specs.Distances.{distance}

-- whether z lies between the Z of two points, both included
unfoldable pub holds : Point → Point → ℤ → Bool
holds p q z = (int_le q.z z && int_le z p.z) || (int_le p.z z && int_le z q.z)

-- whether the point's X is strictly below the line through p and q, in cross products; its Z lies
-- between theirs
abbrev pub is_below_line : Point → Point → Point → Bool
is_below_line p q at = int_lt ((at.x -ℤ p.x) *ℤ pos (distance q.z p.z)) ((q.x -ℤ p.x) *ℤ pos (distance at.z p.z))

-- whether the point's X is strictly below the segment from p to q: below the line if the ends
-- differ in Z, else below both ends
unfoldable pub is_below : Point → Point → Point → Bool
is_below p q at =
    if int_eq p.z q.z
    then int_lt at.x p.x && int_lt at.x q.x
    else is_below_line p q at

-- whether some segment of the contour has the Z within its ends
abbrev pub some_holds : Point → List Point → ℤ → Bool
some_holds p [] z = false
some_holds p (q ∷ points) z = holds p q z || some_holds q points z

-- whether the point is below each segment that its Z lies in
abbrev pub is_below_each : Point → List Point → Point → Bool
is_below_each p [] at = true
is_below_each p (q ∷ points) at = (not (holds p q at.z) || is_below p q at) && is_below_each q points at

-- whether the point is inside the contour of this first point and those after it
abbrev pub is_inside_from : Point → List Point → Point → Bool
is_inside_from p points at = some_holds p points at.z && is_below_each p points at

-- whether the point is inside a contour; one without a point has no inside
abbrev pub is_inside : List Point → Point → Bool
is_inside [] at = false
is_inside (p ∷ points) at = is_inside_from p points at

-- both lengths of a point are within 1,000 km, so that no product is too large
abbrev pub IsNear : Point → Type 0
IsNear p = (unsigned_abs p.x ≤ 1000000000000) × (unsigned_abs p.z ≤ 1000000000000)
