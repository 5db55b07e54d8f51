-- A contour of lines: its first point, and the points after it. In 0.001 mm, X a diameter.
-- Roughing, src/form.rt and the laws of src/law.rt cite it.
use Rattle.std.specs.Prelude.{ℕ, List, [], ◌∷◌, map, pos, ◌+ℤ◌, ◌≤ℤ◌}
use Rattle.nc_number.specs.declared.point.Point.{Point}

-- a point with the finishing allowance: u in X, w in Z
abbrev pub moved_point : ℕ → ℕ → Point → Point
moved_point u w p = record { x = p.x +ℤ pos u; z = p.z +ℤ pos w }

-- points with the finishing allowance: u in X, w in Z
abbrev pub moved_points : ℕ → ℕ → List Point → List Point
moved_points u w points = map (moved_point u w) points

-- from this first point on, X does not fall and Z does not rise
abbrev pub Descends : Point → List Point → Type 0
Descends p [] = Unit {0}
Descends p (q ∷ points) = (p.x ≤ℤ q.x) × (q.z ≤ℤ p.z) × Descends q points

-- the last point of the contour
abbrev pub last_of : Point → List Point → Point
last_of p [] = p
last_of p (q ∷ points) = last_of q points
