-- The point at a place (`point_at`, src/points.rt).
use Rattle.std.proofs.Common.{◌≡◌, ◌≤◌, pos, unsigned_abs, arith, refl, ℤ, to_z, of_z, w64}
use Rattle.std.specs.Prelude.{int_div}
use Rattle.std.specs.Int.{w128}
use Rattle.std.proofs.lemmas.Int.{ints}
use Rattle.nc_number.specs.declared.point.Point.{Point}
use Rattle.plane_ways.proofs.points.point_at.Goals as goal

same_point : (a b x y : ℤ) → a ≡ x → b ≡ y → ◌≡◌ {A = Point} (record { x = a; z = b }) (record { x = x; z = y })
same_point a b x y is_a is_b = rw (is_a, is_b) refl

-- half a small number, stored and cast
half_is : (x : ℤ) → unsigned_abs x ≤ 400000000 → to_z w64 (of_z w64 (to_z w128 (of_z w128 (int_div (to_z w128 (of_z w128 x)) (pos 2))))) ≡ int_div x (pos 2)
half_is x near = omega (arith, ints)

pub returns : goal.returns
returns c =
    let at = c.requires in
    same_point _ _ _ _ (omega (arith, ints, at)) (half_is c.args.at.now.along at.1)
