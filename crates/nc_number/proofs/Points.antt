-- When two points are equal, and that a point which passes the test of a position is one. This
-- crate takes none.
use Rattle.std.proofs.Common.{◌≡◌, true, ℤ, ap, ◌∙◌, arith}
use Rattle.std.proofs.lemmas.Bool.Decides.{nat_tests}
use Rattle.nc_number.specs.declared.point.Point.{Point}
use Rattle.nc_number.specs.Position.{is_position, IsPosition}

-- points with equal parts are equal
pub same_point : (p q : Point) → p.x ≡ q.x → p.z ≡ q.z → p ≡ q
same_point p q x z =
    let at : ℤ → ℤ → Point = λ a b. record { x = a; z = b } in
    ap (λ a. at a p.z) x ∙ ap (λ b. at q.x b) z

-- a point that passes the test of a position is one
pub tested_position : (p : Point) → is_position p ≡ true → IsPosition p
tested_position p test = grind (arith, nat_tests)
