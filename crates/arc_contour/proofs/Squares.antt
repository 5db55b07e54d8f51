-- Squares of lengths fit 128 bits.
use Rattle.std.proofs.Common.{ℕ, ◌+◌, ◌*◌, ◌≤◌, arith}
use Rattle.std.proofs.Math.Nat.{mul-le-mul}
use Rattle.arc_contour.specs.declared.way.Way.{Way}
use Rattle.arc_contour.specs.declared.way.Way.TheVariants.{Along, Across}
use Rattle.arc_contour.specs.Edges.{square_of}

-- the square of a length of at most 2,000 km
pub square_bound : (a : ℕ) → a ≤ 2000000000000 → a * a ≤ 4000000000000000000000000
square_bound a le = let squares : a * a ≤ 2000000000000 * 2000000000000 = mul-le-mul le le in squares

-- the square of a way of at most 2,000 km across and along
pub square_far : (way : Way) (a l : ℕ) → a ≤ 2000000000000 → l ≤ 2000000000000 → square_of way a l ≤ 20000000000000000000000000
square_far Along a l across along = let first = square_bound a across in let second = square_bound l along in omega (arith, first, second)
square_far Across a l across along = let first = square_bound a across in let second = square_bound l along in omega (arith, first, second)
