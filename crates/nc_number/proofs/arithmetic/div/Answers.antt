-- `div` answers the quotient, rounded to the millionth, or ZeroDivide or Overflow
-- (src/arithmetic.rt).
use Rattle.std.proofs.Common.{◌≡◌, pos, false, rules, arith}
use Rattle.std.specs.Prelude.{FitsSigned}
use Rattle.std.specs.Int.{w128}
use Rattle.std.proofs.lemmas.Int.{to_z-of_z}
use Rattle.nc_number.specs.Arithmetic.{is_zero}
use Rattle.nc_number.specs.Range.{InRange}
use Rattle.nc_number.proofs.Wide.{wide_is, wide_product_is, divides, quotient_is}
use Rattle.nc_number.proofs.arithmetic.div.Goals as goal

pub returns : goal.returns
returns c =
    let left = c.wide.ensures in
    let right = c.wide-divisor.ensures in
    let nonzero : is_zero c.wide-divisor.result ≡ false = divides c.wide-divisor.result c.if-divisor-eq0.false in
    let million : InRange (pos 1000000) = omega arith in
    let fits : FitsSigned w128 c.nearest_quotient.result = search rules in
    rw (
      c.checked.ensures,
      to_z-of_z w128 c.nearest_quotient.result fits,
      c.nearest_quotient.ensures,
      wide_is c.wide.result left.range,
      wide_is c.wide-divisor.result right.range,
      wide_product_is c.wide.result (pos 1000000) left.range million,
      ← left.count,
      ← right.count,
    )
    (quotient_is c.wide.result c.wide-divisor.result nonzero)
