-- `mul` answers the product, rounded to the millionth, or Overflow (src/arithmetic.rt).
use Rattle.std.proofs.Common.{rules}
use Rattle.std.specs.Prelude.{FitsSigned}
use Rattle.std.specs.Int.{w128}
use Rattle.std.proofs.lemmas.Int.{to_z-of_z}
use Rattle.nc_number.proofs.Wide.{wide_is, wide_product_is, product_is}
use Rattle.nc_number.proofs.arithmetic.mul.Goals as goal

pub returns : goal.returns
returns c =
    let left = c.wide.ensures in
    let right = c.wide-2.ensures in
    let fits : FitsSigned w128 c.nearest_quotient.result = search rules in
    rw (
      c.checked.ensures,
      to_z-of_z w128 c.nearest_quotient.result fits,
      c.nearest_quotient.ensures,
      wide_is c.wide.result left.range,
      wide_is c.wide-2.result right.range,
      wide_product_is c.wide.result c.wide-2.result left.range right.range,
      ← left.count,
      ← right.count,
    )
    (product_is c.wide.result c.wide-2.result)
