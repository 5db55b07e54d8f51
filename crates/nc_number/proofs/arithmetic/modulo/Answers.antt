-- `modulo` answers the remainder of the division, or ZeroDivide (src/arithmetic.rt).
use Rattle.std.proofs.Common.{◌≡◌, false}
use Rattle.nc_number.specs.Arithmetic.{is_zero}
use Rattle.nc_number.proofs.Wide.{wide_is, wide_rest_is, divides, remainder_is}
use Rattle.nc_number.proofs.arithmetic.modulo.Goals as goal

pub returns : goal.returns
returns c =
    let left = c.wide.ensures in
    let right = c.wide-divisor.ensures in
    let nonzero : is_zero c.wide-divisor.result ≡ false = divides c.wide-divisor.result c.if-divisor-eq0.false in
    rw (
      c.checked.ensures,
      wide_is c.wide.result left.range,
      wide_is c.wide-divisor.result right.range,
      wide_rest_is c.wide.result c.wide-divisor.result nonzero right.range,
      ← left.count,
      ← right.count,
    )
    (remainder_is c.wide.result c.wide-divisor.result nonzero right.range)
