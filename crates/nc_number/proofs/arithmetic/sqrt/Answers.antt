-- `sqrt` answers the root, cut to the millionth, or NegativeRoot (src/arithmetic.rt).
use Rattle.std.proofs.Common.{◌≡◌, ◌*◌, ◌+◌, ◌<◌, ◌≤◌, pos, false, subst, arith}
use Rattle.std.specs.Prelude.{unsigned_abs}
use Rattle.std.specs.Int.{w128, is_negative}
use Rattle.std.proofs.lemmas.Int.{to_z_pos, unsigned_abs-mul}
use Rattle.nc_number.specs.Range.{InRange}
use Rattle.nc_number.proofs.Wide.{wide_is, wide_product_is, root_is}
use Rattle.nc_number.proofs.arithmetic.sqrt.Goals as goal

pub returns : goal.returns
returns c =
    let micro = c.wide-micro.result in
    let range = c.wide-micro.ensures.range in
    let million : InRange (pos 1000000) = omega arith in
    let sign : is_negative micro ≡ false = rw (wide_is micro range) at c.if-micro-lt0.false in
    let size : c.unsigned_abs.result ≡ unsigned_abs micro * 1000000 =
    rw (c.unsigned_abs.ensures.value, wide_is micro range, wide_product_is micro (pos 1000000) range million)
    (unsigned_abs-mul micro (pos 1000000)) in
    let low = subst (λ n. c.isqrt.result * c.isqrt.result ≤ n) size c.isqrt.ensures.square_le in
    let high = subst (λ n. n < (c.isqrt.result + 1) * (c.isqrt.result + 1)) size c.isqrt.ensures.next_square_gt in
    rw (c.checked.ensures, to_z_pos w128 c.isqrt.result (omega (arith, c.isqrt.ensures.bound)), ← c.wide-micro.ensures.count)
    (root_is micro c.isqrt.result range sign low high)
