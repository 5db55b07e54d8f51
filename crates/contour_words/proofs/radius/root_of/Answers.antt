-- The root rounded down is the greatest number whose square is at most this one (`root_of`,
-- src/radius.rt).
use Rattle.std.proofs.Common.{◌≡◌, ◌≤◌, arith}
use Rattle.std.proofs.lemmas.Int.{ints}
use Rattle.nc_number.specs.Arithmetic.{square_root}
use Rattle.nc_number.proofs.Roots.{square_root_is, root_le}
use Rattle.contour_words.proofs.radius.root_of.Goals as goal

pub returns-clause-root : goal.returns-clause-root
returns-clause-root c =
    let root : square_root c.args.square ≡ c.isqrt.result = square_root_is c.args.square c.isqrt.result c.isqrt.ensures.square_le c.isqrt.ensures.next_square_gt in
    let small : c.isqrt.result ≤ 100000000000000000 = root_le c.isqrt.result 100000000000000000 (omega (arith, c.requires, c.isqrt.ensures.square_le)) in
    omega (arith, ints, root, small)

pub returns-clause-near : goal.returns-clause-near
returns-clause-near c =
    let small : c.isqrt.result ≤ 100000000000000000 = root_le c.isqrt.result 100000000000000000 (omega (arith, c.requires, c.isqrt.ensures.square_le)) in
    omega (arith, ints, small)
