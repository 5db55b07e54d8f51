-- A remainder is smaller than the divisor, signs aside; it is 0 or has the dividend's sign; and it
-- differs from the dividend by a multiple of the divisor (a law of src/laws.rt).
use Rattle.nc_number.proofs.Remainders.{rest_is_smaller, rest_keeps_sign, rest_of_multiples}
use Rattle.nc_number.proofs.laws.a_remainder_keeps_the_sign.Goals as goal

pub returns-clause-smaller : goal.returns-clause-smaller
returns-clause-smaller c = rest_is_smaller

pub returns-clause-sign : goal.returns-clause-sign
returns-clause-sign c = rest_keeps_sign

pub returns-clause-multiple : goal.returns-clause-multiple
returns-clause-multiple c = rest_of_multiples
