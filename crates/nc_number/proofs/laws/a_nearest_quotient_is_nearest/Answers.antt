-- No multiple of the divisor is nearer to the dividend than the one by the rounded quotient (a law
-- of src/laws.rt).
use Rattle.nc_number.proofs.NearestQuotient.{quotient_is_near}
use Rattle.nc_number.proofs.laws.a_nearest_quotient_is_nearest.Goals as goal

pub returns : goal.returns
returns c = quotient_is_near
