-- Of two whole numbers that are equally near to a quotient, the one farther from zero is the
-- rounded one (a law of src/laws.rt).
use Rattle.nc_number.proofs.NearestQuotient.{quotient_is_far_from_zero}
use Rattle.nc_number.proofs.laws.halves_go_away_from_zero.Goals as goal

pub returns : goal.returns
returns c = quotient_is_far_from_zero
