-- A literal of a tape without a point writes as many whole units as it counts thousandths (a law of
-- src/laws.rt).
use Rattle.nc_number.proofs.LiteralsThatRead.{literal_without_point}
use Rattle.nc_number.proofs.laws.a_literal_without_a_point_counts_thousandths.Goals as goal

pub returns : goal.returns
returns c = literal_without_point
