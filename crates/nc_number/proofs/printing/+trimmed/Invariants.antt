-- Each call of `trimmed` has one digit less than the one before, so the calls end
-- (src/printing.rt).
use Rattle.std.proofs.Common.{length}
use Rattle.nc_number.proofs.printing.+trimmed.Given as goal

abbrev pub decreases-trimmed : goal.decreases-trimmed
decreases-trimmed l = length l.digits.now
