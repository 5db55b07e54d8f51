-- A printed value is a literal and reads back as that value, with a minus exactly below 0 (a law of
-- src/laws.rt).
use Rattle.nc_number.proofs.ReadsBack.{value_is_literal, value_minus, value_reads_back}
use Rattle.nc_number.proofs.laws.a_printed_value_reads_back.Goals as goal

pub returns-clause-literal : goal.returns-clause-literal
returns-clause-literal c = value_is_literal

pub returns-clause-value : goal.returns-clause-value
returns-clause-value c = value_reads_back

pub returns-clause-minus : goal.returns-clause-minus
returns-clause-minus c = value_minus
