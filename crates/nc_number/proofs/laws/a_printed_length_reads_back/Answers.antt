-- A printed length is a literal and reads back as that length, with a minus exactly below 0 (a law of src/laws.rt).
use Rattle.nc_number.proofs.ReadsBack.{length_is_literal, length_minus, length_reads_back}
use Rattle.nc_number.proofs.laws.a_printed_length_reads_back.Goals as goal

pub returns-clause-literal : goal.returns-clause-literal
returns-clause-literal c = length_is_literal

pub returns-clause-value : goal.returns-clause-value
returns-clause-value c = length_reads_back

pub returns-clause-minus : goal.returns-clause-minus
returns-clause-minus c = length_minus
