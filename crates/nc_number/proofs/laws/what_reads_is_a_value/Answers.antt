-- What a literal of a tape writes is in the range of a value (a law of src/laws.rt).
use Rattle.nc_number.proofs.LiteralsThatRead.{literal_in_range}
use Rattle.nc_number.proofs.laws.what_reads_is_a_value.Goals as goal

pub returns : goal.returns
returns c = literal_in_range
