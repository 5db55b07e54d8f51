-- Two headers of a journal with the same bytes are the same (a law of src/laws.rt).
use Rattle.run_records.proofs.Texts.{one_header}
use Rattle.run_records.proofs.laws.a_header_has_one_spelling.Goals as goal

pub returns : goal.returns
returns c = one_header
