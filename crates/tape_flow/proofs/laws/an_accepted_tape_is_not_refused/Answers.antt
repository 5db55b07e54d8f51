-- No tape is both accepted and refused (a law of src/laws.rt).
use Rattle.tape_flow.proofs.Accepted.{not_both}
use Rattle.tape_flow.proofs.laws.an_accepted_tape_is_not_refused.Goals as goal

pub returns : goal.returns
returns c = not_both
