-- No tape is neither accepted nor refused. For the law `no_tape_is_without_an_answer`
-- (src/tape.rt).
use Rattle.flow_laws.proofs.Refused.{some_answer}
use Rattle.flow_laws.proofs.tape.no_tape_is_without_an_answer.Goals as goal

pub returns : goal.returns
returns c = some_answer c.no_tape_is_unsound_without_a_fault.ensures
