-- A tape whose blocks stand on rising lines, if it is refused, is refused at one line, by one
-- number. For the law
-- `a_refused_tape_has_one_refusal` (src/tape.rt).
use Rattle.flow_laws.proofs.Refused.{one_refusal}
use Rattle.flow_laws.proofs.tape.a_refused_tape_has_one_refusal.Goals as goal

pub returns : goal.returns
returns c = one_refusal c.a_tape_has_one_first_fault.ensures
