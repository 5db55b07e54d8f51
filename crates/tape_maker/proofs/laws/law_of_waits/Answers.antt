-- The lines that begin with M are alike in both made tapes: the waits, and M30 (src/laws.rt).
use Rattle.tape_maker.proofs.MadeLines.{made_begins}
use Rattle.tape_maker.proofs.laws.law_of_waits.Goals as goal

pub returns-clause-waits : goal.returns-clause-waits
returns-clause-waits c = made_begins
