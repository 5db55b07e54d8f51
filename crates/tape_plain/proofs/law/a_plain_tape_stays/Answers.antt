-- The law is the lemma of Stays (src/law.rt).
use Rattle.tape_plain.proofs.Stays.{stays}
use Rattle.tape_plain.proofs.law.a_plain_tape_stays.Goals as goal

pub returns : goal.returns
returns c = stays
