-- The law is the lemma of OwnStays (src/law.rt).
use Rattle.plain_blocks.proofs.OwnStays.{own_stays}
use Rattle.plain_blocks.proofs.law.what_is_own_stays.Goals as goal

pub returns : goal.returns
returns c = own_stays
