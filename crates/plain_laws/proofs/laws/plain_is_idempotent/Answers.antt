-- The law is a lemma of Rereading (src/laws.rt).
use Rattle.plain_laws.proofs.Rereading.{written_stays}
use Rattle.plain_laws.proofs.laws.plain_is_idempotent.Goals as goal

pub returns : goal.returns
returns c = written_stays
