-- The law is a lemma of Rereading (src/laws.rt).
use Rattle.plain_laws.proofs.Rereading.{written_reads}
use Rattle.plain_laws.proofs.laws.what_plain_writes_reads.Goals as goal

pub returns : goal.returns
returns c = written_reads
