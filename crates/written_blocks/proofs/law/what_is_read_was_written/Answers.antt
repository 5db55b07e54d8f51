-- The law is the lemma of Said (src/law.rt).
use Rattle.written_blocks.proofs.Said.{said}
use Rattle.written_blocks.proofs.law.what_is_read_was_written.Goals as goal

pub returns : goal.returns
returns c = said
