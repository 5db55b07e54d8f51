-- The law is the lemma of WrittenCalm (src/law.rt).
use Rattle.plain_blocks.proofs.WrittenCalm.{written_calm}
use Rattle.plain_blocks.proofs.law.no_wait_moves.Goals as goal

pub returns : goal.returns
returns c = written_calm
