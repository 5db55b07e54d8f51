-- A block reads no shared variable but those that its text names, and writes none but those that
-- its text may write (src/laws.rt).
use Rattle.named_vars.proofs.NeedsNamed.{needs_are_named}
use Rattle.named_vars.proofs.WritesMarked.{writes_are_marked}
use Rattle.named_vars.proofs.laws.a_block_does_as_its_text_says.Goals as goal

pub returns-clause-reads : goal.returns-clause-reads
returns-clause-reads c = needs_are_named

pub returns-clause-writes : goal.returns-clause-writes
returns-clause-writes c = writes_are_marked
