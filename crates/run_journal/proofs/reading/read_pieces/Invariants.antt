-- The bodies up to this index are read as pieces (loop of `read_pieces`, src/reading.rt).
use Rattle.run_journal.specs.Reading.{AreRead}
use Rattle.run_journal.proofs.reading.read_pieces.Given as goal

abbrev pub invariant-loop-index : goal.invariant-loop-index
invariant-loop-index l = AreRead l.fn.version l.now l.bodies l.index l.entries.items l.offsets.items
