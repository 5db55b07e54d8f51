-- The sequence number so far, and the words that are left, give the last sequence number of the
-- block (loop of `sequence`, src/words.rt).
use Rattle.std.proofs.Common.{◌≡◌, drop}
use Rattle.std.specs.Prelude.{None}
use Rattle.line_text.specs.Said.{sequence_from}
use Rattle.line_text.proofs.words.sequence.Given as goal

abbrev pub invariant-loop-piece : goal.invariant-loop-piece
invariant-loop-piece l = sequence_from l.number (drop l.piece-index l.pieces) ≡ sequence_from None l.pieces
