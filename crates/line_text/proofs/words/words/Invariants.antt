-- The words of a block so far are those of the pieces so far, without sequence numbers (loop of
-- `words`, src/words.rt).
use Rattle.std.proofs.Common.{◌≡◌}
use Rattle.line_text.specs.Said.{words_of}
use Rattle.line_text.proofs.words.words.Given as goal

abbrev pub invariant-loop-piece : goal.invariant-loop-piece
invariant-loop-piece l = l.words.items ≡ words_of l.yielded
