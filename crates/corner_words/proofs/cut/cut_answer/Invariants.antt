-- What was written so far, and what is of the lines that are left, is the answer (loop of `cut_answer`,
-- src/cut.rt).
use Rattle.std.proofs.Common.{◌≡◌, [], length}
use Rattle.corner_words.specs.Cut.{cut_from}
use Rattle.corner_words.proofs.cut.cut_answer.Given as goal

abbrev pub invariant-loop-line : goal.invariant-loop-line
invariant-loop-line l = cut_from l.tool l.written.items l.left ≡ cut_from l.start [] l.lines

abbrev pub decreases-loop-line : goal.decreases-loop-line
decreases-loop-line l = length l.left
