-- What was written so far, and what is of the lines and legs that are left, is the answer (loop of
-- `cut_answer`, src/written.rt).
use Rattle.std.proofs.Common.{◌≡◌, [], None, length}
use Rattle.nose_words.specs.Written.{written_from}
use Rattle.nose_words.proofs.written.cut_answer.Given as goal

abbrev pub invariant-loop-line : goal.invariant-loop-line
invariant-loop-line l =
    written_from l.tip l.at l.written.items l.left l.others ≡ written_from l.tip None [] l.lines l.legs

abbrev pub decreases-loop-line : goal.decreases-loop-line
decreases-loop-line l = length l.left
