-- What was written so far, and the lines that are left, are the answer (loop of `whole_answer`,
-- src/written.rt).
use Rattle.std.proofs.Common.{◌≡◌, [], drop}
use Rattle.nose_words.specs.Written.{whole_from}
use Rattle.nose_words.proofs.written.whole_answer.Given as goal

abbrev pub invariant-loop-line : goal.invariant-loop-line
invariant-loop-line l = whole_from l.written.items (drop l.line-index l.lines) ≡ whole_from [] l.lines
