-- What was put so far, and what the definition gives for the lines that are left, is all (loop of
-- `contour_tempos`, src/finish.rt).
use Rattle.std.proofs.Common.{◌≡◌, ◌++◌, drop}
use Rattle.rough_words.specs.Finishes.{tempos_from, contour_tempos}
use Rattle.rough_words.proofs.finish.contour_tempos.Given as goal

abbrev pub invariant-loop-line : goal.invariant-loop-line
invariant-loop-line l = l.tempos.items ++ tempos_from l.left (drop l.line-index l.lines) ≡ contour_tempos l.entry l.lines
