-- The text so far, and that of the lines that are left, is the whole (loop of `cell_lines`,
-- src/cell.rt).
use Rattle.std.proofs.Common.{◌≡◌, ◌++◌, length}
use Rattle.std.specs.Str.Lines.{lines}
use Rattle.form_lines.specs.Cell.{text_from, cell_text}
use Rattle.form_lines.proofs.cell.cell_lines.Given as goal

abbrev pub invariant-loop-rest : goal.invariant-loop-rest
invariant-loop-rest l = l.out.items ++ text_from l.begun (lines l.rest) ≡ cell_text l.text

abbrev pub decreases-loop-rest : goal.decreases-loop-rest
decreases-loop-rest l = length l.rest
