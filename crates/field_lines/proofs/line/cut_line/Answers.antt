-- `cut_line` ends the first line at a line feed; without one the line is all of the text
-- (src/line.rt).
use Rattle.std.proofs.Common.{sym}
use Rattle.field_lines.proofs.TextLines.{lines_at, lines_last}
use Rattle.field_lines.proofs.line.cut_line.Goals as goal

pub returns-in-Some-clause-lines : goal.returns-in-Some-clause-lines
returns-in-Some-clause-lines c =
    rw (c.without_carriage_return.ensures, c.split_at.ensures.front, c.split_at-in-Some.ensures.back) (lines_at c.args.text.now c.in-Some.at (sym c.in-Some.ensures))

pub returns-in-None-clause-lines : goal.returns-in-None-clause-lines
returns-in-None-clause-lines c = lines_last c.args.text.now (sym c.in-None.ensures) c.requires
