-- The lines so far are taken into the cell, and those that are left decide the fault and the rest of
-- the cell; the text gets shorter (loop of `read_cell`, src/plan.rt).
use Rattle.std.proofs.Common.{◌≡◌, ◌+◌, ◌≤◌, length}
use Rattle.std.specs.Str.Lines.{lines}
use Rattle.field_lines.specs.Line.{line_says, entries_of, first_refused}
use Rattle.zone_moves.specs.Cells.{empty_cell}
use Rattle.zone_cell.specs.CellEntry.{cell_fields_say}
use Rattle.zone_cell.specs.Plans.{with_cell_entries}
use Rattle.zone_cell.proofs.plan.read_cell.Given as goal

abbrev pub invariant-loop-rest : goal.invariant-loop-rest
invariant-loop-rest l = record {
  refused : first_refused (line_says cell_fields_say) (l.line + 1) (lines l.rest) ≡ first_refused (line_says cell_fields_say) 1 (lines l.text);
  taken : with_cell_entries l.cell (entries_of (line_says cell_fields_say) (lines l.rest)) ≡ with_cell_entries empty_cell (entries_of (line_says cell_fields_say) (lines l.text));
  counted : l.line + length l.rest ≤ length l.text;
  numbered : length l.cell.boxes ≤ l.line;
}

abbrev pub decreases-loop-rest : goal.decreases-loop-rest
decreases-loop-rest l = length l.rest
