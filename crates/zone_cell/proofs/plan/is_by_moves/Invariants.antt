-- Whether the lines that are left have one `by moves` is whether the text has (loop of `is_by_moves`,
-- src/plan.rt).
use Rattle.std.proofs.Common.{◌≡◌, length}
use Rattle.std.specs.List.{list_any}
use Rattle.std.specs.Str.Lines.{lines}
use Rattle.field_lines.specs.Line.{line_fields}
use Rattle.zone_cell.specs.CellEntry.{fields_are_by_moves}
use Rattle.zone_cell.proofs.plan.is_by_moves.Given as goal

abbrev pub invariant-loop-rest : goal.invariant-loop-rest
invariant-loop-rest l =
    list_any (λ line. fields_are_by_moves (line_fields line)) (lines l.rest) ≡ list_any (λ line. fields_are_by_moves (line_fields line)) (lines l.text)

abbrev pub decreases-loop-rest : goal.decreases-loop-rest
decreases-loop-rest l = length l.rest
