-- The cell is that of the text, or the fault is its first line that is not allowed (`read_cell`,
-- src/plan.rt).
use Rattle.std.proofs.Common.{◌≡◌, ◌+◌, [], ap, sym, ◌∙◌}
use Rattle.std.proofs.lemmas.Bool.{eqb-true}
use Rattle.std.proofs.lemmas.List.{nil_from_length}
use Rattle.std.specs.Str.Lines.{lines}
use Rattle.field_lines.specs.Line.{line_says, first_refused, entries_of}
use Rattle.field_lines.proofs.LineByLine.{refused_here, none_refused}
use Rattle.zone_cell.specs.CellEntry.{cell_fields_say}
use Rattle.zone_cell.specs.Plans.{cell_of, with_cell_entries}
use Rattle.zone_cell.proofs.plan.read_cell.Goals as goal

pub returns-in-None : goal.returns-in-None
unfolding cell_of
returns-in-None c =
    refused_here (line_says cell_fields_say) _ c.cut_line.result.0.now (lines c.cut_line.result.1.now) (first_refused (line_says cell_fields_say) 1 (lines c.args.text.now)) _ (sym c.in-None.is ∙ c.in_ok-entry.ensures.value)
    (ap (first_refused (line_says cell_fields_say) (c.loop-rest.line + 1)) (sym c.cut_line.ensures.lines) ∙ c.loop-rest.invariant.refused)

pub returns : goal.returns
unfolding cell_of
returns c =
    let rest : c.loop-rest.rest.now ≡ [] = nil_from_length _ (eqb-true _ _ (sym c.loop-rest-test.ensures)) in
    none_refused (first_refused (line_says cell_fields_say) 1 (lines c.args.text.now)) c.loop-rest.cell _ (ap (λ text. first_refused (line_says cell_fields_say) (c.loop-rest.line + 1) (lines text)) (sym rest) ∙ c.loop-rest.invariant.refused)
    (ap (λ text. with_cell_entries c.loop-rest.cell (entries_of (line_says cell_fields_say) (lines text))) (sym rest) ∙ c.loop-rest.invariant.taken)
