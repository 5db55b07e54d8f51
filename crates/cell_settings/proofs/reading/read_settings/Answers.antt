-- `read_settings` answers the settings of the text, or its first line that is not allowed, unless
-- memory runs out (src/reading.rt).
use Rattle.std.proofs.Common.{◌≡◌, ◌+◌, [], ap, sym, ◌∙◌}
use Rattle.std.proofs.lemmas.Bool.{eqb-true}
use Rattle.std.proofs.lemmas.List.{nil_from_length}
use Rattle.std.specs.Str.Lines.{lines}
use Rattle.field_lines.specs.Line.{line_says, first_refused, entries_of}
use Rattle.field_lines.proofs.LineByLine.{refused_here, none_refused}
use Rattle.cell_settings.specs.Entry.{fields_say}
use Rattle.cell_settings.specs.Cell.{settings_of, with_entries}
use Rattle.cell_settings.specs.View.{view}
use Rattle.cell_settings.proofs.reading.read_settings.Goals as goal

pub returns-in-None : goal.returns-in-None
unfolding settings_of
returns-in-None c = record {
  exact =
      refused_here (line_says fields_say) _ c.cut_line.result.0.now (lines c.cut_line.result.1.now) (first_refused (line_says fields_say) 1 (lines c.args.text.now)) _ (sym c.in-None.is ∙ c.in_ok-entry.ensures.value)
      (ap (first_refused (line_says fields_say) (c.loop-rest.line + 1)) (sym c.cut_line.ensures.lines) ∙ c.loop-rest.invariant.refused);
}

pub returns : goal.returns
unfolding settings_of
returns c =
    let rest : c.loop-rest.rest.now ≡ [] = nil_from_length _ (eqb-true _ _ (sym c.loop-rest-test.ensures)) in
    record {
      exact = none_refused (first_refused (line_says fields_say) 1 (lines c.args.text.now)) (view c.loop-rest.settings) _ (ap (λ text. first_refused (line_says fields_say) (c.loop-rest.line + 1) (lines text)) (sym rest) ∙ c.loop-rest.invariant.refused)
          (ap (λ text. with_entries (view c.loop-rest.settings) (entries_of (line_says fields_say) (lines text))) (sym rest) ∙ c.loop-rest.invariant.taken);
    }
