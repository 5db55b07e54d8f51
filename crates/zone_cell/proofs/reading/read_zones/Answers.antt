-- The zones are those of the text, or the fault is its first line that is not allowed
-- (`read_zones`, src/reading.rt).
use Rattle.std.proofs.Common.{◌≡◌, ◌+◌, [], ap, sym, ◌∙◌}
use Rattle.std.proofs.lemmas.Bool.{eqb-true}
use Rattle.std.proofs.lemmas.List.{nil_from_length}
use Rattle.std.specs.Str.Lines.{lines}
use Rattle.field_lines.specs.Line.{line_says, first_refused, entries_of}
use Rattle.field_lines.proofs.LineByLine.{refused_here, none_refused}
use Rattle.zone_cell.specs.Entry.{fields_say}
use Rattle.zone_cell.specs.Zones.{zones_of, with_entries}
use Rattle.zone_cell.proofs.reading.read_zones.Goals as goal

pub returns-in-None : goal.returns-in-None
unfolding zones_of
returns-in-None c = record {
  exact =
      refused_here (line_says fields_say) _ c.cut_line.result.0.now (lines c.cut_line.result.1.now) (first_refused (line_says fields_say) 1 (lines c.args.text.now)) _ (sym c.in-None.is ∙ c.in_ok-entry.ensures.value)
      (ap (first_refused (line_says fields_say) (c.loop-rest.line + 1)) (sym c.cut_line.ensures.lines) ∙ c.loop-rest.invariant.refused);
}

pub returns : goal.returns
unfolding zones_of
returns c =
    let rest : c.loop-rest.rest.now ≡ [] = nil_from_length _ (eqb-true _ _ (sym c.loop-rest-test.ensures)) in
    record {
      exact = none_refused (first_refused (line_says fields_say) 1 (lines c.args.text.now)) c.loop-rest.zones _ (ap (λ text. first_refused (line_says fields_say) (c.loop-rest.line + 1) (lines text)) (sym rest) ∙ c.loop-rest.invariant.refused)
          (ap (λ text. with_entries c.loop-rest.zones (entries_of (line_says fields_say) (lines text))) (sym rest) ∙ c.loop-rest.invariant.taken);
    }
