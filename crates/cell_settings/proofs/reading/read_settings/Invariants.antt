-- The lines so far are taken into the settings, and those that are left decide the fault and the
-- rest of the settings; the text gets shorter (loop of `read_settings`, src/reading.rt).
use Rattle.std.proofs.Common.{◌≡◌, ◌+◌, ◌≤◌, length}
use Rattle.std.specs.Str.Lines.{lines}
use Rattle.field_lines.specs.Line.{line_says, entries_of, first_refused}
use Rattle.cell_settings.specs.Entry.{fields_say}
use Rattle.cell_settings.specs.Cell.{standard, with_entries}
use Rattle.cell_settings.specs.View.{view}
use Rattle.cell_settings.proofs.reading.read_settings.Given as goal

abbrev pub invariant-loop-rest : goal.invariant-loop-rest
invariant-loop-rest l = record {
  refused : first_refused (line_says fields_say) (l.line + 1) (lines l.rest) ≡ first_refused (line_says fields_say) 1 (lines l.text);
  taken : with_entries (view l.settings) (entries_of (line_says fields_say) (lines l.rest)) ≡ with_entries standard (entries_of (line_says fields_say) (lines l.text));
  counted : l.line + length l.rest ≤ length l.text;
}

abbrev pub decreases-loop-rest : goal.decreases-loop-rest
decreases-loop-rest l = length l.rest
