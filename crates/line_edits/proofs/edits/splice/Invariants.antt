-- What is written so far, with what the edits make of the rest, is the text with its edits (loop
-- of `splice`, src/edits.rt).
use Rattle.std.proofs.Common.{◌≡◌, ◌++◌, ◌≤◌, ◌+◌, drop}
use Rattle.line_edits.specs.Splice.{spliced_text}
use Rattle.line_edits.proofs.edits.splice.Given as goal

abbrev pub invariant-loop-b : goal.invariant-loop-b
invariant-loop-b l = record {
  rest : l.out.items ++ spliced_text l.line l.rest (drop l.b-index l.text) ≡ spliced_text 1 l.edits l.text;
  lines : l.line ≤ l.b-index + 1;
}
