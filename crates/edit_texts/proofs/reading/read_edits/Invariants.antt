-- What the lines ahead give after the edits so far is what the whole text gives; the text gets
-- shorter (loop of `read_edits`, src/reading.rt).
use Rattle.std.proofs.Common.{◌≡◌, ◌+◌, ◌≤◌, length, []}
use Rattle.std.specs.Str.Lines.{lines}
use Rattle.edit_texts.specs.Edits.{edits_from}
use Rattle.edit_texts.proofs.reading.read_edits.Given as goal

abbrev pub invariant-loop-rest : goal.invariant-loop-rest
invariant-loop-rest l = record {
  gives : edits_from (lines l.rest) (l.line + 1) l.edits ≡ edits_from (lines l.text) 1 [];
  counted : l.line + length l.rest ≤ length l.text;
}

abbrev pub decreases-loop-rest : goal.decreases-loop-rest
decreases-loop-rest l = length l.rest
