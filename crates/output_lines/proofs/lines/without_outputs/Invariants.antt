-- The text so far, and that of the bytes that are left, is that of all (loop of `without_outputs`,
-- src/lines.rt).
use Rattle.std.proofs.Common.{◌≡◌, ◌++◌, [], drop}
use Rattle.output_lines.specs.Lines.{lines_from}
use Rattle.output_lines.proofs.lines.without_outputs.Given as goal

abbrev pub invariant-loop-byte : goal.invariant-loop-byte
invariant-loop-byte l = l.out.items ++ lines_from l.line.items (drop l.byte-index l.text) ≡ lines_from [] l.text
