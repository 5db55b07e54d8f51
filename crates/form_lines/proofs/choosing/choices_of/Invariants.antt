-- The choices so far, and those of the lines that are left, are all (loop of `choices_of`,
-- src/choosing.rt).
use Rattle.std.proofs.Common.{◌≡◌, ◌++◌, length}
use Rattle.std.specs.Str.Lines.{lines}
use Rattle.form_lines.specs.Choosing.{choices_of}
use Rattle.form_lines.proofs.choosing.choices_of.Given as goal

abbrev pub invariant-loop-rest : goal.invariant-loop-rest
invariant-loop-rest l = l.choices.items ++ choices_of (lines l.rest) ≡ choices_of (lines l.text)

abbrev pub decreases-loop-rest : goal.decreases-loop-rest
decreases-loop-rest l = length l.rest
