-- The least line so far is one of the program or of a quiet program that is called from there,
-- directly or through others. What the loop of `lower` keeps (src/quiet.rt).
use Rattle.std.proofs.Common.{◌≡◌, ℕ, Some}
use Rattle.part_lines.specs.Lines.{LineFrom}
use Rattle.part_lines.proofs.quiet.lower.Given as goal

abbrev pub invariant-loop-place : goal.invariant-loop-place
invariant-loop-place g l = (k : ℕ) → l.least ≡ Some k → LineFrom l.order (g.L.BlockLines.line l.lines) l.program k
