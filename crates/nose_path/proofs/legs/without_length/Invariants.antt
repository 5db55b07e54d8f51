-- The lines so far have a length, and those that are left decide (loop of `without_length`,
-- src/legs.rt).
use Rattle.std.proofs.Common.{◌≡◌, ◌+◌, drop}
use Rattle.nose_path.specs.Legs.{without_length}
use Rattle.nose_path.proofs.legs.without_length.Given as goal

abbrev pub invariant-loop-line : goal.invariant-loop-line
invariant-loop-line l = without_length (l.line + 1) l.from (drop l.line l.points) ≡ without_length 1 l.fn.first l.points
