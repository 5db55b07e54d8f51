-- The last point from here on is the last of all (loop of `last_of`, src/form.rt).
use Rattle.std.proofs.Common.{◌≡◌, drop}
use Rattle.rough_cycle.specs.Contour.{last_of}
use Rattle.cycle_form.proofs.form.last_of.Given as goal

abbrev pub invariant-loop-point : goal.invariant-loop-point
invariant-loop-point l = last_of l.last (drop l.point-index l.points) ≡ last_of l.first l.points
