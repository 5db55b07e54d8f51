-- The rest of the contour descends from here exactly if all of it does (loop of `descends`,
-- src/form.rt).
use Rattle.std.proofs.Common.{◌≡◌, drop}
use Rattle.cycle_form.specs.Forms.{descends}
use Rattle.cycle_form.proofs.form.descends.Given as goal

abbrev pub invariant-loop-to : goal.invariant-loop-to
invariant-loop-to l = descends l.from (drop l.to-index l.points) ≡ descends l.first l.points
