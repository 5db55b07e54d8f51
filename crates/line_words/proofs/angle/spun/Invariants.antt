-- The direction so far, turned as often as is left, is the one that is wanted (loop of `spun`,
-- src/angle.rt).
use Rattle.std.proofs.Common.{◌≡◌}
use Rattle.line_words.specs.Angles.{spun, IsFlat}
use Rattle.line_words.proofs.angle.spun.Given as goal

abbrev pub invariant-loop-left : goal.invariant-loop-left
invariant-loop-left l = record {
  spun : spun l.left l.by l.at ≡ spun l.times l.by l.start;
  flat : IsFlat l.at;
}

abbrev pub decreases-loop-left : goal.decreases-loop-left
decreases-loop-left l = l.left
