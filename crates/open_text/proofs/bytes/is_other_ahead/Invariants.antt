-- The bytes so far are gaps, and the rest decides (loop of `is_other_ahead`, src/bytes.rt).
use Rattle.std.proofs.Common.{◌≡◌, length}
use Rattle.open_text.specs.Bytes.{is_other_ahead}
use Rattle.open_text.proofs.bytes.is_other_ahead.Given as goal

abbrev pub invariant-loop-first : goal.invariant-loop-first
invariant-loop-first l = is_other_ahead l.left ≡ is_other_ahead l.rest

abbrev pub decreases-loop-first : goal.decreases-loop-first
decreases-loop-first l = length l.left
