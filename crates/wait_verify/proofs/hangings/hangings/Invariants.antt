-- The switches so far that change a list are listed (loop of `hangings`, src/hangings.rt).
use Rattle.std.proofs.Common.{◌≡◌}
use Rattle.wait_verify.specs.Hangings.{hangings_to}
use Rattle.wait_verify.proofs.hangings.hangings.Given as goal

abbrev pub invariant-loop-below : goal.invariant-loop-below
invariant-loop-below l = l.found.items ≡ hangings_to l.below l.all
