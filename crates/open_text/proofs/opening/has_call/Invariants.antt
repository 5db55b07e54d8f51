-- No call so far, and the rest decides (loop of `has_call`, src/opening.rt).
use Rattle.std.proofs.Common.{◌≡◌, length}
use Rattle.open_text.specs.declared.place.Place.TheVariants.{Text}
use Rattle.open_text.specs.Opened.{has_call}
use Rattle.open_text.proofs.opening.has_call.Given as goal

abbrev pub invariant-loop-first : goal.invariant-loop-first
invariant-loop-first l = has_call l.place l.left ≡ has_call Text l.text

abbrev pub decreases-loop-first : goal.decreases-loop-first
decreases-loop-first l = length l.left
