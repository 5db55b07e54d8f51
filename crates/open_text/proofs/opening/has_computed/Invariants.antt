-- No jump so far is computed, and the rest decides (loop of `has_computed`, src/opening.rt).
use Rattle.std.proofs.Common.{◌≡◌, drop}
use Rattle.open_text.specs.declared.place.Place.TheVariants.{Text}
use Rattle.open_text.specs.Opened.{has_computed}
use Rattle.open_text.proofs.opening.has_computed.Given as goal

abbrev pub invariant-loop-byte : goal.invariant-loop-byte
invariant-loop-byte l = has_computed l.place (drop l.byte-index l.text) ≡ has_computed Text l.text
