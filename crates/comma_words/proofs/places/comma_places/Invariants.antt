-- The places so far, and those of the bytes that are left, are those of all (loop of `comma_places`,
-- src/places.rt).
use Rattle.std.proofs.Common.{◌≡◌, ◌++◌, length}
use Rattle.comma_words.specs.Places.{comma_places, front}
use Rattle.comma_words.proofs.places.comma_places.Given as goal

abbrev pub invariant-loop-byte : goal.invariant-loop-byte
invariant-loop-byte l = l.places.items ++ comma_places l.at l.left ≡ comma_places front l.text

abbrev pub decreases-loop-byte : goal.decreases-loop-byte
decreases-loop-byte l = length l.left
