-- The bytes so far, and what is made of those that are left, is what is made of all (loop of
-- `without_commas`, src/places.rt).
use Rattle.std.proofs.Common.{◌≡◌, ◌++◌, length}
use Rattle.comma_words.specs.Places.{without_commas}
use Rattle.comma_words.proofs.places.without_commas.Given as goal

abbrev pub invariant-loop-byte : goal.invariant-loop-byte
invariant-loop-byte l = l.bytes.items ++ without_commas l.left ≡ without_commas l.text

abbrev pub decreases-loop-byte : goal.decreases-loop-byte
decreases-loop-byte l = length l.left
