-- The words so far are those that were looked at, with small letters (loop of `small_words`, src/small.rt).
use Rattle.std.proofs.Common.{◌≡◌, map, take}
use Rattle.comma_words.specs.Small.{small_word}
use Rattle.comma_words.proofs.small.small_words.Given as goal

abbrev pub invariant-loop-word : goal.invariant-loop-word
invariant-loop-word l = l.small.items ≡ map (small_word l.places l.line) (take l.word-index l.words)
