-- The words so far, and those of the rest, are those of all (loop of `kept_words`, src/idle.rt).
use Rattle.std.proofs.Common.{◌≡◌, ◌++◌, drop}
use Rattle.small_forms.specs.Idle.{kept_words, taste_of}
use Rattle.small_forms.proofs.idle.kept_words.Given as goal

abbrev pub invariant-loop-word : goal.invariant-loop-word
invariant-loop-word l =
    l.kept.items ++ kept_words (taste_of l.taste) (drop l.word-index l.words) ≡ kept_words (taste_of l.taste) l.words
