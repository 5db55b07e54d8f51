-- For `words_taken`, which evaluates the words of a block one by one (loop of src/words.rt).
use Rattle.std.proofs.Common.{◌≡◌, drop}
use Rattle.block_values.specs.Values.{nothing_said, words_with}
use Rattle.block_values.specs.Seen.{values_seen, sense_seen}
use Rattle.block_values.specs.Within.{AreLengthsSaid}
use Rattle.block_values.proofs.words.words_taken.Given as goal

-- what is said so far, with the words that are left, comes to what all words say; and no length is
-- longer than a number can make it
abbrev pub invariant-loop-word : goal.invariant-loop-word
invariant-loop-word g l =
    (words_with (g.S.Scope.table l.scope) (sense_seen l.sense) (drop l.word-index l.words) (values_seen l.said) l.left
    ≡ words_with (g.S.Scope.table l.scope) (sense_seen l.sense) l.words nothing_said l.fn.reads)
    × AreLengthsSaid l.said
