-- The number so far is that of the last word of these letters so far. What the loop of `number_of`
-- keeps (src/letters.rt).
use Rattle.std.proofs.Common.{◌≡◌, ◌≤◌, IfSome, take}
use Rattle.block_words.specs.Words.{last_whole}
use Rattle.block_words.specs.Codes.{natural_number}
use Rattle.block_words.proofs.letters.number_of.Given as goal

abbrev pub invariant-loop-word : goal.invariant-loop-word
invariant-loop-word l = record {
  value : l.last ≡ natural_number (last_whole l.letters (take l.word-index l.words));
  range : IfSome l.last (λ n. n ≤ 99999999);
}
