-- The number so far is that of the last word of these letters so far. What the loop of
-- `last_number` keeps (src/letters.rt).
use Rattle.std.proofs.Common.{◌≡◌, ◌≤◌, IfSome, take}
use Rattle.open_forms.specs.Words.{last_number}
use Rattle.open_forms.proofs.letters.last_number.Given as goal

abbrev pub invariant-loop-word : goal.invariant-loop-word
invariant-loop-word l = record {
  value : l.last ≡ last_number l.letters (take l.word-index l.words);
  range : IfSome l.last (λ n. n ≤ 99999999);
}
