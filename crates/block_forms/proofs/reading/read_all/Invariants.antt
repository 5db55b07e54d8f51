-- What is gathered so far and the words ahead give the answer of all words. What the loop of
-- `read_all` keeps (src/reading.rt).
use Rattle.std.proofs.Common.{◌≡◌, ◌≤◌, ◌+◌, drop}
use Rattle.block_forms.specs.Forms.{all_words, answer_so_far, signs_in}
use Rattle.block_forms.specs.Variables.{variables_of_words}
use Rattle.block_forms.proofs.reading.read_all.Given as goal

abbrev pub invariant-loop-word : goal.invariant-loop-word
invariant-loop-word l = record {
  exact :
      answer_so_far l.gathered.words.items l.gathered.least (all_words (drop l.word-index l.words)) ≡ all_words l.words;
  named :
      variables_of_words l.gathered.words.items + signs_in (drop l.word-index l.words) ≤ signs_in l.words;
}
