-- A law: the words into which the reader cuts the signs of a line are the words that the signs
-- spell by the grammar (`a_line_is_cut_into_its_words`, src/law.rt).
use Rattle.tape_relation.proofs.Cuts.{words_cut, cut_words}
use Rattle.tape_relation.proofs.law.a_line_is_cut_into_its_words.Goals as goal

pub returns : goal.returns
returns c = λ signs words. (cut_words signs words, words_cut signs words)
