-- Each line has the blocks of a form (`a_written_contour_is_not_entered`, src/law.rt).
use Rattle.rough_words.proofs.NothingEntered.{written_lines}
use Rattle.rough_words.proofs.law.a_written_contour_is_not_entered.Goals as goal

pub returns : goal.returns
returns c = written_lines
