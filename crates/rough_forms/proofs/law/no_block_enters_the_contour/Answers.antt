-- No block enters the contour.
use Rattle.rough_forms.proofs.ToldClear.{passes_keep_out, rough_keeps_out, finish_keeps_out}
use Rattle.rough_forms.proofs.law.no_block_enters_the_contour.Goals as goal

pub returns-clause-passes : goal.returns-clause-passes
returns-clause-passes c = passes_keep_out

pub returns-clause-rough : goal.returns-clause-rough
returns-clause-rough c = rough_keeps_out

pub returns-clause-finish : goal.returns-clause-finish
returns-clause-finish c = finish_keeps_out
