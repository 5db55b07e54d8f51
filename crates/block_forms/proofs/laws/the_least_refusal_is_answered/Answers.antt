-- Of the refusals that hold of a block of words the least is answered, or none if none holds. For
-- the law `the_least_refusal_is_answered` (src/laws.rt).
use Rattle.block_forms.proofs.LeastRefusal.{least_refusal, no_refusal}
use Rattle.block_forms.proofs.laws.the_least_refusal_is_answered.Goals as goal

pub returns-clause-least : goal.returns-clause-least
returns-clause-least c = least_refusal

pub returns-clause-none : goal.returns-clause-none
returns-clause-none c = no_refusal
