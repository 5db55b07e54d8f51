-- Of the refusals that hold of the text of a block the least is answered, or none if none holds.
-- For the law `the_least_refusal_of_a_text_is_answered` (src/laws.rt).
use Rattle.block_forms.proofs.LeastOfText.{least_of_text, accepted_has_none}
use Rattle.block_forms.proofs.laws.the_least_refusal_of_a_text_is_answered.Goals as goal

pub returns-clause-least : goal.returns-clause-least
returns-clause-least c = least_of_text c.reading_stops_for_a_cause.ensures.expression

pub returns-clause-none : goal.returns-clause-none
returns-clause-none c = accepted_has_none
