-- The switches that are found in a text are those that it names, by the lemma of NamedBySigns
-- (src/laws.rt).
use Rattle.wait_verify.proofs.NamedBySigns.{named_exactly}
use Rattle.wait_verify.proofs.laws.a_switch_is_named_by_a_sign.Goals as goal

pub returns : goal.returns
returns c = named_exactly
