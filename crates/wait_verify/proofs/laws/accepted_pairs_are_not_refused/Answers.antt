-- No pair is both accepted and refused, by the lemma of Positions (src/laws.rt).
use Rattle.wait_verify.proofs.Positions.{accepted_or_refused}
use Rattle.wait_verify.proofs.laws.accepted_pairs_are_not_refused.Goals as goal

pub returns : goal.returns
returns c = accepted_or_refused c.a_pair_is_accepted_by_its_lists.ensures
