-- A pair has one refusal at most, by the lemma of Positions (src/laws.rt).
use Rattle.wait_verify.proofs.Positions.{one_for_all}
use Rattle.wait_verify.proofs.laws.pairs_have_one_refusal.Goals as goal

pub returns : goal.returns
returns c = one_for_all c.a_tape_has_one_first_fault.ensures c.a_pair_is_accepted_by_its_lists.ensures
