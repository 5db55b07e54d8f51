-- No pair is neither accepted nor refused, by the lemma of Positions (src/laws.rt).
use Rattle.wait_verify.proofs.Positions.{some_for_all}
use Rattle.wait_verify.proofs.laws.no_pair_is_without_an_answer.Goals as goal

pub returns : goal.returns
returns c =
    some_for_all c.no_tape_is_unsound_without_a_fault.ensures c.a_tape_without_faults_is_unforked.ensures
    c.a_pair_is_accepted_by_its_lists.ensures
