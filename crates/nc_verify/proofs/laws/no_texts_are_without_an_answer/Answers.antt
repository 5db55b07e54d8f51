-- Three texts are accepted or have a refusal (src/laws.rt).
use Rattle.nc_verify.proofs.SomeAnswer.{some_answer}
use Rattle.nc_verify.proofs.laws.no_texts_are_without_an_answer.Goals as goal

pub returns : goal.returns
returns c =
    some_answer c.no_tape_is_without_an_answer.ensures c.a_tape_without_faults_is_unforked.ensures
    c.a_pair_is_accepted_by_its_lists.ensures
