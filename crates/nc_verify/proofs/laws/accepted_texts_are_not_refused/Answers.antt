-- No three texts are both accepted and refused (src/laws.rt).
use Rattle.nc_verify.proofs.NotBoth.{not_both}
use Rattle.nc_verify.proofs.laws.accepted_texts_are_not_refused.Goals as goal

pub returns : goal.returns
returns c = not_both c.an_accepted_tape_is_not_refused.ensures c.a_pair_is_accepted_by_its_lists.ensures
