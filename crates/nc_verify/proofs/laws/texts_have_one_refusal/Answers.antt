-- Three texts have one refusal at most (src/laws.rt).
use Rattle.nc_verify.proofs.OneRefusal.{one_refusal}
use Rattle.nc_verify.proofs.laws.texts_have_one_refusal.Goals as goal

pub returns : goal.returns
returns c =
    one_refusal c.an_accepted_tape_is_not_refused.ensures c.lines_of_blocks_rise.ensures c.a_refused_tape_has_one_refusal.ensures
