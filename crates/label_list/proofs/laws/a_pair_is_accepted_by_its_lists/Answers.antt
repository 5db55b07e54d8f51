-- Two tapes that have one list of labels each are an accepted pair exactly if the lists with their
-- lines are short enough and agree, lines aside. For the law `a_pair_is_accepted_by_its_lists`
-- (src/laws.rt).
use Rattle.label_list.proofs.Paired.{paired}
use Rattle.label_list.proofs.laws.a_pair_is_accepted_by_its_lists.Goals as goal

pub returns : goal.returns
returns c = paired
