-- At each position two orders that are an accepted pair are never stuck, by the law of pair_order
-- (src/laws.rt).
use Rattle.wait_verify.proofs.Positions.{never_stuck_at_each}
use Rattle.wait_verify.proofs.laws.accepted_pairs_do_not_wait_in_vain.Goals as goal

pub returns : goal.returns
returns c = never_stuck_at_each c.no_pair_waits_in_vain.ensures
