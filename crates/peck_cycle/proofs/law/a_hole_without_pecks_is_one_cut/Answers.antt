-- One cut (`a_hole_without_pecks_is_one_cut`, src/law.rt).
use Rattle.peck_cycle.proofs.SafeMoves.{one_cut_blocks}
use Rattle.peck_cycle.proofs.law.a_hole_without_pecks_is_one_cut.Goals as goal

pub returns : goal.returns
returns c = one_cut_blocks
