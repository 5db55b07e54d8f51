-- The whole-number root of std is the control's (`root_below`, src/rounding.rt).
use Rattle.std.proofs.Common.{sym}
use Rattle.nc_number.proofs.Roots.{square_root_is}
use Rattle.thread_cycle.proofs.rounding.root_below.Goals as goal

pub returns-clause-root : goal.returns-clause-root
returns-clause-root c = sym (square_root_is c.args.square c.isqrt.result c.isqrt.ensures.square_le c.isqrt.ensures.next_square_gt)
