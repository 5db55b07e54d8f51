-- `double_fault`: a program has no more blocks than a tape may have, as `program_fault` requires
-- (src/doubles.rt).
use Rattle.nc_number.specs.declared.limits.TheConstants.{MOST_BLOCKS}
use Rattle.open_order.proofs.Within.{blocks_few}
use Rattle.open_order.proofs.doubles.double_fault.Goals as goal

pub program_fault-requires : goal.program_fault-requires
program_fault-requires c =
    blocks_few c.args.order.now _ MOST_BLOCKS c.as_slice-programs.ensures.listed.few
