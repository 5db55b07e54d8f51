-- `of_number` finds the cause of each number that a cause has (src/cause.rt).
use Rattle.nc_number.proofs.CauseTable.{found_by_number}
use Rattle.nc_number.proofs.cause.Cause.of_number.Goals as goal

pub returns-clause-found : goal.returns-clause-found
returns-clause-found c = found_by_number c.args.number c.of_number.result c.of_number.ensures.found c.of_number.ensures.none
