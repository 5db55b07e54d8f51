-- `last_end` answers the end of the last move that goes somewhere, and a position if all moves lead
-- to positions (src/moves.rt).
use Rattle.std.proofs.Common.{subst, sym, arith}
use Rattle.std.proofs.lemmas.Grind.{common_steps}
use Rattle.nc_number.specs.Position.{IsPosition}
use Rattle.block_values.proofs.Ends.{last_end_stands}
use Rattle.block_values.proofs.moves.last_end.Goals as goal

pub returns-clause-last : goal.returns-clause-last
returns-clause-last c = grind (arith, common_steps)

-- the end of all moves is a position
pub returns-clause-position : goal.returns-clause-position
returns-clause-position c here all =
    subst IsPosition (sym (returns-clause-last c)) (last_end_stands c.args.at c.args.moves.now here all)
