-- `put_moves` leaves exactly the moves of the block in the list, speed, tool, motion and M code in
-- this order, and they are within range if those of the motion are (src/moves.rt).
use Rattle.std.proofs.Common.{rules, subst, sym}
use Rattle.nc_number.specs.declared.value.Var.TheVariants.{Vacant}
use Rattle.motion_track.specs.declared.targets.TheConstants.{LONGEST}
use Rattle.motion_track.specs.Within.{AreMovesWithin}
use Rattle.block_values.specs.InForce.{settings_said}
use Rattle.block_values.proofs.Ends.{all_within}
use Rattle.block_values.proofs.moves.put_moves.Goals as goal

pub returns-clause-moves : goal.returns-clause-moves
returns-clause-moves c = search rules

-- the moves are within range if those of the motion are
pub returns-clause-within : goal.returns-clause-within
returns-clause-within c all =
    let values = settings_said Vacant c.args.speed c.args.tool in
    subst (AreMovesWithin LONGEST) (sym (returns-clause-moves c))
    (all_within c.args.limits c.args.modal.now values c.args.motion.now c.args.code all)
