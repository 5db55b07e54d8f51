-- For the loop of `hand_all` (src/turns.rt): beside what the turret had served, it has served the moves
-- of the block so far (took them, or missed them once it failed: `Serves` of drive_line).
use Rattle.std.proofs.Common.{List, ◌++◌, map, take}
use Rattle.drive_line.specs.Driving.{Serves}
use Rattle.nc_outside.specs.declared.got.Got.{Got}
use Rattle.nc_outside.specs.declared.got.Got.TheVariants.{Moved}
use Rattle.nc_outside.specs.Lined.{lined_move}
use Rattle.nc_outside.specs.Received.{TurretState}
use Rattle.turret_run.proofs.turns.hand_all.Given as goal

abbrev pub invariant-loop-what : goal.invariant-loop-what
invariant-loop-what g l = (told : List Got) (start : TurretState) → Serves told start l.initial.driven
    → Serves (told ++ map Moved (map (lined_move l.block.line) (take l.what-index l.block.list))) start l.driven
