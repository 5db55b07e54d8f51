-- The moves so far stand on the line in their order, and the line has no end yet (loop of
-- `send_all`, src/worker.rt).
use Rattle.std.proofs.Common.{◌≡◌, ◌++◌, map, take, false}
use Rattle.drive_line.specs.declared.item.Item.TheVariants.{Move}
use Rattle.nc_outside.specs.Lined.{lined_move}
use Rattle.drive_line.specs.Line.{has_end}
use Rattle.path_worker.proofs.worker.send_all.Given as goal

abbrev pub invariant-loop-what : goal.invariant-loop-what
invariant-loop-what g l =
    (l.line.line ≡ l.initial.line.line) × (l.line.items ≡ l.initial.line.items ++ map Move (map (lined_move l.moves.line) (take l.what-index l.moves.list))) × (has_end l.line.items ≡ false)
