-- The records so far are done again on the machine, and it has room for the others (loop of
-- `replay`, src/replay.rt).
use Rattle.nc_restart.specs.Reading.{AreDone}
use Rattle.nc_restart.proofs.replay.replay.Given as goal

abbrev pub invariant-loop-index : goal.invariant-loop-index
invariant-loop-index l = AreDone l.pair l.entries.items l.index l.machine
