-- The lines so far, and those of the blocks that are left, are the run (loop of `run_lines`, src/run.rt).
use Rattle.std.proofs.Common.{◌≡◌, [], drop}
use Rattle.nc_number.specs.Position.{IsPosition}
use Rattle.corner_words.specs.Run.{run_from}
use Rattle.corner_words.proofs.run.run_lines.Given as goal

abbrev pub invariant-loop-block : goal.invariant-loop-block
invariant-loop-block l = record {
  run : run_from l.last l.from l.lines.items (drop l.block-index l.blocks) ≡ run_from l.first l.start [] l.blocks;
  position : IsPosition l.from;
}
