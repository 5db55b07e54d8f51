-- The lines so far, and those of the blocks that are left, are the run; all lead to positions (loop of
-- `run_lines`, src/run.rt).
use Rattle.std.proofs.Common.{◌≡◌, [], All, drop}
use Rattle.nc_number.specs.Position.{IsPosition}
use Rattle.nose_words.specs.Said.{LeadsToPosition}
use Rattle.nose_words.specs.Run.{run_from}
use Rattle.nose_words.proofs.run.run_lines.Given as goal

abbrev pub invariant-loop-block : goal.invariant-loop-block
invariant-loop-block l = record {
  run : run_from l.first l.standing l.lines.items (drop l.block-index l.blocks) ≡ run_from l.first l.start [] l.blocks;
  lines : All LeadsToPosition l.lines.items;
  position : IsPosition l.standing.from;
}
