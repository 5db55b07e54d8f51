-- The lines so far lead to the present stage and the rest, which gets shorter (loop of
-- `behind_lines`, src/step.rt).
use Rattle.std.proofs.Common.{length}
use Rattle.nc_text.specs.View.{before_of}
use Rattle.nc_text.specs.Mark.{Grows}
use Rattle.nc_text.specs.Reading.{LeadsTo}
use Rattle.nc_text.proofs.step.behind_lines.Given as goal

abbrev pub invariant-loop-line : goal.invariant-loop-line
invariant-loop-line l = record {
  reads : LeadsTo l.skips l.fn.stage (before_of l.fn.progress) l.fn.text l.stage (before_of l.progress) l.rest;
  grows : Grows (before_of l.fn.progress) (before_of l.progress);
}

abbrev pub decreases-loop-line : goal.decreases-loop-line
decreases-loop-line l = length l.rest
