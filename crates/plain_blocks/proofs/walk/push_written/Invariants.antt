-- The steps so far are those from before and those of the lines so far, and the place is behind them
-- (loop of `push_written`, src/walk.rt).
use Rattle.std.proofs.Common.{◌≡◌, ◌++◌}
use Rattle.plain_blocks.specs.Walk.{replaced_from}
use Rattle.plain_blocks.proofs.Replacing.{place_behind}
use Rattle.plain_blocks.proofs.walk.push_written.Given as goal

abbrev pub invariant-loop-line : goal.invariant-loop-line
invariant-loop-line l = record {
  steps : l.steps.items ≡ l.fn.steps.items ++ replaced_from l.stands l.start l.yielded;
  place : l.place ≡ place_behind l.start l.yielded;
}
