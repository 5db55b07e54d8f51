-- The place behind the steps so far, past those that are left, is the place behind all (loop of
-- `behind_steps`, src/tapes.rt).
use Rattle.std.proofs.Common.{◌≡◌, drop}
use Rattle.written_blocks.specs.Tapes.{behind_steps}
use Rattle.written_blocks.proofs.tapes.behind_steps.Given as goal

abbrev pub invariant-loop-place : goal.invariant-loop-place
invariant-loop-place l =
    behind_steps l.again l.at l.blocks l.place (drop l.place l.steps) ≡ behind_steps l.again 0 l.blocks 0 l.steps
