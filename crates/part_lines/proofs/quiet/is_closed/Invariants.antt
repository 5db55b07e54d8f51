-- The programs before the place are closed: no block of them has or calls a line that is less than
-- what was found of its program. What the loop of `is_closed` keeps (src/quiet.rt).
use Rattle.std.proofs.Common.{◌≡◌, ℕ, ◌<◌, Some, slice_get}
use Rattle.block_order.specs.declared.program.ControlProgram.{ControlProgram}
use Rattle.part_lines.specs.Pieces.{quiet_known, IsClosedAt}
use Rattle.part_lines.proofs.quiet.is_closed.Given as goal

abbrev pub invariant-loop-program : goal.invariant-loop-program
invariant-loop-program g l =
    (j : ℕ) (p : ControlProgram) → j < l.program-index → slice_get l.program-items j ≡ Some p
    → IsClosedAt l.order (g.L.BlockLines.line l.lines) (quiet_known l.found) p.number
