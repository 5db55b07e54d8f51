-- The blocks before the place neither have nor call a line that is less than what was found of the
-- program. What the loop of `is_closed_at` keeps (src/quiet.rt).
use Rattle.std.proofs.Common.{◌≡◌, ℕ, ◌<◌, Some}
use Rattle.block_order.specs.declared.control.Control.{Control}
use Rattle.block_order.specs.Loud.{loud}
use Rattle.block_order.specs.Order.{control_at}
use Rattle.part_lines.specs.Lines.{seen_line}
use Rattle.part_lines.specs.Pieces.{quiet_known, IsBelow}
use Rattle.part_lines.proofs.quiet.is_closed_at.Given as goal

abbrev pub invariant-loop-place : goal.invariant-loop-place
invariant-loop-place g l =
    (block : ℕ) (c : Control) → block < l.place → control_at l.blocks block ≡ Some c
    → IsBelow l.least (seen_line (loud l.order) (quiet_known l.found) (g.L.BlockLines.line l.lines l.program block) c)
