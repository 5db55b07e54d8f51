-- For the loop of `send_rests` (src/lines.rt): the line is the one of the beginning, and its end
-- was not sent yet.
use Rattle.std.proofs.Common.{◌≡◌, false}
use Rattle.drive_line.specs.Line.{has_end}
use Rattle.lane_vectors.proofs.lines.send_rests.Given as goal

abbrev pub invariant-loop-number : goal.invariant-loop-number
invariant-loop-number g l = (l.line.line ≡ l.initial.line.line) × (has_end l.line.items ≡ false)
