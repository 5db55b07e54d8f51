-- The bytes so far have no line feed (loop of `cut_at_line_feed`, src/line_feed.rt).
use Rattle.std.proofs.Common.{take}
use Rattle.nc_text.specs.Lines.{IsOneLine}
use Rattle.nc_text.proofs.line_feed.cut_at_line_feed.Given as goal

abbrev pub invariant-loop-at : goal.invariant-loop-at
invariant-loop-at l = IsOneLine (take l.at l.text)
