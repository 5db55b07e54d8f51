-- Each line found so far is one of its program or of a quiet program (one that comes to no wait and
-- no end) that is called from there, directly or through others. What the loop of `find_each` keeps
-- (src/quiet.rt).
use Rattle.part_lines.specs.Pieces.{quiet_known, AreFound}
use Rattle.part_lines.proofs.quiet.find_each.Given as goal

abbrev pub invariant-loop-program : goal.invariant-loop-program
invariant-loop-program g l = AreFound l.order (g.L.BlockLines.line l.lines) (quiet_known l.found)
