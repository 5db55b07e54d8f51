-- Lines that were found and are closed are the least ones. For the contract of `quiet_lines`
-- (src/quiet.rt).
use Rattle.std.proofs.Common.{IsTrue, rules}
use Rattle.part_lines.specs.Pieces.{quiet_known}
use Rattle.part_lines.proofs.Opened.{quiet_least}
use Rattle.part_lines.proofs.quiet.quiet_lines.Goals as goal

pub returns-then-is_closed : goal.returns-then-is_closed
returns-then-is_closed g c =
    let closed : IsTrue c.is_closed.result = search rules in
    quiet_least c.args.order.now (g.L.BlockLines.line c.args.lines.now) (quiet_known c.loop-program.found)
    c.loop-program.invariant (c.is_closed.ensures closed)
