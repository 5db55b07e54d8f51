-- `table_of`: behind the loop over the programs the table tells, for each place, the line that is
-- looked for (src/table.rt).
use Rattle.std.proofs.Common.{◌+◌, drop}
use Rattle.race_report.proofs.Told.{told_item}
use Rattle.race_report.proofs.table.table_of.Goals as goal

pub loop-program-preserved : goal.loop-program-preserved
loop-program-preserved c =
    let flow = c.args.flow.now in
    let i = c.loop-program.program-index in
    c.in_ok-add_program.ensures flow (drop (i + 1) flow.programs)
    (told_item flow c.args.sought c.args.variable c.loop-program.table c.as_slice-program-items.result.now i c.program-item.result
    c.as_slice-program-items.ensures c.program-item.is c.loop-program-test.true c.loop-program.invariant)
