-- `lines_in`: the table tells the lines that are looked for, so the least lines found by it are the
-- least of these, part by part (src/racing.rt).
use Rattle.std.proofs.Common.{◌≡◌, IfOk, subst}
use Rattle.std.proofs.Math.Path.{fun_ext}
use Rattle.part_lines.specs.PartLines.{AreLeastLines}
use Rattle.race_report.specs.Lines.{sought_line}
use Rattle.race_report.specs.Tables.{table_line}
use Rattle.race_report.proofs.racing.lines_in.Goals as goal

pub returns : goal.returns
returns c =
    let same : table_line c.in_ok-table.table ≡ sought_line c.args.flow.now c.args.sought c.args.variable =
    fun_ext (λ q. fun_ext (λ place. c.in_ok-table.ensures q place)) in
    subst (λ line. IfOk c.least_lines.result (λ found. AreLeastLines c.args.flow.now.order line found.items)) same c.least_lines.ensures
