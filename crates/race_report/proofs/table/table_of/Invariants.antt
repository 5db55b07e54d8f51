-- For `table_of`: the table and the programs that are left tell all lines of the flow (loop of
-- src/table.rt).
use Rattle.std.proofs.Common.{drop}
use Rattle.race_report.specs.Tables.{IsToldWith}
use Rattle.race_report.proofs.table.table_of.Given as goal

abbrev pub invariant-loop-program : goal.invariant-loop-program
invariant-loop-program l = IsToldWith l.flow l.sought l.variable l.table (drop l.program-index l.flow.programs)
