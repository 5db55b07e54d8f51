-- For `program_lines`: the lines so far, with those of the blocks that are left, are all lines of
-- the program (loop of src/table.rt).
use Rattle.std.proofs.Common.{◌≡◌, ◌++◌, drop}
use Rattle.race_report.specs.Tables.{lines_of}
use Rattle.race_report.proofs.table.program_lines.Given as goal

abbrev pub invariant-loop-block : goal.invariant-loop-block
invariant-loop-block l =
    l.lines.items ++ lines_of l.sought l.variable (drop l.block-index l.blocks) ≡ lines_of l.sought l.variable l.blocks
