-- The row so far is that of the last code of the group among those seen (loop of `group_last`,
-- src/table.rt).
use Rattle.std.proofs.Common.{◌≡◌, take}
use Rattle.code_tables.specs.Codes.{last_of_group, rows_of}
use Rattle.code_tables.proofs.table.CodeTable.group_last.Given as goal

abbrev pub invariant-loop-code : goal.invariant-loop-code
invariant-loop-code g l = l.last ≡ last_of_group (rows_of l.self (take l.code-index l.codes)) l.group
