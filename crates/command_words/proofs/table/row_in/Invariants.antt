-- The row that the rows of commands ahead have for the name is that of all rows (loop of `row_in`,
-- src/table.rt).
use Rattle.std.proofs.Common.{◌≡◌, drop, map}
use Rattle.command_words.specs.Table.{row_in, row_seen}
use Rattle.command_words.proofs.table.row_in.Given as goal

abbrev pub invariant-loop-row : goal.invariant-loop-row
invariant-loop-row l = row_in (map row_seen l.rows) l.name ≡ row_in (map row_seen (drop l.row-index l.rows)) l.name
