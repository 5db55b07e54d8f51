-- The row so far is the last of the group among those seen (loop of `last_of_group`, src/row.rt).
use Rattle.std.proofs.Common.{◌≡◌, take}
use Rattle.code_tables.specs.Codes.{last_of_group}
use Rattle.code_tables.proofs.row.last_of_group.Given as goal

abbrev pub invariant-loop-row : goal.invariant-loop-row
invariant-loop-row l = l.last ≡ last_of_group (take l.row-index l.rows) l.group
