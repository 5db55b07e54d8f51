-- `last_of_group` answers the last row of the group, and none exactly if no row is of it
-- (src/row.rt).
use Rattle.std.proofs.Common.{sym, arith, take_all, length, ◌≤◌}
use Rattle.code_tables.specs.declared.kind.CodeKind.TheVariants.{Rapid}
use Rattle.code_tables.specs.declared.row.Row.{Row}
use Rattle.code_tables.proofs.LastOfGroup.{last_of_group_more, last_is_found, last_is_none}
use Rattle.code_tables.proofs.row.last_of_group.Goals as goal

-- what an index past the end reads
no_row : Row
no_row = record { code = 0; group = 0; kind = Rapid }

pub loop-row-preserved : goal.loop-row-preserved
unfolding no_row
loop-row-preserved c =
    rw (c.or_before-last.ensures, c.loop-row.invariant) (sym (last_of_group_more c.args.rows.now c.loop-row.row-index c.args.group no_row (omega arith)))

pub returns-clause-found : goal.returns-clause-found
returns-clause-found c =
    let over : length c.args.rows.now ≤ c.loop-row.row-index = omega arith in
    let whole = rw (take_all c.loop-row.row-index c.args.rows.now over) at c.loop-row.invariant in
    rw whole (last_is_found c.args.rows.now c.args.group)

pub returns-clause-none : goal.returns-clause-none
returns-clause-none c =
    let over : length c.args.rows.now ≤ c.loop-row.row-index = omega arith in
    let whole = rw (take_all c.loop-row.row-index c.args.rows.now over) at c.loop-row.invariant in
    rw whole (last_is_none c.args.rows.now c.args.group)
