-- `group_last` answers the last code whose row is of the group, and none exactly if there is no
-- such code (src/table.rt).
use Rattle.std.proofs.Common.{◌≡◌, ◌≤◌, length, sym, ◌∙◌, arith, take_all, rules}
use Rattle.std.specs.Option.{option_map}
use Rattle.code_tables.specs.declared.row.Row.{Row}
use Rattle.code_tables.specs.Codes.{is_of_group}
use Rattle.code_tables.proofs.LastOfGroup.{last_code_more, last_code_kept, last_code_is, last_of_filter_none}
use Rattle.code_tables.proofs.table.CodeTable.group_last.Goals as goal
use Rattle.code_tables.proofs.table.CodeTable.group_last.Goals.{in-Some, in_default}

pub loop-code-preserved : goal.loop-code-preserved
loop-code-preserved g c =
    let rows = c.args.self.now in
    let i = c.loop-code.code-index in
    elim c.match-find.branch [
      | in-Some w ↦ (let more = last_code_more rows c.args.codes.now i c.args.group w.in-Some.row (omega arith) (sym c.find.ensures.row ∙ w.in-Some.is) in rw (w.last-is, w.or_before-last.ensures, c.loop-code.invariant) (sym more))
      | in_default w ↦ (let kept = last_code_kept rows c.args.codes.now i c.args.group (omega arith) (sym c.find.ensures.row ∙ w.in_default.is) in rw (w.last-is, c.loop-code.invariant) (sym kept))
    ]

pub returns-clause-code : goal.returns-clause-code
returns-clause-code g c =
    let over : length c.args.codes.now ≤ c.loop-code.code-index = omega arith in
    let whole = rw (take_all c.loop-code.code-index c.args.codes.now over) at c.loop-code.invariant in
    let code : c.map.result ≡ option_map (λ (row : Row). row.code) c.loop-code.last = search rules in
    rw (code, whole) (last_code_is c.args.self.now c.args.codes.now c.args.group)

pub returns-clause-none : goal.returns-clause-none
returns-clause-none g c =
    rw (returns-clause-code g c) (last_of_filter_none (is_of_group c.args.self.now c.args.group) c.args.codes.now)
