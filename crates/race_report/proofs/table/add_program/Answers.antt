-- `add_program`: behind it the table and the programs that are left tell all lines of a flow,
-- whether lines of this O number were kept already or not (src/table.rt).
use Rattle.std.proofs.Common.{◌≡◌, true, false, is_some, rules}
use Rattle.race_report.specs.Tables.{kept_lines, lines_of}
use Rattle.race_report.proofs.Told.{told_again, told_more}
use Rattle.race_report.proofs.table.add_program.Goals as goal

pub returns-then-is_some : goal.returns-then-is_some
returns-then-is_some c = λ flow rest so.
    let known : is_some (kept_lines c.args.table.now c.args.program.now.number) ≡ true = search rules in
    told_again flow c.args.sought c.args.variable c.args.table.now c.args.program.now rest known so

pub returns : goal.returns
returns c = λ flow rest so.
    let unknown : is_some (kept_lines c.args.table.now c.args.program.now.number) ≡ false = search rules in
    let are : c.in_ok-lines.lines.lines.items ≡ lines_of c.args.sought c.args.variable c.args.program.now.blocks = search rules in
    told_more flow c.args.sought c.args.variable c.args.table.now c.keep.new.self c.args.program.now rest c.in_ok-lines.lines
    unknown are c.in_ok-keep.ensures.kept c.keep.ensures.others so
