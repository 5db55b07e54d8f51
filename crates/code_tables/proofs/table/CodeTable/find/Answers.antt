-- `find` answers the one row of the code, and none exactly if no row has it (src/table.rt).
use Rattle.std.proofs.Common.{◌∙◌, rules}
use Rattle.code_tables.proofs.Lookup.{row_of_is, row_of_only}
use Rattle.code_tables.proofs.table.CodeTable.find.Goals as goal

pub returns-clause-row : goal.returns-clause-row
returns-clause-row g c =
    row_of_is c.args.self.now c.args.code c.copied.result (rw c.self.view_is at c.self.invariant) (search rules) (search rules)

pub returns-clause-only : goal.returns-clause-only
returns-clause-only g c row has is =
    let once = rw c.self.view_is at c.self.invariant in
    row_of_is c.args.self.now c.args.code c.copied.result once (search rules) (search rules)
    ∙ row_of_only c.args.self.now c.args.code row once has is
