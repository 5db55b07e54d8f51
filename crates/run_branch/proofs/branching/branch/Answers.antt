-- A branch is made, or refused: no such meeting, no memory, or as its file of gates is (`branch`,
-- src/branching.rt).
use Rattle.std.proofs.Common.{◌∙◌, Some, Ok, sym, subst, arith}
use Rattle.run_branch.specs.Branches.{Branches}
use Rattle.run_branch.specs.Meetings.{branch_point}
use Rattle.run_branch.proofs.Points.{enough, none_left, point_is}
use Rattle.run_branch.proofs.Made.{made, no_meeting, no_memory, not_made}
use Rattle.run_branch.proofs.branching.branch.Goals as goal

pub returns-in_default : goal.returns-in_default
returns-in_default g c =
    let items = c.args.entries.now.items in
    no_meeting g.E.Disk.state c.args.header.now items c.args.n c.args.onto (g.met.E.Disk.coherent c.args.onto)
    (none_left items c.args.n (sym c.branch_point.ensures ∙ c.in_default.is))

pub journal_bodies-requires-clause-within : goal.journal_bodies-requires-clause-within
journal_bodies-requires-clause-within g c =
    (point_is c.args.entries.now.items c.args.n c.in-Some.upto (sym c.branch_point.ensures ∙ c.in-Some.is)).within

pub returns-in_default-journal_bodies : goal.returns-in_default-journal_bodies
returns-in_default-journal_bodies g c =
    let items = c.args.entries.now.items in
    no_memory g.E.Disk.state c.args.header.now items c.args.n c.args.onto (g.met.E.Disk.coherent c.args.onto)
    (enough items c.args.n c.in-Some.upto (sym c.branch_point.ensures ∙ c.in-Some.is))

pub overflow_cast-result : goal.overflow_cast-result
overflow_cast-result g c =
    let point = point_is c.args.entries.now.items c.args.n c.in-Some.upto (sym c.branch_point.ensures ∙ c.in-Some.is) in
    omega (arith, point.within, c.requires.few)

pub returns-in-Ok-create_filled : goal.returns-in-Ok-create_filled
returns-in-Ok-create_filled g c =
    let state = g.E.Disk.state in
    let items = c.args.entries.now.items in
    let point = sym c.branch_point.ensures ∙ c.in-Some.is in
    let file = c.in-Ok-create_filled.file in
    subst (λ (d : g.row.E.Denot). Branches state c.args.header.now items c.args.n c.args.onto d (Ok c.in-Some.upto)) (sym c.into_disk.ensures)
    (made state c.args.header.now items c.args.n c.in-Some.upto point c.in-Ok.bodies c.in-Ok.ensures c.args.onto file.disk file
    c.in-Ok-create_filled.ensures.begun)

pub returns : goal.returns
returns g c =
    let point = sym c.branch_point.ensures ∙ c.in-Some.is in
    not_made g.E.Disk.state c.args.header.now c.args.entries.now.items c.args.n c.in-Some.upto point c.in-Ok.bodies c.in-Ok.ensures
    c.args.onto c.in-Err.onto c.in-Err.fault c.fault_of.result c.fault_of.ensures c.in-Err.ensures.begun
