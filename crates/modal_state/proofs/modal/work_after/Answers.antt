-- `work_after` answers the last code of the work group if each of its rows names a work offset
-- (src/modal.rt).
use Rattle.std.proofs.Common.{arith, ◌≤◌}
use Rattle.std.proofs.lemmas.Bool.Decides.{nat_tests}
use Rattle.code_tables.specs.declared.group.TheConstants.{WORK_GROUP}
use Rattle.modal_state.specs.Modal.{in_force_after}
use Rattle.modal_state.proofs.NamedWork.{in_force_is_work}
use Rattle.modal_state.proofs.modal.work_after.Goals as goal

pub returns-else-code-ge-FIRST_WORK_CODE-clause-named : goal.returns-else-code-ge-FIRST_WORK_CODE-clause-named
returns-else-code-ge-FIRST_WORK_CODE-clause-named c named =
    let work = in_force_is_work c.args.rows.now c.args.before named c.requires in
    let least : 54 ≤ in_force_after c.args.rows.now WORK_GROUP c.args.before = grind (arith, nat_tests) in
    let most : in_force_after c.args.rows.now WORK_GROUP c.args.before ≤ 59 = grind (arith, nat_tests) in
    absurd (omega arith)
