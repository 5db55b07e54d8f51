-- If the left side names a variable, what is left of an assignment is that the variable takes the
-- value (src/statements.rt).
use Rattle.std.proofs.Common.{sym, ap, ◌≡◌, ◌∙◌}
use Rattle.macro_expr.specs.Tree.{variable_of}
use Rattle.block_values.specs.Operands.{variable_with}
use Rattle.block_values.specs.Outcomes.{Gives}
use Rattle.path_state.specs.Effect.{of_after}
use Rattle.path_state.specs.Looks.{look_of}
use Rattle.path_state.specs.Statements.{variable_named}
use Rattle.path_state.proofs.AssignedNext.{assigned_by}
use Rattle.path_state.proofs.path.PathState.assigned.Goals as goal

pub returns-in-Ok : goal.returns-in-Ok
returns-in-Ok c =
    let path = c.args.self.now in
    let left = c.variable_taken-named.result.1.now in
    let is : variable_named path.fixed path (variable_of c.args.name.now) c.args.reads.now ≡ Gives c.in-Ok.variable left =
    ap (λ p. variable_with (look_of path.fixed path) p.modal (variable_of c.args.name.now) c.args.reads.now) (sym c.self.view_is)
    ∙ sym (rw c.in-Ok.is at c.variable_taken-named.ensures.named) in
    c.takes.ensures
    ∙ ap of_after (sym (assigned_by path.fixed path (variable_of c.args.name.now) c.args.value.now c.args.reads.now left c.in-Ok.variable is))
