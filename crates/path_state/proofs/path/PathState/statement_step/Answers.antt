-- The codes of a loop's head and of an assignment behind IF are those of its text, so the step is
-- that of the definition (src/statements.rt).
use Rattle.std.proofs.Common.{sym, ap, ◌∙◌}
use Rattle.macro_expr.specs.Tree.{trees_of_sentence, sentence_of, test_of, tree_of, variable_of}
use Rattle.path_state.proofs.StatementCodes.{parts_behind_if}
use Rattle.path_state.proofs.path.PathState.statement_step.Goals as goal

pub returns-in-WhileDo : goal.returns-in-WhileDo
returns-in-WhileDo c = rw c.in-WhileDo.is (c.looped.ensures c.in-WhileDo.field-1)

pub assigned_if-requires : goal.assigned_if-requires
assigned_if-requires c =
    (parts_behind_if _ _ (test_of c.in-IfThen.condition) (variable_of c.in-IfThen.name) (tree_of c.in-IfThen.field-2)
    (sym c.parted-in-IfThen.ensures ∙ (c.codes-codes.ensures
    ∙ (c.args.statement.now.agrees ∙ ap (λ s. trees_of_sentence (sentence_of s)) c.in-IfThen.is)))).0

pub returns-in-IfThen : goal.returns-in-IfThen
returns-in-IfThen c =
    let last =
    (parts_behind_if _ _ (test_of c.in-IfThen.condition) (variable_of c.in-IfThen.name) (tree_of c.in-IfThen.field-2)
    (sym c.parted-in-IfThen.ensures ∙ (c.codes-codes.ensures
    ∙ (c.args.statement.now.agrees ∙ ap (λ s. trees_of_sentence (sentence_of s)) c.in-IfThen.is)))).1 in
    rw c.in-IfThen.is (rw (sym last) (c.assigned_if.ensures c.args.order.now))
