-- A statement asks for no more values than it names variables, each mention counted, and for shared
-- ones alone: each lemma says it of one part of a statement, the last of the whole. For NeedsWords.
use Rattle.std.proofs.Common.{ℕ, ◌+◌, ◌≤◌, Bool, true, false, List, [], ◌∷◌, ◌++◌, Result, Ok, Err, arith, if◌then◌else◌}
use Rattle.nc_number.specs.declared.cause.Cause.{Cause}
use Rattle.nc_number.specs.declared.point.Point.{Point}
use Rattle.nc_number.specs.declared.value.Var.{Var}
use Rattle.common_vars.specs.declared.variable.Variable.{Variable}
use Rattle.common_vars.specs.declared.variable.Variable.TheVariants as variable
use Rattle.offset_store.specs.declared.slot.Slot.{Slot}
use Rattle.offset_store.specs.declared.slot.Slot.TheVariants.{Work}
use Rattle.offset_store.specs.declared.fault.OffsetFault.{OffsetFault}
use Rattle.offset_store.specs.Changes.{in_range, point_at}
use Rattle.block_order.specs.declared.program.ControlProgram.{ControlProgram}
use Rattle.macro_expr.specs.Tree.{Tree, Named, Fixed as Numbered, Computed, Test, Aim, ToNumber, ToNumberOf, Sentence, Assign, Goto, IfGoto, IfThen, WhileDo, DoOnly, EndLoop, variables, variables_in, evaluated_name, evaluated_aim, trees_of_sentence}
use Rattle.macro_expr.proofs.Kept.{variables-append}
use Rattle.macro_eval.specs.Meaning.{whole_number, variable_number}
use Rattle.block_order.specs.declared.frame.Frame.{Frame}
use Rattle.block_order.specs.Moves.{place_of_jump, place_behind_loop, place_of_head}
use Rattle.path_state.specs.View.{Fixed, PathView}
use Rattle.block_values.specs.Readings.{variable_in}
use Rattle.block_values.specs.Outcomes.{Outcome, ◌>>=◌}
use Rattle.path_state.specs.Said.{value_of_tree}
use Rattle.block_values.specs.Operands.{variable_or_fault, number_named, length_of, sequence_number}
use Rattle.path_state.specs.Statements.{After, point_along, with_offset, written_path, outcome_of_write, variable_named, outcome_of_assignment, outcome_of_test, outcome_of_aim, move_effect, jump_effect, next_effect, assigned_next, statement_effect}
use Rattle.path_state.proofs.NeedsShared.{Asks, then_asks, none_asks, tree_asks}

-- A path before its block: `fixed` is what is fixed for it.
module _ (fixed : Fixed) (path : PathView) where
  -- the left side of an assignment asks for at most as many values as its number names variables
  named_asks : (name : Named) (reads : List Var)
      → Asks fixed (variables_in (evaluated_name name)) reads (variable_named fixed path name reads)
  named_asks (Numbered n) reads = none_asks fixed 0 reads (variable_or_fault (variable_in path.modal n))
  named_asks (Computed tree) reads =
      then_asks fixed (variables tree) 0 _ (omega arith) reads (value_of_tree fixed path tree reads) _
      (tree_asks fixed path tree reads)
      (λ value left. none_asks fixed 0 left (number_named path.modal (variable_number value)))

  -- a write to an offset asks for none
  offset_asks : (slot : Slot) (to : Result Point OffsetFault) (left : List Var)
      → Asks fixed 0 left (written_path (with_offset path slot to) left)
  offset_asks slot (Ok to) left = omega arith
  offset_asks slot (Err fault) left = tt

  -- a write to a variable asks for none
  written_asks : (v : Variable) (value : Var) (left : List Var)
      → Asks fixed 0 left (outcome_of_write fixed path v value left)
  written_asks (variable.Local i) value left = omega arith
  written_asks (variable.Common v) value left = omega arith
  written_asks (variable.Work n axis) value left =
      offset_asks (Work n) (in_range (point_along axis (length_of value) (point_at path.offsets (Work n))))
      left
  written_asks variable.Raise value left = tt
  written_asks _ value left = tt

  -- an assignment asks for at most as many values as its left side and its value name variables
  assigned_asks : (name : Named) (tree : Tree) (reads : List Var)
      → Asks fixed (variables_in (evaluated_name name ++ tree ∷ [])) reads
      (outcome_of_assignment fixed path name tree reads)
  assigned_asks name tree reads =
      let all = variables-append (evaluated_name name) (tree ∷ []) in
      then_asks fixed (variables_in (evaluated_name name)) (variables tree) _ (omega arith) reads
      (variable_named fixed path name reads) _ (named_asks name reads)
      (λ v behind_name. then_asks fixed (variables tree) 0 _ (omega arith) behind_name
      (value_of_tree fixed path tree behind_name) _
      (tree_asks fixed path tree behind_name) (λ value left. written_asks v value left))

  -- an assignment behind which the next block follows asks for no more
  assigned_next_asks : (name : Named) (tree : Tree) (reads : List Var)
      → Asks fixed (variables_in (evaluated_name name ++ tree ∷ [])) reads
      (assigned_next fixed path name tree reads)
  assigned_next_asks name tree reads =
      then_asks fixed (variables_in (evaluated_name name ++ tree ∷ [])) 0 _ (omega arith) reads
      (outcome_of_assignment fixed path name tree reads) _
      (assigned_asks name tree reads) (λ after left. omega arith)

  -- a condition asks for at most as many values as both its sides name variables
  tested_asks : (test : Test) (reads : List Var)
      → Asks fixed (variables test.left + variables test.right) reads (outcome_of_test fixed path test reads)
  tested_asks test reads =
      then_asks fixed (variables test.left) (variables test.right) _ (omega arith) reads
      (value_of_tree fixed path test.left reads) _
      (tree_asks fixed path test.left reads)
      (λ left behind_left. then_asks fixed (variables test.right) 0 _ (omega arith) behind_left
      (value_of_tree fixed path test.right behind_left) _
      (tree_asks fixed path test.right behind_left) (λ right rest. omega arith))

  -- the target of a jump asks for at most as many values as it names variables
  aimed_asks : (aim : Aim) (reads : List Var)
      → Asks fixed (variables_in (evaluated_aim aim)) reads (outcome_of_aim fixed path aim reads)
  aimed_asks (ToNumber n) reads = omega arith
  aimed_asks (ToNumberOf tree) reads =
      then_asks fixed (variables tree) 0 _ (omega arith) reads (value_of_tree fixed path tree reads) _
      (tree_asks fixed path tree reads)
      (λ value left. none_asks fixed 0 left (sequence_number (whole_number value)))

  -- a statement that goes to a place asks for none
  move_asks : (to : Result (List Frame) Cause) (most : ℕ) (left : List Var)
      → Asks fixed most left (move_effect path to left)
  move_asks (Ok to) most left = omega arith
  move_asks (Err cause) most left = tt

  -- a jump asks for at most as many values as its target names variables
  jump_asks : (tape : List ControlProgram) (aim : Aim) (reads : List Var)
      → Asks fixed (variables_in (evaluated_aim aim)) reads (jump_effect tape fixed path aim reads)
  jump_asks tape aim reads =
      then_asks fixed (variables_in (evaluated_aim aim)) 0 _ (omega arith) reads
      (outcome_of_aim fixed path aim reads) _ (aimed_asks aim reads)
      (λ n left. move_asks (place_of_jump tape n path.place) 0 left)

  -- a statement behind which the next block follows asks for none
  next_asks : (most : ℕ) (reads : List Var) → Asks fixed most reads (next_effect path reads)
  next_asks most reads = omega arith

  -- a condition and what follows it, either way, ask for at most as many values as both together
  test_asks : (test : Test) (most all : ℕ) → variables test.left + variables test.right + most ≤ all
      → (reads : List Var) (one other : List Var → Outcome After)
      → ((left : List Var) → Asks fixed most left (one left))
      → ((left : List Var) → Asks fixed most left (other left))
      → Asks fixed all reads
      (outcome_of_test fixed path test reads >>= λ holds left. if holds then one left else other left)
  test_asks test most all within reads one other first second =
      then_asks fixed (variables test.left + variables test.right) most all within reads
      (outcome_of_test fixed path test reads) _ (tested_asks test reads) either
    where
      either : (holds : Bool) (left : List Var)
          → Asks fixed most left (if holds then one left else other left)
      either true left = first left
      either false left = second left

  -- a statement asks for at most as many values as its expressions name variables
  pub statement_asks : (tape : List ControlProgram) (sentence : Sentence) (reads : List Var)
      → Asks fixed (variables_in (trees_of_sentence sentence)) reads
      (statement_effect tape fixed path sentence reads)
  statement_asks tape (Assign name tree) reads = assigned_next_asks name tree reads
  statement_asks tape (Goto aim) reads = jump_asks tape aim reads
  statement_asks tape (IfGoto test aim) reads =
      test_asks test (variables_in (evaluated_aim aim)) _ (omega arith) reads
      (jump_effect tape fixed path aim) (next_effect path)
      (jump_asks tape aim) (next_asks (variables_in (evaluated_aim aim)))
  statement_asks tape (IfThen test name tree) reads =
      let most = variables_in (evaluated_name name ++ tree ∷ []) in
      test_asks test most _ (omega arith) reads (assigned_next fixed path name tree) (next_effect path)
      (assigned_next_asks name tree) (next_asks most)
  statement_asks tape (WhileDo test name) reads =
      test_asks test 0 _ (omega arith) reads (next_effect path)
      (λ left. move_effect path (place_behind_loop tape path.place) left)
      (next_asks 0) (move_asks (place_behind_loop tape path.place) 0)
  statement_asks tape (DoOnly name) reads = next_asks 0 reads
  statement_asks tape (EndLoop name) reads = move_asks (place_of_head tape path.place) 0 reads
