-- No statement raises the alarm of waits that differ: for NoCrossingBlocks. `Another alarm` here is
-- each one but that.
use Rattle.std.proofs.Common.{ℕ, List, Option, Some, None, Result, Ok, Err, ℤ, pos, negsuc, refl, if◌then◌else◌}
use Rattle.nc_number.specs.declared.cause.Cause.{Cause}
use Rattle.nc_number.specs.declared.cause.Cause.TheVariants.{PositionRange}
use Rattle.nc_number.specs.declared.point.Point.{Point}
use Rattle.nc_number.specs.declared.value.Var.{Var}
use Rattle.nc_number.specs.Position.{is_position}
use Rattle.common_vars.specs.declared.variable.Variable.{Variable}
use Rattle.common_vars.specs.declared.variable.Variable.TheVariants as variable
use Rattle.offset_store.specs.declared.slot.Slot.{Slot}
use Rattle.offset_store.specs.declared.slot.Slot.TheVariants.{Work}
use Rattle.offset_store.specs.declared.fault.OffsetFault.{OffsetFault}
use Rattle.offset_store.specs.Changes.{in_range, point_at}
use Rattle.offset_store.specs.Faults.{fault}
use Rattle.block_order.specs.declared.program.ControlProgram.{ControlProgram}
use Rattle.macro_expr.specs.Tree.{Tree, Named, Fixed as Numbered, Computed, Test, Aim, ToNumber, ToNumberOf, Sentence, Assign, Goto, IfGoto, IfThen, WhileDo, DoOnly, EndLoop}
use Rattle.macro_eval.specs.Meaning.{whole_number, variable_number}
use Rattle.modal_state.specs.View.{ModalView}
use Rattle.block_order.specs.declared.frame.Frame.{Frame}
use Rattle.block_order.specs.Moves.{place_of_jump, place_behind_loop, place_of_head}
use Rattle.path_state.specs.View.{Fixed, PathView}
use Rattle.block_values.specs.Readings.{variable_in}
use Rattle.block_values.specs.Outcomes.{Outcome, ◌>>=◌}
use Rattle.path_state.specs.Said.{value_of_tree}
use Rattle.block_values.specs.Operands.{variable_or_fault, number_named, length_of, sequence_number}
use Rattle.path_state.specs.Statements.{After, point_along, with_offset, written_path, outcome_of_write, variable_named, outcome_of_assignment, outcome_of_test, outcome_of_aim, move_effect, jump_effect, next_effect, assigned_next, statement_effect}
use Rattle.two_path.proofs.NoCrossing.{IsOtherError, IsOtherCause, IsOtherAlarm, either, alarm_behind, none_other, whole_number_other, variable_number_other, tree_other}
use Rattle.two_path.proofs.NoCrossingPlaces.{jump_other, exit_other, head_other}

-- the number of the alarm of a fault of an offset
abbrev pub offset_alarm : OffsetFault → ℕ
offset_alarm f = f.number

-- a point out of an offset's range raises another alarm
pub in_range_other : (to : Point) → IsOtherError offset_alarm (in_range to)
in_range_other to =
    either (λ (r : Result Point OffsetFault). IsOtherError offset_alarm r) (is_position to) (Ok to) (Err (fault PositionRange)) tt refl

-- a variable that does not exist raises another alarm
existing_other : (v : Option Variable) → IsOtherCause (variable_or_fault v)
existing_other None = refl
existing_other (Some v) = tt

-- a computed number of a variable raises another alarm, if any
number_named_other : (modal : ModalView) (n : Result ℕ Cause) → IsOtherCause n → IsOtherCause (number_named modal n)
number_named_other modal (Ok n) other = existing_other (variable_in modal n)
number_named_other modal (Err cause) other = other

-- a computed sequence number raises another alarm, if any
sequence_other : (n : Result ℤ Cause) → IsOtherCause n → IsOtherCause (sequence_number n)
sequence_other (Ok (pos n)) other = tt
sequence_other (Ok (negsuc n)) other = refl
sequence_other (Err cause) other = other

-- A path before its block: `fixed` is what is fixed for it.
module _ (fixed : Fixed) (path : PathView) where
  -- the variable on a left side, by its number, raises another alarm, if any
  named_other : (name : Named) (reads : List Var) → IsOtherAlarm (variable_named fixed path name reads)
  named_other (Numbered n) reads =
      none_other (variable_or_fault (variable_in path.modal n)) (existing_other (variable_in path.modal n)) reads
  named_other (Computed tree) reads =
      alarm_behind (value_of_tree fixed path tree reads) _ (tree_other fixed path tree reads)
      (λ value left. none_other (number_named path.modal (variable_number value))
      (number_named_other path.modal (variable_number value) (variable_number_other value)) left)

  -- a write to an offset raises another alarm, if any
  offset_other : (slot : Slot) (to : Result Point OffsetFault) → IsOtherError offset_alarm to → (left : List Var)
      → IsOtherAlarm (written_path (with_offset path slot to) left)
  offset_other slot (Ok to) other left = tt
  offset_other slot (Err f) other left = other

  -- a write to a variable raises another alarm, if any
  written_other : (v : Variable) (value : Var) (left : List Var) → IsOtherAlarm (outcome_of_write fixed path v value left)
  written_other (variable.Local i) value left = tt
  written_other (variable.Common v) value left = tt
  written_other (variable.Work n axis) value left =
      let to : Point = point_along axis (length_of value) (point_at path.offsets (Work n)) in
      offset_other (Work n) (in_range to) (in_range_other to) left
  written_other variable.Raise value left = refl
  written_other _ value left = refl

  -- an assignment raises another alarm, if any
  assigned_other : (name : Named) (tree : Tree) (reads : List Var) → IsOtherAlarm (outcome_of_assignment fixed path name tree reads)
  assigned_other name tree reads =
      alarm_behind (variable_named fixed path name reads) _ (named_other name reads)
      (λ v behind_name. alarm_behind (value_of_tree fixed path tree behind_name) _ (tree_other fixed path tree behind_name)
      (λ value left. written_other v value left))

  -- an assignment behind which the next block follows raises another alarm, if any
  assigned_next_other : (name : Named) (tree : Tree) (reads : List Var)
      → IsOtherAlarm (assigned_next fixed path name tree reads)
  assigned_next_other name tree reads =
      alarm_behind (outcome_of_assignment fixed path name tree reads) _ (assigned_other name tree reads) (λ after left. tt)

  -- a condition raises another alarm, if any
  tested_other : (test : Test) (reads : List Var) → IsOtherAlarm (outcome_of_test fixed path test reads)
  tested_other test reads =
      alarm_behind (value_of_tree fixed path test.left reads) _ (tree_other fixed path test.left reads)
      (λ left behind_left. alarm_behind (value_of_tree fixed path test.right behind_left) _
      (tree_other fixed path test.right behind_left) (λ right rest. tt))

  -- the sequence number of a GOTO raises another alarm, if any
  aimed_other : (aim : Aim) (reads : List Var) → IsOtherAlarm (outcome_of_aim fixed path aim reads)
  aimed_other (ToNumber n) reads = tt
  aimed_other (ToNumberOf tree) reads =
      alarm_behind (value_of_tree fixed path tree reads) _ (tree_other fixed path tree reads)
      (λ value left. none_other (sequence_number (whole_number value))
      (sequence_other (whole_number value) (whole_number_other value)) left)

  -- a statement that goes to another place raises another alarm, if any, if the place does
  move_other : (to : Result (List Frame) Cause) → IsOtherCause to → (left : List Var) → IsOtherAlarm (move_effect path to left)
  move_other (Ok to) other left = tt
  move_other (Err cause) other left = other

  -- a jump raises another alarm, if any
  jump_effect_other : (tape : List ControlProgram) (aim : Aim) (reads : List Var)
      → IsOtherAlarm (jump_effect tape fixed path aim reads)
  jump_effect_other tape aim reads =
      alarm_behind (outcome_of_aim fixed path aim reads) _ (aimed_other aim reads)
      (λ n left. move_other (place_of_jump tape n path.place) (jump_other tape n path.place) left)

  -- a statement that goes on by what a condition comes to raises another alarm, if any
  test_other : (test : Test) (reads : List Var) (one other : List Var → Outcome After)
      → ((left : List Var) → IsOtherAlarm (one left)) → ((left : List Var) → IsOtherAlarm (other left))
      → IsOtherAlarm (outcome_of_test fixed path test reads >>= λ holds left. if holds then one left else other left)
  test_other test reads one other first second =
      alarm_behind (outcome_of_test fixed path test reads) _ (tested_other test reads)
      (λ holds left. either (λ (step : Outcome After). IsOtherAlarm step) holds (one left) (other left) (first left) (second left))

  -- every statement raises another alarm, if any
  pub statement_other : (tape : List ControlProgram) (sentence : Sentence) (reads : List Var)
      → IsOtherAlarm (statement_effect tape fixed path sentence reads)
  statement_other tape (Assign name tree) reads = assigned_next_other name tree reads
  statement_other tape (Goto aim) reads = jump_effect_other tape aim reads
  statement_other tape (IfGoto test aim) reads =
      test_other test reads (jump_effect tape fixed path aim) (next_effect path) (jump_effect_other tape aim) (λ left. tt)
  statement_other tape (IfThen test name tree) reads =
      test_other test reads (assigned_next fixed path name tree) (next_effect path) (assigned_next_other name tree) (λ left. tt)
  statement_other tape (WhileDo test name) reads =
      test_other test reads (next_effect path) (λ left. move_effect path (place_behind_loop tape path.place) left) (λ left. tt)
      (move_other (place_behind_loop tape path.place) (exit_other tape path.place))
  statement_other tape (DoOnly name) reads = tt
  statement_other tape (EndLoop name) reads =
      move_other (place_of_head tape path.place) (head_other tape path.place) reads
