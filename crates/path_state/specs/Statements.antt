-- What a statement does: an assignment, a jump, the head or the end of a loop. `statement_effect`
-- is the one definition; where jumps and loops lead is defined in block_order. Effect is built on
-- it.
use Rattle.std.specs.Prelude.{ℕ, Bool, true, false, List, Option, Some, None, Result, Ok, Err, ℤ, pos, if◌then◌else◌}
use Rattle.nc_number.specs.declared.cause.Cause.{Cause}
use Rattle.nc_number.specs.declared.cause.Cause.TheVariants.{Protected, MacroAlarm}
use Rattle.nc_number.specs.declared.point.Point.{Point}
use Rattle.nc_number.specs.declared.axis.Axis.TheVariants.{Keep, To}
use Rattle.nc_number.specs.declared.value.Var.{Var}
use Rattle.nc_number.specs.Causes.{cause_number}
use Rattle.nc_number.specs.Variables.{or_zero}
use Rattle.common_vars.specs.declared.variable.Variable.{Variable}
use Rattle.common_vars.specs.declared.variable.Variable.TheVariants as variable
use Rattle.common_vars.specs.declared.variable.AxisLetter.{AxisLetter}
use Rattle.common_vars.specs.declared.variable.AxisLetter.TheVariants.{X, Z}
use Rattle.common_vars.specs.Common.{with_value}
use Rattle.local_levels.specs.Stack.{with_local}
use Rattle.macro_expr.specs.Tree.{Tree, Named, Test, Aim, Sentence, Assign, Goto, IfGoto, IfThen, WhileDo, DoOnly, EndLoop}
use Rattle.offset_store.specs.declared.slot.Slot.{Slot}
use Rattle.offset_store.specs.declared.slot.Slot.TheVariants.{Work}
use Rattle.offset_store.specs.declared.fault.OffsetFault.{OffsetFault}
use Rattle.offset_store.specs.Changes.{changed_point, in_range, point_at, with_point}
use Rattle.block_order.specs.declared.frame.Frame.{Frame}
use Rattle.block_order.specs.declared.program.ControlProgram.{ControlProgram}
use Rattle.block_order.specs.Moves.{place_behind, place_of_jump, place_behind_loop, place_of_head}
use Rattle.path_state.specs.View.{Fixed, PathView}
use Rattle.block_values.specs.Operands.{variable_with, length_of, condition_with, sequence_with}
use Rattle.path_state.specs.Looks.{is_shared, look_of}
use Rattle.block_values.specs.Outcomes.{Outcome, Gives, Alarms, ◌>>=◌, alarm}
use Rattle.path_state.specs.Said.{value_of_tree}

-- a write to a variable that both paths share
pub record Write : Type 0 where
  -- the number of the variable
  pub variable : ℕ
  -- its new value
  pub value : Var

-- a path behind a block, and what it wrote to a shared variable
pub record After : Type 0 where
  pub path : PathView
  pub write : Option Write

-- a path that goes to another place and writes nothing
abbrev pub after_move : PathView → List Frame → After
after_move path place = record { path = record path { place = place }; write = None }

-- the variable on the left side of an assignment, whose number is evaluated if it is not written
-- out
abbrev pub variable_named : Fixed → PathView → Named → List Var → Outcome Variable
variable_named fixed path name reads = variable_with (look_of fixed path) path.modal name reads

-- the point `now` with this coordinate, in 0.001 mm, along one axis
abbrev pub point_along : AxisLetter → ℤ → Point → Point
point_along X length now = changed_point now (To length) Keep
point_along Z length now = changed_point now Keep (To length)

-- the path with an offset at this point, or the number of the alarm of a point that it can't have
abbrev pub with_offset : PathView → Slot → Result Point OffsetFault → Result PathView ℕ
with_offset path slot (Ok to) = Ok (record path { offsets = with_point path.offsets slot to })
with_offset path slot (Err fault) = Err fault.number

-- the outcome of a write to the path's own offsets: the path behind it, or the alarm
abbrev pub written_path : Result PathView ℕ → List Var → Outcome After
written_path (Ok path) left = Gives (record { path = path; write = None }) left
written_path (Err number) left = Alarms number (pos 0)

-- a common variable takes a value: a shared one (true) as a write, the path's own in the path
abbrev pub with_common : Bool → PathView → ℕ → Var → After
with_common true path v value = record { path = path; write = Some (record { variable = v; value = value }) }
with_common false path v value = record { path = record path { own = with_value v value path.own }; write = None }

-- A variable takes a value: a local one, a common one, a work offset (alarm 41 past its range);
-- `#3000` raises alarm 33 with the value; every other one is protected, alarm 31.
abbrev pub outcome_of_write : Fixed → PathView → Variable → Var → List Var → Outcome After
outcome_of_write fixed path (variable.Local i) value left =
    Gives (record { path = record path { levels = with_local i value path.levels }; write = None }) left
outcome_of_write fixed path (variable.Common v) value left = Gives (with_common (is_shared fixed v) path v value) left
outcome_of_write fixed path (variable.Work n axis) value left =
    written_path (with_offset path (Work n) (in_range (point_along axis (length_of value) (point_at path.offsets (Work n))))) left
outcome_of_write fixed path variable.Raise value left = Alarms (cause_number MacroAlarm) (or_zero value)
outcome_of_write fixed path other value left = alarm Protected

-- an assignment: the left side, its number in existence (30), the value, and then the writing (31,
-- 33, 41)
abbrev pub outcome_of_assignment : Fixed → PathView → Named → Tree → List Var → Outcome After
outcome_of_assignment fixed path name tree reads =
    variable_named fixed path name reads >>= λ variable behind_name.
    value_of_tree fixed path tree behind_name >>= λ value left. outcome_of_write fixed path variable value left

-- whether a condition holds; its left side is evaluated before its right one
abbrev pub outcome_of_test : Fixed → PathView → Test → List Var → Outcome Bool
outcome_of_test fixed path test reads = condition_with (look_of fixed path) test reads

-- the sequence number to which a jump goes
abbrev pub outcome_of_aim : Fixed → PathView → Aim → List Var → Outcome ℕ
outcome_of_aim fixed path aim reads = sequence_with (look_of fixed path) aim reads

-- the outcome of a statement that goes to a place, or the alarm of the cause for which there is
-- none
abbrev pub move_effect : PathView → Result (List Frame) Cause → List Var → Outcome After
move_effect path (Ok place) left = Gives (after_move path place) left
move_effect path (Err cause) left = alarm cause

-- the outcome of a jump: its target is evaluated, and the path goes to where that leads
abbrev pub jump_effect : List ControlProgram → Fixed → PathView → Aim → List Var → Outcome After
jump_effect tape fixed path aim reads =
    outcome_of_aim fixed path aim reads >>= λ n left. move_effect path (place_of_jump tape n path.place) left

-- the outcome of a statement behind which the next block follows
abbrev pub next_effect : PathView → List Var → Outcome After
next_effect path left = Gives (after_move path (place_behind path.place)) left

-- a path behind an assignment, gone on to the next block
abbrev pub then_next : After → After
then_next after = record after { path = record after.path { place = place_behind after.path.place } }

-- the outcome of an assignment, behind which the next block follows
abbrev pub assigned_next : Fixed → PathView → Named → Tree → List Var → Outcome After
assigned_next fixed path name tree reads = outcome_of_assignment fixed path name tree reads >>= λ after left. Gives (then_next after) left

-- the outcome of a statement; what stands behind IF is evaluated only if the condition holds
abbrev pub statement_effect : List ControlProgram → Fixed → PathView → Sentence → List Var → Outcome After
statement_effect tape fixed path (Assign name tree) reads = assigned_next fixed path name tree reads
statement_effect tape fixed path (Goto aim) reads = jump_effect tape fixed path aim reads
statement_effect tape fixed path (IfGoto test aim) reads =
    outcome_of_test fixed path test reads >>= λ holds left. if holds then jump_effect tape fixed path aim left else next_effect path left
statement_effect tape fixed path (IfThen test name tree) reads =
    outcome_of_test fixed path test reads >>= λ holds left. if holds then assigned_next fixed path name tree left else next_effect path left
statement_effect tape fixed path (WhileDo test name) reads =
    outcome_of_test fixed path test reads >>= λ holds left.
    if holds then next_effect path left else move_effect path (place_behind_loop tape path.place) left
statement_effect tape fixed path (DoOnly name) reads = next_effect path reads
statement_effect tape fixed path (EndLoop name) reads = move_effect path (place_of_head tape path.place) reads
