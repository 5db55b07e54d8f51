-- What each variable holds as a block begins: the table over which the block's expressions are
-- evaluated. A shared variable holds nothing here, since each reading of it is an event of its own.
use Rattle.std.specs.Prelude.{ℕ, ◌+◌, ◌&&◌, ◌||◌, nat_le, nat_lt, Bool, Option, Some, None, Result, Ok, Err, ◌-ℤ◌, if◌then◌else◌}
use Rattle.nc_number.specs.declared.value.Var.TheVariants.{Vacant, Is}
use Rattle.nc_number.specs.declared.point.Point.{Point}
use Rattle.common_vars.specs.declared.variable.Variable.{Variable}
use Rattle.common_vars.specs.declared.variable.Variable.TheVariants as variable
use Rattle.common_vars.specs.Common.{value_of}
use Rattle.local_levels.specs.Stack.{local}
use Rattle.macro_eval.specs.declared.scope.Look.{Look}
use Rattle.macro_eval.specs.declared.scope.Look.TheVariants as look
use Rattle.macro_eval.specs.declared.scope.VarFault.{VarFault}
use Rattle.macro_eval.specs.declared.scope.VarFault.TheVariants.{Range}
use Rattle.modal_state.specs.Modal.{code_of, work_of}
use Rattle.offset_store.specs.Table.{offset_at}
use Rattle.offset_store.specs.Offsets.{shift_of}
use Rattle.block_values.specs.Readings.{in_units, in_millimetres, code_in_force, part, variable_in}
use Rattle.path_state.specs.View.{Fixed, PathView}

-- the shift of the offsets in force, in 0.001 mm: programmed coordinates are machine coordinates
-- without it
abbrev pub shift_now : PathView → Point
shift_now path = shift_of path.offsets (work_of path.modal) path.modal.offset

-- both paths share the variable: it is one of the first `shared100` from #100 on, or of the first
-- `shared500` from #500 on
abbrev pub is_shared : Fixed → ℕ → Bool
is_shared fixed v =
    (nat_le 100 v && nat_lt v (100 + fixed.shared100)) || (nat_le 500 v && nat_lt v (500 + fixed.shared500))

-- what a variable holds, or that it is shared; #3000 can't be read
abbrev pub value_or_shared : Fixed → PathView → Variable → Result Look VarFault
value_or_shared fixed path variable.Null = Ok (look.Is Vacant)
value_or_shared fixed path (variable.Local i) = Ok (look.Is (local i path.levels))
value_or_shared fixed path (variable.Common v) =
    if is_shared fixed v then Ok look.Shared else Ok (look.Is (value_of v path.own))
value_or_shared fixed path (variable.Code group) = Ok (look.Is (code_in_force (code_of path.modal group)))
value_or_shared fixed path variable.Feed = Ok (look.Is path.modal.feed)
value_or_shared fixed path variable.Speed = Ok (look.Is path.modal.speed)
value_or_shared fixed path variable.Tool = Ok (look.Is (in_units path.modal.tool))
value_or_shared fixed path (variable.Programmed axis) =
    Ok (look.Is (in_millimetres (part axis path.position -ℤ part axis (shift_now path))))
value_or_shared fixed path (variable.Machine axis) = Ok (look.Is (in_millimetres (part axis path.position)))
value_or_shared fixed path (variable.Work n axis) =
    Ok (look.Is (in_millimetres (part axis (offset_at path.offsets.work n))))
value_or_shared fixed path variable.Raise = Err Range

-- what the variable holds that a number names, or alarm 30 if it names none
abbrev pub held_by : Fixed → PathView → Option Variable → Result Look VarFault
held_by fixed path None = Err Range
held_by fixed path (Some variable) = value_or_shared fixed path variable

-- a look at the variable of a number, as the block before left it
abbrev pub look_of : Fixed → PathView → ℕ → Result Look VarFault
look_of fixed path n = held_by fixed path (variable_in path.modal n)
