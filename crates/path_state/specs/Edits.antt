-- What an operator's edit does to a path: it sets an offset, or a common variable of the path's
-- own, and nothing of control.
use Rattle.std.specs.Prelude.{◌≡◌, ℕ, List, Option, Some, None, if◌then◌else◌}
use Rattle.nc_number.specs.declared.value.Var.{Var}
use Rattle.common_vars.specs.Common.{with_value}
use Rattle.offset_store.specs.Table.{OffsetTable}
use Rattle.offset_store.specs.Changes.{with_point}
use Rattle.run_records.specs.declared.edit.Edit.{Edit}
use Rattle.run_records.specs.declared.edit.Edit.TheVariants.{Offset, Common}
use Rattle.path_state.specs.View.{Fixed, PathView}
use Rattle.path_state.specs.Looks.{is_shared}
use Rattle.path_state.specs.Statements.{Write}

-- the offsets behind an edit
abbrev pub offsets_behind : Edit → OffsetTable → OffsetTable
offsets_behind (Offset slot to) offsets = with_point offsets slot to
offsets_behind (Common variable to) offsets = offsets

-- the path's own common variables with this one set: one that both paths share is none of them
abbrev pub own_with : Fixed → ℕ → Var → List Var → List Var
own_with fixed v to own = if is_shared fixed v then own else with_value v to own

-- the path's own common variables behind an edit
abbrev pub own_behind : Fixed → Edit → List Var → List Var
own_behind fixed (Offset slot to) own = own
own_behind fixed (Common variable to) own = own_with fixed variable to own

-- the path behind an edit: nothing changes but its offsets and its own variables
abbrev pub path_with_edit : Edit → PathView → PathView
path_with_edit edit path =
    record path { own = own_behind path.fixed edit path.own; offsets = offsets_behind edit path.offsets }

-- what an edit writes to a variable that both paths share, if it sets one
abbrev pub shared_write : Fixed → Edit → Option Write
shared_write fixed (Offset slot to) = None
shared_write fixed (Common variable to) =
    if is_shared fixed variable then Some (record { variable = variable; value = to }) else None

-- an edit keeps control: place, calls, local variables, what is in force, position and what is
-- fixed stay
pub record KeepsControl (before after : PathView) : Type 0 where
  pub place : after.place ≡ before.place
  pub calls : after.calls ≡ before.calls
  pub levels : after.levels ≡ before.levels
  pub modal : after.modal ≡ before.modal
  pub position : after.position ≡ before.position
  pub fixed : after.fixed ≡ before.fixed
