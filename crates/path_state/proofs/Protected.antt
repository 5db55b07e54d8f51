-- Which writes are refused, and by which alarm: for the law `a_protected_variable_is_not_written`
-- (src/refusing.rt).
use Rattle.std.proofs.Common.{◌≡◌, ◌↔◌, ℕ, Bool, true, false, List, Option, Some, None, refl, sym, ap, ◌∙◌, arith}
use Rattle.nc_number.specs.declared.cause.Cause.TheVariants.{Protected, VariableRange}
use Rattle.nc_number.specs.declared.point.Point.{Point}
use Rattle.nc_number.specs.declared.value.Var.{Var}
use Rattle.nc_number.specs.Position.{is_position}
use Rattle.common_vars.specs.declared.variable.Variable.{Variable}
use Rattle.common_vars.specs.declared.variable.Variable.TheVariants as variable
use Rattle.common_vars.specs.Variables.{is_protected}
use Rattle.macro_expr.specs.Tree.{Fixed as Numbered}
use Rattle.offset_store.specs.declared.slot.Slot.{Slot}
use Rattle.offset_store.specs.declared.slot.Slot.TheVariants.{Work}
use Rattle.offset_store.specs.Changes.{in_range, point_at}
use Rattle.block_values.specs.Operands.{variable_or_fault, length_of}
use Rattle.block_values.specs.Outcomes.{Outcome, Alarms, alarm, reading_none}
use Rattle.block_values.specs.Readings.{variable_in}
use Rattle.path_state.specs.View.{Fixed, PathView}
use Rattle.path_state.specs.Statements.{point_along, variable_named, with_offset, outcome_of_write, written_path}

-- the number of the alarm of an outcome, or 0 if it is none
abbrev alarm_in : {A : Type 0} → Outcome A → ℕ
alarm_in (Alarms number value) = number
alarm_in _ = 0

-- the alarm of an offset that takes a value: none at a position (true), else 41
abbrev offset_alarm : Bool → ℕ
offset_alarm true = 0
offset_alarm false = 41

-- a write to an offset raises 41 or nothing
offset_written : (path : PathView) (slot : Slot) (to : Point) (left : List Var) (b : Bool) → is_position to ≡ b
    → alarm_in (written_path (with_offset path slot (in_range to)) left) ≡ offset_alarm b
offset_written path slot to left true e = rw e refl
offset_written path slot to left false e = rw e refl

-- no alarm of an offset that takes a value is 31
not_protected : (b : Bool) → offset_alarm b ≡ 31 → ⊥
not_protected true e = omega (arith, e)
not_protected false e = omega (arith, e)

-- a write is alarm 31 exactly if the variable is protected
pub protected : (fixed : Fixed) (path : PathView) (what : Variable) (value : Var) (left : List Var)
    → (outcome_of_write fixed path what value left ≡ alarm Protected) ↔ (is_protected what ≡ true)
protected fixed path variable.Null value left = (λ e. refl, λ e. refl)
protected fixed path (variable.Code group) value left = (λ e. refl, λ e. refl)
protected fixed path variable.Feed value left = (λ e. refl, λ e. refl)
protected fixed path variable.Speed value left = (λ e. refl, λ e. refl)
protected fixed path variable.Tool value left = (λ e. refl, λ e. refl)
protected fixed path (variable.Programmed axis) value left = (λ e. refl, λ e. refl)
protected fixed path (variable.Machine axis) value left = (λ e. refl, λ e. refl)
protected fixed path (variable.Local i) value left = (λ e. absurd cc, λ e. absurd cc)
protected fixed path (variable.Common v) value left = (λ e. absurd cc, λ e. absurd cc)
protected fixed path variable.Raise value left =
    (λ e. let n : 33 ≡ 31 = ap alarm_in e in absurd (omega (arith, n)), λ e. absurd cc)
protected fixed path (variable.Work n axis) value left =
    let to : Point = point_along axis (length_of value) (point_at path.offsets (Work n)) in (
      λ e. absurd (not_protected (is_position to) (sym (offset_written path (Work n) to left (is_position to) refl) ∙ ap alarm_in e)),
      λ e. absurd cc,
    )

-- a search for the variable of a number is alarm 30 exactly if it finds none
missing_by : (reads : List Var) (o : Option Variable) → (reading_none (variable_or_fault o) reads ≡ alarm VariableRange) ↔ (o ≡ None)
missing_by reads None = (λ e. refl, λ e. refl)
missing_by reads (Some found) = (λ e. absurd cc, λ e. absurd cc)

-- a left side with a number written out is alarm 30 exactly if that names no variable
pub missing : (fixed : Fixed) (path : PathView) (number : ℕ) (reads : List Var)
    → (variable_named fixed path (Numbered number) reads ≡ alarm VariableRange) ↔ (variable_in path.modal number ≡ None)
missing fixed path number reads = missing_by reads (variable_in path.modal number)
