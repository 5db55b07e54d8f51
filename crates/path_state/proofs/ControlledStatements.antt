-- A statement that is done leads where the order of blocks allows, and what is fixed for its path
-- stays: for the law `control_goes_as_the_flow_orders` (src/control_law.rt).
use Rattle.std.proofs.Common.{◌≡◌, ℕ, Bool, true, false, inl, inr, List, Some, Result, Ok, Err, refl, sym, subst, if◌then◌else◌}
use Rattle.nc_number.specs.declared.cause.Cause.{Cause}
use Rattle.nc_number.specs.declared.point.Point.{Point}
use Rattle.nc_number.specs.declared.value.Var.{Var}
use Rattle.common_vars.specs.declared.variable.Variable.{Variable}
use Rattle.common_vars.specs.declared.variable.Variable.TheVariants as variable
use Rattle.offset_store.specs.declared.slot.Slot.{Slot}
use Rattle.offset_store.specs.declared.slot.Slot.TheVariants.{Work}
use Rattle.offset_store.specs.declared.fault.OffsetFault.{OffsetFault}
use Rattle.offset_store.specs.Changes.{in_range, point_at}
use Rattle.block_order.specs.declared.control.Control.{Control}
use Rattle.block_order.specs.declared.control.Control.TheVariants as control
use Rattle.block_order.specs.declared.frame.Frame.{Frame}
use Rattle.block_order.specs.declared.program.ControlProgram.{ControlProgram}
use Rattle.block_order.specs.Order.{MayBe}
use Rattle.block_order.specs.Moves.{place_behind, place_of_jump, place_behind_loop, place_of_head}
use Rattle.block_order.specs.Steps.{Step, control_of_place}
use Rattle.block_forms.specs.Controls.{number_of_aim, control_of_sentence}
use Rattle.macro_expr.specs.Tree.{Tree, Named, Aim, ToNumber, ToNumberOf, Sentence, Assign, Goto, IfGoto, IfThen, WhileDo, DoOnly, EndLoop}
use Rattle.path_state.specs.View.{Fixed, PathView}
use Rattle.path_state.specs.Looks.{is_shared}
use Rattle.block_values.specs.Outcomes.{Outcome, Gives, Needs, Alarms, ◌>>=◌}
use Rattle.path_state.specs.Said.{value_of_tree}
use Rattle.block_values.specs.Operands.{length_of}
use Rattle.path_state.specs.Statements.{After, point_along, with_offset, written_path, with_common, outcome_of_write, variable_named, outcome_of_assignment, outcome_of_test, outcome_of_aim, move_effect, jump_effect, next_effect, assigned_next, statement_effect}

-- if the step gives a value, P holds of it
abbrev pub OnGives : {A : Type 0} → (A → Type 0) → Outcome A → Type 0
OnGives P (Gives value left) = P value
OnGives P (Needs variable) = Unit {0}
OnGives P (Alarms number value) = Unit {0}

-- if P holds of what the first step gives, and from this Q of what the next one gives, Q holds of
-- what both give
pub behind_gives : {A B : Type 0} (P : A → Type 0) (Q : B → Type 0) (step : Outcome A)
    (next : A → List Var → Outcome B) → OnGives P step
    → ((value : A) (left : List Var) → P value → OnGives Q (next value left))
    → OnGives Q (step >>= next)
behind_gives P Q (Gives value left) next first further = further value left first
behind_gives P Q (Needs variable) next first further = tt
behind_gives P Q (Alarms number value) next first further = tt

-- of each step's value the statement without content holds
anything : {A : Type 0} (step : Outcome A) → OnGives (λ value. Unit {0}) step
anything (Gives value left) = tt
anything (Needs variable) = tt
anything (Alarms number value) = tt

-- if Q holds of what the next step gives, whatever the first gave, Q holds of what both give
pub after_any : {A B : Type 0} (Q : B → Type 0) (step : Outcome A) (next : A → List Var → Outcome B)
    → ((value : A) (left : List Var) → OnGives Q (next value left)) → OnGives Q (step >>= next)
after_any Q step next further =
    behind_gives (λ value. Unit {0}) Q step next (anything step) (λ value left said. further value left)

-- the path is at the same place, and what is fixed for it stays
pub record Stays (before after : PathView) : Type 0 where
  pub place : after.place ≡ before.place
  pub fixed : after.fixed ≡ before.fixed

-- the path went a step of the order of blocks, and what is fixed for it stays
pub record Follows (tape : List ControlProgram) (before after : PathView) : Type 0 where
  pub step : Step tape before.place after.place
  pub fixed : after.fixed ≡ before.fixed

-- behind this write the path is at the same place, and what is fixed for it stays
abbrev Keeps : PathView → After → Type 0
Keeps path after = Stays path after.path

-- behind this statement the path has gone a step of the order of blocks, and what is fixed for it
-- stays
abbrev pub Goes : List ControlProgram → PathView → After → Type 0
Goes tape path after = Follows tape path after.path

-- a common variable that takes a value leaves the path where it is
with_common-keeps : (shared : Bool) (path : PathView) (v : ℕ) (value : Var)
    → Keeps path (with_common shared path v value)
with_common-keeps true path v value = record { place = refl; fixed = refl }
with_common-keeps false path v value = record { place = refl; fixed = refl }

-- an offset that takes a point leaves the path where it is
offset-keeps : (path : PathView) (slot : Slot) (to : Result Point OffsetFault) (left : List Var)
    → OnGives (Keeps path) (written_path (with_offset path slot to) left)
offset-keeps path slot (Ok to) left = record { place = refl; fixed = refl }
offset-keeps path slot (Err fault) left = tt

-- a variable of any kind that takes a value leaves the path where it is
outcome_of_write-keeps : (fixed : Fixed) (path : PathView) (v : Variable) (value : Var) (left : List Var)
    → OnGives (Keeps path) (outcome_of_write fixed path v value left)
outcome_of_write-keeps fixed path (variable.Local i) value left = record { place = refl; fixed = refl }
outcome_of_write-keeps fixed path (variable.Common v) value left =
    with_common-keeps (is_shared fixed v) path v value
outcome_of_write-keeps fixed path (variable.Work n axis) value left =
    offset-keeps path (Work n)
    (in_range (point_along axis (length_of value) (point_at path.offsets (Work n)))) left
outcome_of_write-keeps fixed path variable.Raise value left = tt
outcome_of_write-keeps fixed path _ value left = tt

-- an assignment, before the next block follows, leaves the path where it is
outcome_of_assignment-keeps : (fixed : Fixed) (path : PathView) (name : Named) (tree : Tree) (reads : List Var)
    → OnGives (Keeps path) (outcome_of_assignment fixed path name tree reads)
outcome_of_assignment-keeps fixed path name tree reads =
    after_any (Keeps path) (variable_named fixed path name reads) _ (λ v behind_name.
    after_any (Keeps path) (value_of_tree fixed path tree behind_name) _
    (λ value left. outcome_of_write-keeps fixed path v value left))

-- an assignment behind which the next block follows goes a step, if that leads to the next block
assigned_next-goes : (tape : List ControlProgram) (fixed : Fixed) (path : PathView) (name : Named) (tree : Tree)
    (reads : List Var)
    → Step tape path.place (place_behind path.place) → OnGives (Goes tape path) (assigned_next fixed path name tree reads)
assigned_next-goes tape fixed path name tree reads step =
    behind_gives (Keeps path) (Goes tape path) (outcome_of_assignment fixed path name tree reads) _
    (outcome_of_assignment-keeps fixed path name tree reads)
    (λ after left keeps. record {
      step = subst (λ place. Step tape path.place (place_behind place)) (sym keeps.place) step;
      fixed = keeps.fixed;
    })

-- a statement that moves to a place which the order allows goes a step
move-goes : (tape : List ControlProgram) (path : PathView) (to : Result (List Frame) Cause) (left : List Var)
    → ((there : List Frame) → to ≡ Ok there → Step tape path.place there)
    → OnGives (Goes tape path) (move_effect path to left)
move-goes tape path (Ok there) left step = record { step = step there refl; fixed = refl }
move-goes tape path (Err cause) left step = tt

-- the number that a target comes to is one that the order of blocks allows
outcome_of_aim-allowed : (fixed : Fixed) (path : PathView) (aim : Aim) (reads : List Var)
    → OnGives (MayBe (number_of_aim aim)) (outcome_of_aim fixed path aim reads)
outcome_of_aim-allowed fixed path (ToNumber n) reads = refl
outcome_of_aim-allowed fixed path (ToNumberOf tree) reads = anything (outcome_of_aim fixed path (ToNumberOf tree) reads)

-- a jump goes where its number leads
jump-goes : (tape : List ControlProgram) (fixed : Fixed) (path : PathView) (aim : Aim) (reads : List Var)
    → control_of_place tape path.place ≡ Some (control.Goto (number_of_aim aim))
    → OnGives (Goes tape path) (jump_effect tape fixed path aim reads)
jump-goes tape fixed path aim reads stands =
    behind_gives (MayBe (number_of_aim aim)) (Goes tape path) (outcome_of_aim fixed path aim reads) _
    (outcome_of_aim-allowed fixed path aim reads)
    (λ n left may. move-goes tape path (place_of_jump tape n path.place) left
    (λ there e. (control.Goto (number_of_aim aim), stands, inr (n, may, e))))

-- if P holds of what each of two steps gives, it holds of what the one gives that a condition picks
pub either : {A : Type 0} (P : A → Type 0) (holds : Bool) (first second : Outcome A) → OnGives P first
    → OnGives P second
    → OnGives P (if holds then first else second)
either P true first second one other = one
either P false first second one other = other

-- every statement goes a step of the order of blocks, if it is done
pub statement-goes : (tape : List ControlProgram) (fixed : Fixed) (path : PathView)
    (sentence : Sentence) (reads : List Var)
    → control_of_place tape path.place ≡ Some (control_of_sentence sentence)
    → OnGives (Goes tape path) (statement_effect tape fixed path sentence reads)
statement-goes tape fixed path (Assign name tree) reads stands =
    assigned_next-goes tape fixed path name tree reads (control.Next, stands, refl)
statement-goes tape fixed path (Goto aim) reads stands = jump-goes tape fixed path aim reads stands
statement-goes tape fixed path (IfGoto test aim) reads stands =
    after_any (Goes tape path) (outcome_of_test fixed path test reads) _ (λ holds left.
    either (Goes tape path) holds (jump_effect tape fixed path aim left) (next_effect path left)
    (jump-goes tape fixed path aim left stands)
    (record { step = (control.Goto (number_of_aim aim), stands, inl refl); fixed = refl }))
statement-goes tape fixed path (IfThen test name tree) reads stands =
    after_any (Goes tape path) (outcome_of_test fixed path test reads) _ (λ holds left.
    either (Goes tape path) holds (assigned_next fixed path name tree left) (next_effect path left)
    (assigned_next-goes tape fixed path name tree left (control.Next, stands, refl))
    (record { step = (control.Next, stands, refl); fixed = refl }))
statement-goes tape fixed path (WhileDo test name) reads stands =
    after_any (Goes tape path) (outcome_of_test fixed path test reads) _ (λ holds left.
    either (Goes tape path) holds (next_effect path left) (move_effect path (place_behind_loop tape path.place) left)
    (record { step = (control.While name, stands, inl refl); fixed = refl })
    (move-goes tape path (place_behind_loop tape path.place) left (λ there e. (control.While name, stands, inr e))))
statement-goes tape fixed path (DoOnly name) reads stands =
    record { step = (control.Do name, stands, refl); fixed = refl }
statement-goes tape fixed path (EndLoop name) reads stands =
    move-goes tape path (place_of_head tape path.place) reads (λ there e. (control.EndLoop name, stands, e))
