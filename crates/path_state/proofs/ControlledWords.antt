-- A block of words that is done leads where the order of blocks allows, and what is fixed for its
-- path stays: for the law `control_goes_as_the_flow_orders` (src/control_law.rt).
use Rattle.std.proofs.Common.{◌≡◌, ℕ, Bool, true, false, ◌||◌, nat_le, List, [], codes, Option, Some, None, Result, Ok, Err, refl, ap, subst, ◌∙◌, if◌then◌else◌}
use Rattle.nc_number.specs.declared.cause.Cause.{Cause}
use Rattle.nc_number.specs.declared.value.Var.{Var}
use Rattle.code_tables.specs.declared.system.System.{System}
use Rattle.modal_state.specs.View.{ModalView}
use Rattle.local_levels.specs.Stack.{all_vacant}
use Rattle.block_order.specs.declared.control.Control.{Control}
use Rattle.block_order.specs.declared.control.Control.TheVariants as control
use Rattle.block_order.specs.declared.program.ControlProgram.{ControlProgram}
use Rattle.block_order.specs.Steps.{control_of_place}
use Rattle.block_words.specs.declared.word.FlowWord.{FlowWord}
use Rattle.block_words.specs.declared.dialect.Dialect.{Dialect}
use Rattle.block_words.specs.declared.purpose.Purpose.{Purpose}
use Rattle.block_words.specs.declared.purpose.Purpose.TheVariants.{MacroCall, Subprogram, Return, Wait}
use Rattle.block_words.specs.Codes.{one_shot, m_codes, has_code, first_waiting, purpose_of}
use Rattle.block_words.specs.Words.{has}
use Rattle.block_forms.specs.Controls.{number_of, or_number, back_to, wait_at, control_by, control_of_words}
use Rattle.path_state.specs.View.{Fixed, PathView}
use Rattle.block_values.specs.Outcomes.{Outcome, Gives, Needs, Alarms}
use Rattle.block_values.specs.Values.{Values, nothing_said}
use Rattle.path_state.specs.Said.{sense_of, words_taken, arguments_taken}
use Rattle.block_values.specs.Motion.{Motion, motion_kind, motion_of}
use Rattle.path_state.specs.Standing.{Standing, standing_of, standing_behind}
use Rattle.block_values.specs.InForce.{modal_after}
use Rattle.path_state.specs.Effect.{Effect, Moved, after_motion, motion_with, effect_of_words, done_by, effect_of_control, of_moved, of_values, of_arguments, of_purpose, block_of_words}
use Rattle.path_state.specs.Controlled.{GoesAsOrdered, KeepsFixed}
use Rattle.path_state.proofs.ControlledPlaces.{Steps, Passes, behind_steps}
use Rattle.path_state.proofs.ControlledStatements.{Stays}

-- the effect is steady: it goes as the order of blocks allows, and keeps what is fixed for the path
pub record IsSteady (tape : List ControlProgram) (path : PathView) (effect : Effect) : Type 0 where
  pub goes : GoesAsOrdered tape path effect
  pub keeps : KeepsFixed path effect

-- the control is no end of a loop
abbrev EndsNoLoop : Control → Type 0
EndsNoLoop (control.EndLoop name) = ⊥
EndsNoLoop _ = Unit {0}

-- a call ends no loop
call-no_end : (b : Bool) (p q repeats other : ℕ)
    → EndsNoLoop (if b then control.Call p repeats else control.Call q other)
call-no_end true p q repeats other = tt
call-no_end false p q repeats other = tt

-- a return ends no loop
back-no_end : (n : Option ℕ) → EndsNoLoop (back_to n)
back-no_end None = tt
back-no_end (Some n) = tt

-- a wait ends no loop
wait-no_end : (code : Option ℕ) → EndsNoLoop (wait_at code)
wait-no_end None = tt
wait-no_end (Some code) = tt

-- M02 and M30, which end the program, and plain M codes end no loop
end-no_end : (b : Bool) → EndsNoLoop (if b then control.End else control.Next)
end-no_end true = tt
end-no_end false = tt

-- whatever the purpose of a block of words, its control ends no loop
control-no_end : (purpose : Purpose) (dialect : Dialect) (words : List FlowWord)
    → EndsNoLoop (control_by purpose dialect words)
control-no_end MacroCall dialect words = tt
control-no_end Subprogram dialect words =
    call-no_end (nat_le 10000 (or_number 0 (number_of (codes "P") words))) _ _ _ _
control-no_end Return dialect words = back-no_end (number_of (codes "P") words)
control-no_end Wait dialect words = wait-no_end (first_waiting dialect (m_codes words))
control-no_end _ dialect words = end-no_end (has_code 2 words || has_code 30 words)

-- the control of a block of words ends no loop: a statement does that
pub words_end_no_loop : (dialect : Dialect) (words : List FlowWord)
    → EndsNoLoop (control_of_words dialect words)
words_end_no_loop dialect words = control-no_end (purpose_of dialect words) dialect words

-- if the words of a block raise no alarm, the path is on its block still
abbrev MovesThere : PathView → Result Moved ℕ → Type 0
MovesThere path (Ok moved) = Stays path moved.path
MovesThere path (Err number) = Unit {0}

-- the motion of a block leaves the path on its block
motion-stays : (path : PathView) (modal : ModalView) (system : System) (words : List FlowWord)
    (values : Values) (motion : Result Motion ℕ)
    → MovesThere path (after_motion path modal system words values motion)
motion-stays path modal system words values (Ok motion) = record { place = refl; fixed = refl }
motion-stays path modal system words values (Err number) = tt

-- the modal state and the motion of a block leave the path on its block
modal-stays : (fixed : Fixed) (path : PathView) (system : System) (words : List FlowWord)
    (values : Values) (modal : Result ModalView ℕ)
    → MovesThere path (motion_with fixed path system words values modal)
modal-stays fixed path system words values (Ok modal) =
    motion-stays path modal system words values
    (motion_of fixed.home path.position path.offsets modal (motion_kind modal (one_shot system words)) (has (codes "L") words) values)
modal-stays fixed path system words values (Err number) = tt

-- all that the words of a block do, control aside, leaves the path on its block
effect_of_words-stays : (fixed : Fixed) (path : PathView) (system : System) (words : List FlowWord) (values : Values)
    → MovesThere path (effect_of_words fixed path system words values)
effect_of_words-stays fixed path system words values =
    modal-stays fixed path system words values (modal_after path.modal system words values)

-- a block whose moves are known and that goes a step is steady
done-steady : (tape : List ControlProgram) (path : PathView) (moved : Moved)
    (to : Result Standing Cause) → Stays path moved.path
    → Steps tape path.place to → IsSteady tape path (done_by moved to)
done-steady tape path moved (Ok to) stays steps = record { goes = steps; keeps = stays.fixed }
done-steady tape path moved (Err cause) stays steps = record { goes = tt; keeps = tt }

-- a block whose moves are known, and whose control lets it be done, is steady
moved-steady : (tape : List ControlProgram) (path : PathView) (moved : Moved)
    (arguments : Option (List Var)) (c : Control)
    → Stays path moved.path → control_of_place tape path.place ≡ Some c → Passes c
    → IsSteady tape path (done_by moved (standing_behind tape (standing_of moved.path) arguments c))
moved-steady tape path moved arguments c stays stands passes =
    done-steady tape path moved (standing_behind tape (standing_of moved.path) arguments c) stays
    (subst (λ place. Steps tape place (standing_behind tape (standing_of moved.path) arguments c)) stays.place
    (behind_steps tape (standing_of moved.path) arguments c
    (ap (λ place. control_of_place tape place) stays.place ∙ stands) passes))

-- the control is no wait and no end of a loop
abbrev pub Runs : Control → Type 0
Runs (control.EndLoop name) = ⊥
Runs (control.Wait code) = ⊥
Runs _ = Unit {0}

-- a block whose moves are known, and which is no wait, is steady, at an end too
effect_of_control-steady : (tape : List ControlProgram) (path : PathView) (moved : Moved)
    (arguments : Option (List Var)) (c : Control)
    → Stays path moved.path → control_of_place tape path.place ≡ Some c → Runs c
    → IsSteady tape path (effect_of_control tape moved arguments c)
effect_of_control-steady tape path moved arguments control.End stays stands runs =
    record { goes = (stands, stays.place); keeps = stays.fixed }
effect_of_control-steady tape path moved arguments (control.EndLoop name) stays stands runs = absurd runs
effect_of_control-steady tape path moved arguments (control.Wait code) stays stands runs = absurd runs
effect_of_control-steady tape path moved arguments c stays stands runs =
    moved-steady tape path moved arguments c stays stands tt

-- a block that is no wait is steady, whether its words moved the path or raised an alarm
moves-steady : (tape : List ControlProgram) (path : PathView) (c : Control) (moved : Result Moved ℕ)
    → MovesThere path moved
    → control_of_place tape path.place ≡ Some c → Runs c → IsSteady tape path (of_moved tape c moved)
moves-steady tape path c (Ok moved) stays stands runs =
    effect_of_control-steady tape path moved None c stays stands runs
moves-steady tape path c (Err number) stays stands runs = record { goes = tt; keeps = tt }

-- a block that is no wait is steady, whether its words gave values, a need or an alarm
values-steady : (tape : List ControlProgram) (fixed : Fixed) (path : PathView) (system : System)
    (words : List FlowWord) (c : Control) (values : Outcome Values)
    → control_of_place tape path.place ≡ Some c → Runs c
    → IsSteady tape path (of_values tape fixed path system words c values)
values-steady tape fixed path system words c (Gives values left) stands runs =
    moves-steady tape path c (effect_of_words fixed path system words values) (effect_of_words-stays fixed path system words values)
    stands runs
values-steady tape fixed path system words c (Needs variable) stands runs = record { goes = tt; keeps = tt }
values-steady tape fixed path system words c (Alarms number value) stands runs =
    record { goes = tt; keeps = tt }

-- a macro call is steady, whether its words gave arguments, a need or an alarm
arguments-steady : (tape : List ControlProgram) (path : PathView) (c : Control)
    (arguments : Outcome (List Var))
    → control_of_place tape path.place ≡ Some c → Runs c
    → IsSteady tape path (of_arguments tape path c arguments)
arguments-steady tape path c (Gives arguments left) stands runs =
    effect_of_control-steady tape path (record { path = path; moves = [] }) (Some arguments) c
    (record { place = refl; fixed = refl }) stands runs
arguments-steady tape path c (Needs variable) stands runs = record { goes = tt; keeps = tt }
arguments-steady tape path c (Alarms number value) stands runs = record { goes = tt; keeps = tt }

-- a block of words that is no wait is steady, whatever its purpose
purpose-steady : (tape : List ControlProgram) (fixed : Fixed) (path : PathView) (purpose : Purpose)
    (system : System) (words : List FlowWord) (c : Control) (reads : List Var)
    → control_of_place tape path.place ≡ Some c → Runs c
    → IsSteady tape path (of_purpose tape fixed path purpose system words c reads)
purpose-steady tape fixed path MacroCall system words c reads stands runs =
    arguments-steady tape path c (arguments_taken fixed path words all_vacant reads) stands runs
purpose-steady tape fixed path purpose system words c reads stands runs =
    values-steady tape fixed path system words c
    (words_taken fixed path (sense_of path purpose system words) words nothing_said reads) stands runs

-- every block of words is steady
pub words-steady : (tape : List ControlProgram) (fixed : Fixed) (path : PathView) (purpose : Purpose)
    (system : System) (words : List FlowWord) (c : Control) (reads : List Var)
    → control_of_place tape path.place ≡ Some c → EndsNoLoop c
    → IsSteady tape path (block_of_words tape fixed path purpose system words c reads)
words-steady tape fixed path purpose system words (control.Wait code) reads stands no_end =
    record { goes = stands; keeps = tt }
words-steady tape fixed path purpose system words (control.EndLoop name) reads stands no_end = absurd no_end
words-steady tape fixed path purpose system words c reads stands no_end =
    purpose-steady tape fixed path purpose system words c reads stands tt
