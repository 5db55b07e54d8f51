-- What the code decides of a block, step by step, is the effect of the definition: for the clauses
-- of src/decision.rt and src/taking.rt.
use Rattle.std.proofs.Common.{◌≡◌, ◌≢◌, ℕ, false, List, [], Option, Some, Result, Ok, Err, refl, ap, sym, ◌∙◌}
use Rattle.nc_number.specs.declared.cause.Cause.{Cause}
use Rattle.nc_number.specs.declared.value.Var.{Var}
use Rattle.code_tables.specs.declared.system.System.{System}
use Rattle.block_order.specs.declared.control.Control.{Control}
use Rattle.block_order.specs.declared.program.ControlProgram.{ControlProgram}
use Rattle.block_words.specs.declared.word.FlowWord.{FlowWord}
use Rattle.block_words.specs.declared.purpose.Purpose.{Purpose}
use Rattle.block_words.specs.declared.purpose.Purpose.TheVariants.{MacroCall, Subprogram, Return, Wait, Dwell, Setting, Other}
use Rattle.block_values.specs.declared.outcome.Stop.{Stop}
use Rattle.block_values.specs.declared.outcome.Stop.TheVariants as stop
use Rattle.block_values.specs.declared.values.Values as kept
use Rattle.block_words.specs.declared.dialect.Dialect.{Dialect}
use Rattle.block_forms.specs.Controls.{control_by}
use Rattle.path_state.specs.View.{Fixed, PathView}
use Rattle.path_state.specs.Looks.{look_of}
use Rattle.block_values.specs.Values.{Values, Sense, nothing_said, words_with}
use Rattle.path_state.specs.Said.{words_taken}
use Rattle.block_values.specs.Seen.{values_seen, outcome_of}
use Rattle.block_order.specs.declared.control.Control.TheVariants.{Next, Goto, While, Do, EndLoop, Wait as AtWait, End, Call, Back, BackTo}
use Rattle.block_order.specs.Frames.{MayPass}
use Rattle.local_levels.specs.Stack.{all_vacant}
use Rattle.path_state.specs.declared.words_step.WordsTurn.{WordsTurn}
use Rattle.path_state.specs.declared.words_step.WordsTurn.TheVariants as turn
use Rattle.path_state.specs.declared.decision.Decision.{Decision}
use Rattle.path_state.specs.declared.decision.Decision.TheVariants as decision
use Rattle.block_words.specs.Codes.{is_macro}
use Rattle.path_state.specs.Standing.{Standing, standing_of, standing_of_call, standing_behind}
use Rattle.block_values.specs.Arguments.{arguments_with}
use Rattle.path_state.specs.Effect.{Moved, alarm_of, of_values, of_arguments, effect_of_control, done_by, macro_effect, block_of_words, of_purpose, words_effect}
use Rattle.path_state.specs.Decisions.{macro_decided, of_said, of_arguments_said, MayTake, MayTakeWords}

-- the effect of a block by the outcome of its words is that by what the code was told of them
of_values_said : (tape : List ControlProgram) (path : PathView) (system : System) (words : List FlowWord) (control : Control) (said : Result kept.Values Stop) (left : List Var)
    → of_values tape path.fixed path system words control (outcome_of values_seen said left) ≡ of_said tape path system words control said
of_values_said tape path system words control (Ok values) left = refl
of_values_said tape path system words control (Err (stop.Needs variable)) left = refl
of_values_said tape path system words control (Err (stop.Alarms number value)) left = refl

-- the effect of the words of a block by what the code was told of them
pub words_said : (tape : List ControlProgram) (path : PathView) (sense : Sense) (system : System) (words : List FlowWord) (control : Control) (reads : List Var) (said : Result kept.Values Stop) (left : List Var)
    → outcome_of values_seen said left ≡ words_with (look_of path.fixed path) sense words nothing_said reads
    → of_values tape path.fixed path system words control (words_taken path.fixed path sense words nothing_said reads) ≡ of_said tape path system words control said
words_said tape path sense system words control reads said left e =
    ap (of_values tape path.fixed path system words control) (sym e)
    ∙ of_values_said tape path system words control said left

-- what the code put into its array, if the taking did not stop
abbrev pub if_taken : {A B : Type 0} → Result A Stop → B → Result B Stop
if_taken (Ok done) value = Ok value
if_taken (Err stop) value = Err stop

-- the effect of a macro call by the outcome of its arguments is that by what the code was told
of_taken : {A : Type 0} → (tape : List ControlProgram) (path : PathView) (control : Control) (arguments : List Var) (taken : Result A Stop) (left : List Var)
    → of_arguments tape path control (outcome_of (λ done. arguments) taken left) ≡ of_arguments_said tape path control (if_taken taken arguments)
of_taken tape path control arguments (Ok done) left = refl
of_taken tape path control arguments (Err (stop.Needs variable)) left = refl
of_taken tape path control arguments (Err (stop.Alarms number value)) left = refl

-- the effect of a macro call by what the code was told of its arguments
pub arguments_said : {A : Type 0} → (tape : List ControlProgram) (path : PathView) (words : List FlowWord) (control : Control) (reads arguments : List Var) (taken : Result A Stop) (left : List Var)
    → outcome_of (λ done. arguments) taken left ≡ arguments_with (look_of path.fixed path) words all_vacant reads
    → macro_effect tape path.fixed path words control reads ≡ of_arguments_said tape path control (if_taken taken arguments)
arguments_said tape path words control reads arguments taken left e =
    ap (of_arguments tape path control) (sym e)
    ∙ of_taken tape path control arguments taken left

-- by its purpose, a block of words that is no macro call does what its words do
plain : (tape : List ControlProgram) (fixed : Fixed) (path : PathView) (purpose : Purpose) (system : System) (words : List FlowWord) (control : Control) (reads : List Var)
    → is_macro purpose ≡ false → of_purpose tape fixed path purpose system words control reads ≡ words_effect tape fixed path purpose system words control reads
plain tape fixed path MacroCall system words control reads is = absurd cc
plain tape fixed path Subprogram system words control reads is = refl
plain tape fixed path Return system words control reads is = refl
plain tape fixed path Wait system words control reads is = refl
plain tape fixed path Dwell system words control reads is = refl
plain tape fixed path Setting system words control reads is = refl
plain tape fixed path Other system words control reads is = refl

-- a block of words that is no wait and no macro call does what its words do
pub unwaiting : (tape : List ControlProgram) (fixed : Fixed) (path : PathView) (purpose : Purpose) (system : System) (words : List FlowWord) (control : Control) (reads : List Var)
    → ((code : ℕ) → control ≢ AtWait code) → is_macro purpose ≡ false
    → block_of_words tape fixed path purpose system words control reads ≡ words_effect tape fixed path purpose system words control reads
unwaiting tape fixed path purpose system words (AtWait n) reads is calls = absurd (is n refl)
unwaiting tape fixed path purpose system words Next reads is calls = plain tape fixed path purpose system words Next reads calls
unwaiting tape fixed path purpose system words (Goto n) reads is calls = plain tape fixed path purpose system words (Goto n) reads calls
unwaiting tape fixed path purpose system words (While n) reads is calls = plain tape fixed path purpose system words (While n) reads calls
unwaiting tape fixed path purpose system words (Do n) reads is calls = plain tape fixed path purpose system words (Do n) reads calls
unwaiting tape fixed path purpose system words (EndLoop n) reads is calls = plain tape fixed path purpose system words (EndLoop n) reads calls
unwaiting tape fixed path purpose system words End reads is calls = plain tape fixed path purpose system words End reads calls
unwaiting tape fixed path purpose system words (Call p r) reads is calls = plain tape fixed path purpose system words (Call p r) reads calls
unwaiting tape fixed path purpose system words Back reads is calls = plain tape fixed path purpose system words Back reads calls
unwaiting tape fixed path purpose system words (BackTo n) reads is calls = plain tape fixed path purpose system words (BackTo n) reads calls

-- the control of a block whose purpose is a macro call is a call
pub called : (purpose : Purpose) (dialect : Dialect) (words : List FlowWord) → purpose ≡ MacroCall → (program : ℕ) × (repeats : ℕ) × (control_by purpose dialect words ≡ Call program repeats)
called MacroCall dialect words is = (_, _, refl)
called _ dialect words is = absurd cc

-- a block whose moves are known and that is no end goes where its control leads
pub goes : (tape : List ControlProgram) (moved : Moved) (arguments : Option (List Var)) (control : Control) → control ≢ End
    → effect_of_control tape moved arguments control ≡ done_by moved (standing_behind tape (standing_of moved.path) arguments control)
goes tape moved arguments End is = absurd (is refl)
goes tape moved arguments Next is = refl
goes tape moved arguments (Goto n) is = refl
goes tape moved arguments (While n) is = refl
goes tape moved arguments (Do n) is = refl
goes tape moved arguments (EndLoop n) is = refl
goes tape moved arguments (AtWait n) is = refl
goes tape moved arguments (Call program repeats) is = refl
goes tape moved arguments Back is = refl
goes tape moved arguments (BackTo n) is = refl

-- a macro call that leads somewhere, once decided, is the effect of the definition
pub call_goes : (tape : List ControlProgram) (path : PathView) (arguments : List Var) (program repeats : ℕ) (there : Standing)
    → standing_of_call (Some arguments) program repeats (standing_of path) ≡ Ok there
    → macro_decided path program repeats (Ok arguments) ≡ effect_of_control tape (record { path = path; moves = [] }) (Some arguments) (Call program repeats)
call_goes tape path arguments program repeats there e = rw e refl

-- a macro call that leads nowhere is the alarm of its cause
pub call_stays : (tape : List ControlProgram) (path : PathView) (arguments : List Var) (program repeats : ℕ) (cause : Cause)
    → standing_of_call (Some arguments) program repeats (standing_of path) ≡ Err cause
    → alarm_of cause ≡ effect_of_control tape (record { path = path; moves = [] }) (Some arguments) (Call program repeats)
call_stays tape path arguments program repeats cause e = rw e refl

-- if the running block has a number for the one behind it, what was decided of words may be done
pub may_take_words : (path : PathView) (what : WordsTurn) → MayPass path.place → MayTakeWords path what
may_take_words path (turn.Stops stop) may = tt
may_take_words path (turn.AtWait code) may = tt
may_take_words path (turn.AtEnd step) may = tt
may_take_words path (turn.Goes step route) may = may

-- if the running block has a number for the one behind it, whatever was decided may be done
pub may_take : (path : PathView) (what : Decision) → MayPass path.place → MayTake path what
may_take path (decision.Stops stop) may = tt
may_take path (decision.Words turn) may = may_take_words path turn may
may_take path (decision.Macro program repeats arguments) may = may
may_take path (decision.Statement step) may = may
