-- No block raises the alarm of waits that differ: for the law `no_block_says_that_waits_differ`
-- (src/laws.rt). `Another alarm` here is each one but that.
use Rattle.std.proofs.Common.{◌≡◌, ℕ, Bool, true, false, not, List, [], ◌∷◌, codes, Option, Some, None, Result, Ok, Err, refl, subst}
use Rattle.nc_number.specs.declared.cause.Cause.{Cause}
use Rattle.nc_number.specs.declared.cause.Cause.TheVariants.{UnknownCode, WordRange, OffsetNumber}
use Rattle.nc_number.specs.declared.literal.Literal.{Literal}
use Rattle.nc_number.specs.declared.value.Var.{Var}
use Rattle.nc_number.specs.declared.value.Var.TheVariants.{Vacant, Is}
use Rattle.code_tables.specs.declared.system.System.{System}
use Rattle.local_levels.specs.Stack.{all_vacant}
use Rattle.modal_state.specs.declared.fault.ModalFault.{ModalFault}
use Rattle.modal_state.specs.View.{ModalView}
use Rattle.modal_state.specs.Faults.{fault}
use Rattle.modal_state.specs.Modal.{with_codes}
use Rattle.modal_state.specs.Words.{has_tool_offset, with_words}
use Rattle.block_order.specs.declared.control.Control.{Control}
use Rattle.block_order.specs.declared.control.Control.TheVariants as control
use Rattle.block_order.specs.declared.program.ControlProgram.{ControlProgram}
use Rattle.block_words.specs.declared.word.FlowWord.{FlowWord}
use Rattle.block_words.specs.declared.word.WordValue.{WordValue}
use Rattle.block_words.specs.declared.word.WordValue.TheVariants.{Fixed as Written, Computed}
use Rattle.block_forms.specs.declared.block.FlowBlock.{FlowBlock}
use Rattle.block_forms.specs.declared.body.FlowBody.{FlowBody}
use Rattle.block_forms.specs.declared.body.FlowBody.TheVariants.{Words, Statement}
use Rattle.block_words.specs.declared.purpose.Purpose.{Purpose}
use Rattle.block_words.specs.declared.purpose.Purpose.TheVariants.{MacroCall}
use Rattle.block_words.specs.Codes.{rows, one_shot, gives, is_limit}
use Rattle.block_words.specs.Ranges.{range_of, fits}
use Rattle.block_words.specs.Words.{has}
use Rattle.macro_expr.specs.Tree.{sentence_of}
use Rattle.tape_flow.specs.declared.flow.Flow.{Flow}
use Rattle.path_state.specs.View.{Fixed, PathView}
use Rattle.block_values.specs.Outcomes.{Outcome, Gives, Needs, Alarms}
use Rattle.path_state.specs.Said.{value_of_tree}
use Rattle.block_values.specs.Values.{Values, Sense, nothing_said, is_meant, with_word, values_with, computed_literal, taken_var}
use Rattle.path_state.specs.Said.{sense_of, word_taken, words_taken}
use Rattle.path_state.specs.Said.{argument_taken, arguments_taken}
use Rattle.block_values.specs.Motion.{Motion, motion_kind, motion_of}
use Rattle.path_state.specs.Standing.{Standing, standing_of, standing_behind}
use Rattle.path_state.specs.Statements.{After, statement_effect}
use Rattle.block_values.specs.InForce.{modal_words, unless_fault, modal_after}
use Rattle.path_state.specs.Effect.{Effect, Moved, after_motion, motion_with, effect_of_words, done_by, effect_of_control, of_moved, of_values, of_arguments, of_purpose, block_of_words, of_after, effect_of_body, effect_of_block, block_at}
use Rattle.path_state.specs.Effect as effect
use Rattle.two_path.specs.Turns.{blocks_of}
use Rattle.two_path.specs.Stuck.{RaisesNoCrossing}
use Rattle.two_path.proofs.NoCrossing.{IsOther, IsOtherError, IsOtherCause, IsOtherAlarm, either, alarm_behind, none_other, tree_other}
use Rattle.two_path.proofs.NoCrossingPlaces.{behind_other}
use Rattle.two_path.proofs.NoCrossingStatements.{statement_other}
use Rattle.two_path.proofs.NoCrossingMotion.{itself, motion_other}

-- the number of an alarm, if there is one, is that of another alarm
abbrev IsOtherNumber : {A : Type 0} → Result A ℕ → Type 0
IsOtherNumber r = IsOtherError itself r

-- the alarm of an effect, if it is one, is another alarm
abbrev IsOtherEffect : Effect → Type 0
IsOtherEffect (effect.Alarm number value) = IsOther number
IsOtherEffect _ = Unit {0}

-- the taking of a word that is written out raises another alarm, if any
taken_other : (sense : Sense) (letter : ℕ) (literal : Literal) (values : Values) → IsOtherCause (values_with sense letter literal values)
taken_other sense letter literal values =
    either (λ (r : Result Values Cause). IsOtherCause r) (not (is_meant sense letter)) (Err UnknownCode) _ refl
    (either (λ (r : Result Values Cause). IsOtherCause r) (fits (range_of sense.purpose letter) literal)
    (Ok (with_word sense letter literal values)) (Err WordRange) tt refl)

-- the taking of a computed word raises another alarm, if any
taken_var_other : (sense : Sense) (letter : ℕ) (minus : Bool) (value : Var) (values : Values)
    → IsOtherCause (taken_var sense letter minus value values)
taken_var_other sense letter minus Vacant values = tt
taken_var_other sense letter minus (Is value) values = taken_other sense letter (computed_literal minus value) values

-- the modal state behind a block raises another alarm, if any
modal_other : (modal : ModalView) (system : System) (words : List FlowWord) (values : Values)
    → IsOtherNumber (modal_after modal system words values)
modal_other modal system words values =
    let after : ModalView = with_words (with_codes modal (rows system words)) (modal_words (gives system is_limit words) values) in
    either (λ (f : Option ModalFault). IsOtherNumber (unless_fault f after)) (has_tool_offset values.tool) None (Some (fault OffsetNumber)) tt refl

-- what follows the motion of a block raises another alarm, if any
after_motion_other : (path : PathView) (modal : ModalView) (system : System) (words : List FlowWord) (values : Values)
    (motion : Result Motion ℕ)
    → IsOtherNumber motion → IsOtherNumber (after_motion path modal system words values motion)
after_motion_other path modal system words values (Ok motion) other = tt
after_motion_other path modal system words values (Err number) other = other

-- the motion of a block with its modal state raises another alarm, if any
motion_with_other : (fixed : Fixed) (path : PathView) (system : System) (words : List FlowWord) (values : Values)
    (modal : Result ModalView ℕ)
    → IsOtherNumber modal → IsOtherNumber (motion_with fixed path system words values modal)
motion_with_other fixed path system words values (Ok modal) other =
    after_motion_other path modal system words values
    (motion_of fixed.home path.position path.offsets modal (motion_kind modal (one_shot system words)) (has (codes "L") words) values)
    (motion_other fixed.home path.position path.offsets modal (motion_kind modal (one_shot system words)) (has (codes "L") words) values)
motion_with_other fixed path system words values (Err number) other = other

-- all that the words of a block do raises another alarm, if any
acted_other : (fixed : Fixed) (path : PathView) (system : System) (words : List FlowWord) (values : Values)
    → IsOtherNumber (effect_of_words fixed path system words values)
acted_other fixed path system words values =
    motion_with_other fixed path system words values (modal_after path.modal system words values)
    (modal_other path.modal system words values)

-- A path before its block: `fixed` is what is fixed for it.
module _ (fixed : Fixed) (path : PathView) where
  -- one word of a block raises another alarm, if any
  word_other : (sense : Sense) (letter : ℕ) (value : WordValue) (values : Values) (reads : List Var)
      → IsOtherAlarm (word_taken fixed path sense letter value values reads)
  word_other sense letter (Written literal) values reads =
      none_other (values_with sense letter literal values) (taken_other sense letter literal values) reads
  word_other sense letter (Computed minus tree) values reads =
      alarm_behind (value_of_tree fixed path tree reads) _ (tree_other fixed path tree reads)
      (λ value left. none_other (taken_var sense letter minus value values) (taken_var_other sense letter minus value values) left)

  -- all words of a block raise another alarm, if any
  words_other : (sense : Sense) (words : List FlowWord) (values : Values) (reads : List Var)
      → IsOtherAlarm (words_taken fixed path sense words values reads)
  words_other sense [] values reads = tt
  words_other sense (word ∷ words) values reads =
      alarm_behind (word_taken fixed path sense word.letter word.value values reads) _
      (word_other sense word.letter word.value values reads) (λ next left. words_other sense words next left)

  -- an argument of a call raises another alarm, if any
  argument_other : (letter : ℕ) (value : WordValue) (arguments reads : List Var)
      → IsOtherAlarm (argument_taken fixed path letter value arguments reads)
  argument_other letter (Written literal) arguments reads = tt
  argument_other letter (Computed minus tree) arguments reads =
      alarm_behind (value_of_tree fixed path tree reads) _ (tree_other fixed path tree reads) (λ value left. tt)

  -- all arguments of a call raise another alarm, if any
  arguments_other : (words : List FlowWord) (arguments reads : List Var)
      → IsOtherAlarm (arguments_taken fixed path words arguments reads)
  arguments_other [] arguments reads = tt
  arguments_other (word ∷ words) arguments reads =
      alarm_behind (argument_taken fixed path word.letter word.value arguments reads) _
      (argument_other word.letter word.value arguments reads) (λ next left. arguments_other words next left)

-- The order of the blocks of the path's tape.
module _ (tape : List ControlProgram) where
  -- a block whose moves are known, by where it goes, raises another alarm, if any
  done_other : (moved : Moved) (to : Result Standing Cause) → IsOtherCause to → IsOtherEffect (done_by moved to)
  done_other moved (Ok to) other = tt
  done_other moved (Err cause) other = other

  -- a block whose moves are known, by its control, raises another alarm, if any
  controlled_other : (moved : Moved) (arguments : Option (List Var)) (c : Control)
      → IsOtherEffect (effect_of_control tape moved arguments c)
  controlled_other moved arguments control.End = tt
  controlled_other moved arguments c =
      done_other moved (standing_behind tape (standing_of moved.path) arguments c) (behind_other tape (standing_of moved.path) arguments c)

  -- a block whose words moved the path, or raised an alarm, raises another alarm, if any
  moved_other : (c : Control) (moved : Result Moved ℕ) → IsOtherNumber moved → IsOtherEffect (of_moved tape c moved)
  moved_other c (Ok moved) other = controlled_other moved None c
  moved_other c (Err number) other = other

  -- a block of words, by their values, raises another alarm, if any
  values_other : (fixed : Fixed) (path : PathView) (system : System) (words : List FlowWord) (c : Control)
      (values : Outcome Values)
      → IsOtherAlarm values → IsOtherEffect (of_values tape fixed path system words c values)
  values_other fixed path system words c (Gives values left) other =
      moved_other c (effect_of_words fixed path system words values) (acted_other fixed path system words values)
  values_other fixed path system words c (Needs variable) other = tt
  values_other fixed path system words c (Alarms number value) other = other

  -- a macro call, by its arguments, raises another alarm, if any
  of_arguments_other : (path : PathView) (c : Control) (arguments : Outcome (List Var)) → IsOtherAlarm arguments
      → IsOtherEffect (of_arguments tape path c arguments)
  of_arguments_other path c (Gives arguments left) other =
      controlled_other (record { path = path; moves = [] }) (Some arguments) c
  of_arguments_other path c (Needs variable) other = tt
  of_arguments_other path c (Alarms number value) other = other

  -- a block of words, by its purpose, raises another alarm, if any
  purpose_other : (fixed : Fixed) (path : PathView) (purpose : Purpose) (system : System) (words : List FlowWord) (c : Control)
      (reads : List Var)
      → IsOtherEffect (of_purpose tape fixed path purpose system words c reads)
  purpose_other fixed path MacroCall system words c reads =
      of_arguments_other path c (arguments_taken fixed path words all_vacant reads) (arguments_other fixed path words all_vacant reads)
  purpose_other fixed path purpose system words c reads =
      values_other fixed path system words c (words_taken fixed path (sense_of path purpose system words) words nothing_said reads)
      (words_other fixed path (sense_of path purpose system words) words nothing_said reads)

  -- every block of words raises another alarm, if any
  block_other : (fixed : Fixed) (path : PathView) (purpose : Purpose) (system : System) (words : List FlowWord) (c : Control)
      (reads : List Var)
      → IsOtherEffect (block_of_words tape fixed path purpose system words c reads)
  block_other fixed path purpose system words (control.Wait code) reads = tt
  block_other fixed path purpose system words c reads = purpose_other fixed path purpose system words c reads

  -- a block that is a statement raises another alarm, if any
  after_other : (after : Outcome After) → IsOtherAlarm after → IsOtherEffect (of_after after)
  after_other (Gives after left) other = tt
  after_other (Needs variable) other = tt
  after_other (Alarms number value) other = other

  -- a block, by its body, raises another alarm, if any
  body_other : (fixed : Fixed) (path : PathView) (body : FlowBody) (c : Control) (reads : List Var)
      → IsOtherEffect (effect_of_body tape fixed path body c reads)
  body_other fixed path (Words words) c reads = block_other fixed path words.purpose words.dialect.system words.words c reads
  body_other fixed path (Statement statement) c reads =
      after_other (statement_effect tape fixed path (sentence_of statement.statement) reads)
      (statement_other fixed path tape (sentence_of statement.statement) reads)

  -- the block that was found, or going past the last one, raises another alarm, if any
  found_other : (path : PathView) (found : Option FlowBlock) (reads : List Var)
      → IsOtherEffect (effect_of_block tape path found reads)
  found_other path None reads = refl
  found_other path (Some block) reads = body_other path.fixed path block.body block.control reads

-- no block of a flow raises the alarm of waits that differ, at every state of a path
pub raises_none : (flow : Flow) → RaisesNoCrossing (blocks_of flow)
raises_none flow path values value is =
    let other : true ≡ false =
    subst IsOtherEffect is (found_other flow.order path (block_at flow.programs path.place) values) in cc
