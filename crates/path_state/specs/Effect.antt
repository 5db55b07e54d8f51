-- What a block does to its path: the whole, step by step, from the words and the statement to the
-- moves, the new place and what is written. `effect_of` is the one definition of a block's effect.
-- The crates above build on it, so a change here changes all runs.
use Rattle.std.specs.Prelude.{ℕ, List, [], ◌∷◌, Option, Some, None, Result, Ok, Err, ℤ, pos, codes}
use Rattle.nc_number.specs.declared.cause.Cause.{Cause}
use Rattle.nc_number.specs.declared.cause.Cause.TheVariants.{RanOff}
use Rattle.nc_number.specs.declared.point.Point.{Point}
use Rattle.nc_number.specs.declared.value.Var.{Var}
use Rattle.nc_number.specs.Causes.{cause_number}
use Rattle.nc_moves.specs.declared.motion.Move.{Move}
use Rattle.code_tables.specs.declared.system.System.{System}
use Rattle.local_levels.specs.Stack.{all_vacant}
use Rattle.modal_state.specs.View.{ModalView}
use Rattle.offset_store.specs.declared.slot.Slot.{Slot}
use Rattle.offset_store.specs.Table.{OffsetTable}
use Rattle.offset_store.specs.Changes.{with_point}
use Rattle.block_order.specs.declared.control.Control.{Control}
use Rattle.block_order.specs.declared.control.Control.TheVariants.{Wait, End}
use Rattle.block_order.specs.declared.program.ControlProgram.{ControlProgram}
use Rattle.block_words.specs.declared.word.FlowWord.{FlowWord}
use Rattle.block_words.specs.declared.purpose.Purpose.{Purpose}
use Rattle.block_words.specs.declared.purpose.Purpose.TheVariants.{MacroCall}
use Rattle.block_order.specs.declared.frame.Frame.{Frame}
use Rattle.block_forms.specs.declared.block.FlowBlock.{FlowBlock}
use Rattle.block_forms.specs.declared.body.FlowBody.{FlowBody}
use Rattle.block_forms.specs.declared.body.FlowBody.TheVariants.{Words, Statement}
use Rattle.tape_flow.specs.declared.flow.Flow.{Flow}
use Rattle.tape_flow.specs.declared.program.FlowProgram.{FlowProgram}
use Rattle.tape_flow.specs.Places.{flow_block}
use Rattle.block_words.specs.Words.{has}
use Rattle.block_words.specs.Codes.{one_shot, gives, is_limit, m_code}
use Rattle.macro_expr.specs.Tree.{Sentence, sentence_of}
use Rattle.path_state.specs.View.{Fixed, PathView}
use Rattle.block_values.specs.Outcomes.{Outcome, Gives, Needs, Alarms}
use Rattle.block_values.specs.Values.{Values, nothing_said}
use Rattle.path_state.specs.Said.{sense_of, words_taken, arguments_taken}
use Rattle.block_values.specs.InForce.{modal_after}
use Rattle.block_values.specs.Motion.{Motion, motion_kind, motion_of}
use Rattle.block_values.specs.Moves.{all_moves, last_end}
use Rattle.path_state.specs.Standing.{Standing, standing_of, with_standing, standing_behind}
use Rattle.path_state.specs.Statements.{Write, After, statement_effect}

-- what the block at which a path stands comes to
pub data Effect : Type 0 where
  -- it needs the value of this shared variable first
  Need : (variable : ℕ) → Effect
  -- it is done: the path behind it, what it wrote to a shared variable, its moves
  Done : (path : PathView) → (write : Option Write) → (moves : List Move) → Effect
  -- the path stands at a wait of this code
  AtWait : (code : ℕ) → Effect
  -- the path is at its end: it takes what the words of the block do, and stays on the block
  AtEnd : (path : PathView) → (moves : List Move) → Effect
  -- it raises this alarm, whose value is 0 but for alarm 33
  Alarm : (number : ℕ) → (value : ℤ) → Effect

-- the offsets after a G10 that sets this one; without a G10 they stay
abbrev pub with_set_offset : OffsetTable → Option (Slot × Point) → OffsetTable
with_set_offset offsets None = offsets
with_set_offset offsets (Some set) = with_point offsets set.0 set.1

-- the path behind the words of a block, control aside, and all of the block's moves
pub record Moved : Type 0 where
  pub path : PathView
  pub moves : List Move

-- what the words of a block come to, whose motion is known: the cycle in force, the offset that G10
-- sets, the position and the moves
abbrev pub moved_by : PathView → ModalView → System → List FlowWord → Values → Motion → Moved
moved_by path modal system words values motion =
    let moves = all_moves (gives system is_limit words) modal values motion.moves (m_code words) in
    record {
      path = record path {
        modal = record modal { cycle = motion.cycle };
        offsets = with_set_offset path.offsets motion.offset;
        position = last_end path.position moves;
      };
      moves = moves;
    }

-- what the words come to, or the number of the motion's alarm
abbrev pub after_motion : PathView → ModalView → System → List FlowWord → Values → Result Motion ℕ → Result Moved ℕ
after_motion path modal system words values (Ok motion) = Ok (moved_by path modal system words values motion)
after_motion path modal system words values (Err number) = Err number

-- what the words of a block come to whose modal state is known, or the number of an alarm
abbrev pub motion_with : Fixed → PathView → System → List FlowWord → Values → Result ModalView ℕ → Result Moved ℕ
motion_with fixed path system words values (Ok modal) =
    after_motion path modal system words values
    (motion_of fixed.home path.position path.offsets modal (motion_kind modal (one_shot system words)) (has (codes "L") words) values)
motion_with fixed path system words values (Err number) = Err number

-- what the evaluated words of a block do, control aside: first the modal state, then the motion; or
-- the number of the first alarm. `system` is the system of its G codes.
abbrev pub effect_of_words : Fixed → PathView → System → List FlowWord → Values → Result Moved ℕ
effect_of_words fixed path system words values =
    motion_with fixed path system words values (modal_after path.modal system words values)

-- the alarm of a cause, without a value
abbrev pub alarm_of : Cause → Effect
alarm_of cause = Alarm (cause_number cause) (pos 0)

-- a block whose moves are known goes on to this place, or raises the alarm of why there is none
abbrev pub done_by : Moved → Result Standing Cause → Effect
done_by moved (Ok standing) = Done (with_standing moved.path standing) None moved.moves
done_by moved (Err cause) = alarm_of cause

-- the effect of a block whose moves are known, by where control goes; at an end the path stays
abbrev pub effect_of_control : List ControlProgram → Moved → Option (List Var) → Control → Effect
effect_of_control tape moved arguments End = AtEnd moved.path moved.moves
effect_of_control tape moved arguments control = done_by moved (standing_behind tape (standing_of moved.path) arguments control)

-- the effect of a block whose words moved the path, or raised an alarm
abbrev pub of_moved : List ControlProgram → Control → Result Moved ℕ → Effect
of_moved tape control (Ok moved) = effect_of_control tape moved None control
of_moved tape control (Err number) = Alarm number (pos 0)

-- what a block of words comes to by its values: it is done, it needs a variable, or it raises an
-- alarm
abbrev pub of_values : List ControlProgram → Fixed → PathView → System → List FlowWord → Control → Outcome Values → Effect
of_values tape fixed path system words control (Gives values left) =
    of_moved tape control (effect_of_words fixed path system words values)
of_values tape fixed path system words control (Needs variable) = Need variable
of_values tape fixed path system words control (Alarms number value) = Alarm number value

-- the effect of a block of words that calls no macro
abbrev pub words_effect : List ControlProgram → Fixed → PathView → Purpose → System → List FlowWord → Control → List Var → Effect
words_effect tape fixed path purpose system words control reads =
    of_values tape fixed path system words control
    (words_taken fixed path (sense_of path purpose system words) words nothing_said reads)

-- what a macro call comes to by its arguments: it is made, it needs a variable, or it raises an
-- alarm
abbrev pub of_arguments : List ControlProgram → PathView → Control → Outcome (List Var) → Effect
of_arguments tape path control (Gives arguments left) =
    effect_of_control tape (record { path = path; moves = [] }) (Some arguments) control
of_arguments tape path control (Needs variable) = Need variable
of_arguments tape path control (Alarms number value) = Alarm number value

-- the effect of a block that calls a macro: its words but G, N, O, P and L are arguments, and
-- nothing moves
abbrev pub macro_effect : List ControlProgram → Fixed → PathView → List FlowWord → Control → List Var → Effect
macro_effect tape fixed path words control reads =
    of_arguments tape path control (arguments_taken fixed path words all_vacant reads)

-- the effect of a block of words by its purpose: a macro call, or any other
abbrev pub of_purpose : List ControlProgram → Fixed → PathView → Purpose → System → List FlowWord → Control → List Var → Effect
of_purpose tape fixed path MacroCall system words control reads = macro_effect tape fixed path words control reads
of_purpose tape fixed path purpose system words control reads =
    words_effect tape fixed path purpose system words control reads

-- the effect of a block of words, whose G codes are those of the system; at a wait nothing is done
abbrev pub block_of_words : List ControlProgram → Fixed → PathView → Purpose → System → List FlowWord → Control → List Var → Effect
block_of_words tape fixed path purpose system words (Wait code) reads = AtWait code
block_of_words tape fixed path purpose system words control reads =
    of_purpose tape fixed path purpose system words control reads

-- what a statement comes to, as an effect: no statement moves the turret
abbrev pub of_after : Outcome After → Effect
of_after (Gives after left) = Done after.path after.write []
of_after (Needs variable) = Need variable
of_after (Alarms number value) = Alarm number value

-- the effect of a block that is a statement
abbrev pub block_of_statement : List ControlProgram → Fixed → PathView → Sentence → List Var → Effect
block_of_statement tape fixed path sentence reads = of_after (statement_effect tape fixed path sentence reads)

-- what a path comes to past the last block of a program: the alarm `RanOff`
abbrev pub past_the_last : Effect
past_the_last = alarm_of RanOff

-- the effect of a block, by its body: words or a statement
abbrev pub effect_of_body : List ControlProgram → Fixed → PathView → FlowBody → Control → List Var → Effect
effect_of_body tape fixed path (Words words) control reads =
    block_of_words tape fixed path words.purpose words.dialect.system words.words control reads
effect_of_body tape fixed path (Statement statement) control reads =
    block_of_statement tape fixed path (sentence_of statement.statement) reads

-- the effect of the block that was found, or that of going past the last one
abbrev pub effect_of_block : List ControlProgram → PathView → Option FlowBlock → List Var → Effect
effect_of_block tape path None reads = past_the_last
effect_of_block tape path (Some block) reads = effect_of_body tape path.fixed path block.body block.control reads

-- the block at which a path with these open programs stands, if there is one
abbrev pub block_at : List FlowProgram → List Frame → Option FlowBlock
block_at programs [] = None
block_at programs (f ∷ stack) = flow_block programs f.program f.block

-- what the block at which a path stands comes to, with these values read so far
abbrev pub effect_of : Flow → PathView → List Var → Effect
effect_of flow path reads = effect_of_block flow.order path (block_at flow.programs path.place) reads
