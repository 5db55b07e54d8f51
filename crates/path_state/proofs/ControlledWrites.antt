-- What a block writes beside its path is a variable that both paths share: for the law
-- `what_is_written_is_shared` (src/control_law.rt).
use Rattle.std.proofs.Common.{◌≡◌, ℕ, Bool, true, false, List, [], Option, Some, None, Result, Ok, Err, refl, subst}
use Rattle.nc_number.specs.declared.cause.Cause.{Cause}
use Rattle.nc_number.specs.declared.point.Point.{Point}
use Rattle.nc_number.specs.declared.value.Var.{Var}
use Rattle.nc_moves.specs.declared.motion.Move.{Move}
use Rattle.common_vars.specs.declared.variable.Variable.{Variable}
use Rattle.common_vars.specs.declared.variable.Variable.TheVariants as variable
use Rattle.code_tables.specs.declared.system.System.{System}
use Rattle.local_levels.specs.Stack.{all_vacant}
use Rattle.offset_store.specs.declared.slot.Slot.{Slot}
use Rattle.offset_store.specs.declared.slot.Slot.TheVariants.{Work}
use Rattle.offset_store.specs.declared.fault.OffsetFault.{OffsetFault}
use Rattle.offset_store.specs.Changes.{in_range, point_at}
use Rattle.block_order.specs.declared.control.Control.{Control}
use Rattle.block_order.specs.declared.control.Control.TheVariants as control
use Rattle.block_order.specs.declared.program.ControlProgram.{ControlProgram}
use Rattle.block_forms.specs.declared.block.FlowBlock.{FlowBlock}
use Rattle.block_forms.specs.declared.body.FlowBody.{FlowBody}
use Rattle.block_forms.specs.declared.body.FlowBody.TheVariants.{Words, Statement}
use Rattle.block_words.specs.declared.purpose.Purpose.{Purpose}
use Rattle.block_words.specs.declared.purpose.Purpose.TheVariants.{MacroCall}
use Rattle.block_words.specs.declared.word.FlowWord.{FlowWord}
use Rattle.macro_expr.specs.Tree.{Tree, Named, Aim, Sentence, Assign, Goto, IfGoto, IfThen, WhileDo, DoOnly, EndLoop, sentence_of}
use Rattle.tape_flow.specs.declared.flow.Flow.{Flow}
use Rattle.block_order.specs.declared.frame.Frame.{Frame}
use Rattle.block_order.specs.Moves.{place_of_jump, place_behind_loop, place_of_head}
use Rattle.path_state.specs.View.{Fixed, PathView}
use Rattle.path_state.specs.Looks.{is_shared}
use Rattle.block_values.specs.Outcomes.{Outcome, Gives, Needs, Alarms}
use Rattle.path_state.specs.Said.{value_of_tree, sense_of, words_taken, arguments_taken}
use Rattle.block_values.specs.Values.{Values, nothing_said}
use Rattle.path_state.specs.Standing.{Standing, standing_of, standing_behind}
use Rattle.block_values.specs.Operands.{length_of}
use Rattle.path_state.specs.Statements.{Write, After, point_along, with_offset, written_path, with_common, outcome_of_write, variable_named, outcome_of_assignment, outcome_of_test, outcome_of_aim, move_effect, jump_effect, next_effect, assigned_next, statement_effect}
use Rattle.path_state.specs.Effect.{Effect, Done, Moved, effect_of_words, done_by, effect_of_control, of_moved, of_values, of_arguments, of_purpose, block_of_words, of_after, effect_of_body, effect_of_block, block_at, effect_of}
use Rattle.path_state.proofs.ControlledStatements.{OnGives, behind_gives, after_any, either}

-- the write, if there is one, is to a shared variable
abbrev WritesShared : Fixed → Option Write → Type 0
WritesShared fixed None = Unit {0}
WritesShared fixed (Some write) = is_shared fixed write.variable ≡ true

-- the write of the statement, if it makes one, is to a shared variable
abbrev Writes : Fixed → After → Type 0
Writes fixed after = WritesShared fixed after.write

-- A path before its block: `fixed` is what is fixed for it. Each lemma is of one part of a
-- statement: what it writes, if it writes, is a shared variable.
module _ (fixed : Fixed) (path : PathView) where
  -- a common variable that takes a value: a shared one is written, the path's own not
  common-writes : (shared : Bool) (v : ℕ) (value : Var) → is_shared fixed v ≡ shared
      → Writes fixed (with_common shared path v value)
  common-writes true v value is = is
  common-writes false v value is = tt

  -- an offset that takes a point
  offset-writes : (slot : Slot) (to : Result Point OffsetFault) (left : List Var)
      → OnGives (Writes fixed) (written_path (with_offset path slot to) left)
  offset-writes slot (Ok to) left = tt
  offset-writes slot (Err fault) left = tt

  -- a variable of any kind that takes a value
  written-writes : (v : Variable) (value : Var) (left : List Var)
      → OnGives (Writes fixed) (outcome_of_write fixed path v value left)
  written-writes (variable.Local i) value left = tt
  written-writes (variable.Common v) value left = common-writes (is_shared fixed v) v value refl
  written-writes (variable.Work n axis) value left =
      offset-writes (Work n) (in_range (point_along axis (length_of value) (point_at path.offsets (Work n))))
      left
  written-writes variable.Raise value left = tt
  written-writes _ value left = tt

  -- an assignment
  assigned-writes : (name : Named) (tree : Tree) (reads : List Var)
      → OnGives (Writes fixed) (outcome_of_assignment fixed path name tree reads)
  assigned-writes name tree reads =
      after_any (Writes fixed) (variable_named fixed path name reads) _ (λ v behind_name.
      after_any (Writes fixed) (value_of_tree fixed path tree behind_name) _
      (λ value left. written-writes v value left))

  -- an assignment behind which the next block follows
  assigned_next-writes : (name : Named) (tree : Tree) (reads : List Var)
      → OnGives (Writes fixed) (assigned_next fixed path name tree reads)
  assigned_next-writes name tree reads =
      behind_gives (Writes fixed) (Writes fixed) (outcome_of_assignment fixed path name tree reads) _
      (assigned-writes name tree reads)
      (λ after left writes. writes)

  -- a statement that goes to a place
  move-writes : (to : Result (List Frame) Cause) (left : List Var)
      → OnGives (Writes fixed) (move_effect path to left)
  move-writes (Ok to) left = tt
  move-writes (Err cause) left = tt

  -- a jump
  jump-writes : (tape : List ControlProgram) (aim : Aim) (reads : List Var)
      → OnGives (Writes fixed) (jump_effect tape fixed path aim reads)
  jump-writes tape aim reads =
      after_any (Writes fixed) (outcome_of_aim fixed path aim reads) _
      (λ n left. move-writes (place_of_jump tape n path.place) left)

  -- a statement
  statement-writes : (tape : List ControlProgram) (sentence : Sentence) (reads : List Var)
      → OnGives (Writes fixed) (statement_effect tape fixed path sentence reads)
  statement-writes tape (Assign name tree) reads = assigned_next-writes name tree reads
  statement-writes tape (Goto aim) reads = jump-writes tape aim reads
  statement-writes tape (IfGoto test aim) reads =
      after_any (Writes fixed) (outcome_of_test fixed path test reads) _ (λ holds left.
      either (Writes fixed) holds (jump_effect tape fixed path aim left) (next_effect path left)
      (jump-writes tape aim left) tt)
  statement-writes tape (IfThen test name tree) reads =
      after_any (Writes fixed) (outcome_of_test fixed path test reads) _ (λ holds left.
      either (Writes fixed) holds (assigned_next fixed path name tree left) (next_effect path left)
      (assigned_next-writes name tree left) tt)
  statement-writes tape (WhileDo test name) reads =
      after_any (Writes fixed) (outcome_of_test fixed path test reads) _ (λ holds left.
      either (Writes fixed) holds (next_effect path left)
      (move_effect path (place_behind_loop tape path.place) left) tt
      (move-writes (place_behind_loop tape path.place) left))
  statement-writes tape (DoOnly name) reads = tt
  statement-writes tape (EndLoop name) reads = move-writes (place_of_head tape path.place) reads

-- the write of the block, if it is done and makes one, is to a shared variable
abbrev EffectWrites : Fixed → Effect → Type 0
EffectWrites fixed (Done after write moves) = WritesShared fixed write
EffectWrites fixed _ = Unit {0}

-- A block of a path. Each lemma takes one step of the definition of its effect: a block of words
-- writes no shared variable, and a statement what `statement-writes` says.
module _ (tape : List ControlProgram) (fixed : Fixed) (path : PathView) where
  -- a block whose moves are known, and that goes on to a place
  done-writes : (moved : Moved) (to : Result Standing Cause) → EffectWrites fixed (done_by moved to)
  done-writes moved (Ok to) = tt
  done-writes moved (Err cause) = tt

  -- a block whose moves are known, by its control
  controlled-writes : (moved : Moved) (arguments : Option (List Var)) (c : Control)
      → EffectWrites fixed (effect_of_control tape moved arguments c)
  controlled-writes moved arguments control.End = tt
  controlled-writes moved arguments c =
      done-writes moved (standing_behind tape (standing_of moved.path) arguments c)

  -- a block whose words moved the path, or raised an alarm
  moves-write : (c : Control) (moved : Result Moved ℕ) → EffectWrites fixed (of_moved tape c moved)
  moves-write c (Ok moved) = controlled-writes moved None c
  moves-write c (Err number) = tt

  -- a block of words, by their values
  values-write : (system : System) (words : List FlowWord) (c : Control) (values : Outcome Values)
      → EffectWrites fixed (of_values tape fixed path system words c values)
  values-write system words c (Gives values left) = moves-write c (effect_of_words fixed path system words values)
  values-write system words c (Needs variable) = tt
  values-write system words c (Alarms number value) = tt

  -- a macro call, by its arguments
  arguments-write : (c : Control) (arguments : Outcome (List Var))
      → EffectWrites fixed (of_arguments tape path c arguments)
  arguments-write c (Gives arguments left) =
      controlled-writes (record { path = path; moves = [] }) (Some arguments) c
  arguments-write c (Needs variable) = tt
  arguments-write c (Alarms number value) = tt

  -- a block of words, by its purpose
  purpose-writes : (purpose : Purpose) (system : System) (words : List FlowWord) (c : Control) (reads : List Var)
      → EffectWrites fixed (of_purpose tape fixed path purpose system words c reads)
  purpose-writes MacroCall system words c reads =
      arguments-write c (arguments_taken fixed path words all_vacant reads)
  purpose-writes purpose system words c reads =
      values-write system words c (words_taken fixed path (sense_of path purpose system words) words nothing_said reads)

  -- a block of words, which at a wait does nothing
  words-write : (purpose : Purpose) (system : System) (words : List FlowWord) (c : Control) (reads : List Var)
      → EffectWrites fixed (block_of_words tape fixed path purpose system words c reads)
  words-write purpose system words (control.Wait code) reads = tt
  words-write purpose system words c reads = purpose-writes purpose system words c reads

  -- a block that is a statement, by what that comes to
  after-writes : (after : Outcome After) → OnGives (Writes fixed) after
      → EffectWrites fixed (of_after after)
  after-writes (Gives after left) writes = writes
  after-writes (Needs variable) writes = tt
  after-writes (Alarms number value) writes = tt

  -- a block, by its text
  body-writes : (body : FlowBody) (c : Control) (reads : List Var)
      → EffectWrites fixed (effect_of_body tape fixed path body c reads)
  body-writes (Words words) c reads = words-write words.purpose words.dialect.system words.words c reads
  body-writes (Statement statement) c reads =
      after-writes (statement_effect tape fixed path (sentence_of statement.statement) reads)
      (statement-writes fixed path tape (sentence_of statement.statement) reads)

-- the block that was found, if there is one, writes only to shared variables
found-writes : (tape : List ControlProgram) (path : PathView) (found : Option FlowBlock)
    (reads : List Var)
    → EffectWrites path.fixed (effect_of_block tape path found reads)
found-writes tape path None reads = tt
found-writes tape path (Some block) reads =
    body-writes tape path.fixed path block.body block.control reads

-- whatever was read, a block of a flow writes to no common variable but a shared one
pub shared_written : (flow : Flow) (path : PathView) (reads : List Var) (after : PathView)
    (write : Write) (moves : List Move)
    → effect_of flow path reads ≡ Done after (Some write) moves
    → is_shared path.fixed write.variable ≡ true
shared_written flow path reads after write moves is =
    subst (λ effect. EffectWrites path.fixed effect) is
    (found-writes flow.order path (block_at flow.programs path.place) reads)
