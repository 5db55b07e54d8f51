-- What a block does leaves its path at the end of its moves. TurnsLead.antt rests on it.
use Rattle.std.proofs.Common.{◌≡◌, ℕ, Bool, true, false, List, [], Option, Some, None, Result, Ok, Err, refl}
use Rattle.nc_number.specs.declared.cause.Cause.{Cause}
use Rattle.nc_number.specs.declared.point.Point.{Point}
use Rattle.nc_number.specs.declared.value.Var.{Var}
use Rattle.common_vars.specs.declared.variable.Variable.{Variable}
use Rattle.common_vars.specs.declared.variable.Variable.TheVariants as variable
use Rattle.code_tables.specs.declared.system.System.{System}
use Rattle.local_levels.specs.Stack.{all_vacant}
use Rattle.modal_state.specs.View.{ModalView}
use Rattle.offset_store.specs.declared.fault.OffsetFault.{OffsetFault}
use Rattle.offset_store.specs.declared.slot.Slot.{Slot}
use Rattle.offset_store.specs.declared.slot.Slot.TheVariants.{Work}
use Rattle.offset_store.specs.Changes.{in_range, point_at}
use Rattle.block_order.specs.declared.control.Control.{Control}
use Rattle.block_order.specs.declared.control.Control.TheVariants as control
use Rattle.block_order.specs.declared.program.ControlProgram.{ControlProgram}
use Rattle.block_words.specs.declared.word.FlowWord.{FlowWord}
use Rattle.block_forms.specs.declared.block.FlowBlock.{FlowBlock}
use Rattle.block_forms.specs.declared.body.FlowBody.{FlowBody}
use Rattle.block_forms.specs.declared.body.FlowBody.TheVariants.{Words, Statement}
use Rattle.block_words.specs.declared.purpose.Purpose.{Purpose}
use Rattle.block_words.specs.declared.purpose.Purpose.TheVariants.{MacroCall}
use Rattle.macro_expr.specs.Tree.{Tree, Named, Aim, Sentence, Assign, Goto, IfGoto, IfThen, WhileDo, DoOnly, EndLoop, sentence_of}
use Rattle.tape_flow.specs.declared.flow.Flow.{Flow}
use Rattle.block_order.specs.declared.frame.Frame.{Frame}
use Rattle.block_order.specs.Moves.{place_of_jump, place_behind_loop, place_of_head}
use Rattle.path_state.specs.View.{Fixed, PathView}
use Rattle.block_values.specs.Outcomes.{Outcome, Gives, Needs, Alarms, ◌>>=◌}
use Rattle.path_state.specs.Said.{value_of_tree}
use Rattle.block_values.specs.Values.{Values, nothing_said}
use Rattle.path_state.specs.Said.{sense_of, words_taken}
use Rattle.path_state.specs.Said.{arguments_taken}
use Rattle.path_state.specs.Looks.{is_shared}
use Rattle.block_values.specs.Motion.{Motion}
use Rattle.block_values.specs.Moves.{last_end}
use Rattle.path_state.specs.Standing.{Standing, standing_of, standing_behind}
use Rattle.block_values.specs.Operands.{length_of}
use Rattle.path_state.specs.Statements.{After, point_along, with_offset, written_path, with_common, outcome_of_write, variable_named, outcome_of_assignment, outcome_of_test, outcome_of_aim, move_effect, jump_effect, next_effect, then_next, assigned_next, statement_effect}
use Rattle.block_values.specs.InForce.{modal_after}
use Rattle.path_state.specs.Effect.{Effect, Moved, after_motion, motion_with, effect_of_words, done_by, effect_of_control, of_moved, of_values, of_arguments, of_purpose, block_of_words, of_after, effect_of_body, effect_of_block, block_at, effect_of}
use Rattle.path_state.specs.Effect as effect
use Rattle.two_path.proofs.NoCrossing.{either}

-- What the statement comes to, if it comes to anything, leaves its path where it stands.
abbrev StaysAt : PathView → Outcome After → Type 0
StaysAt path (Gives after left) = after.path.position ≡ path.position
StaysAt path (Needs variable) = Unit {0}
StaysAt path (Alarms number value) = Unit {0}

-- if all that goes on with a value leaves the path where it stands, the whole does
stays_behind : {A : Type 0} (path : PathView) (step : Outcome A) (then_on : A → List Var → Outcome After)
    → ((value : A) (left : List Var) → StaysAt path (then_on value left)) → StaysAt path (step >>= then_on)
stays_behind path (Gives value left) then_on further = further value left
stays_behind path (Needs variable) then_on further = tt
stays_behind path (Alarms number value) then_on further = tt

-- what leaves the path where it stands does so too if it goes on to the next block
stays_on : (path : PathView) (step : Outcome After) → StaysAt path step → StaysAt path (step >>= λ after left. Gives (then_next after) left)
stays_on path (Gives after left) stays = stays
stays_on path (Needs variable) stays = tt
stays_on path (Alarms number value) stays = tt

-- the statements of a path
module _ (fixed : Fixed) (path : PathView) where
  -- writing an offset leaves the path where it stands
  offset_stays : (slot : Slot) (to : Result Point OffsetFault) (left : List Var) → StaysAt path (written_path (with_offset path slot to) left)
  offset_stays slot (Ok to) left = refl
  offset_stays slot (Err fault) left = tt

  -- writing a common variable leaves the path where it stands
  common_stays : (shared : Bool) (v : ℕ) (value : Var) → (with_common shared path v value).path.position ≡ path.position
  common_stays true v value = refl
  common_stays false v value = refl

  -- writing any variable leaves the path where it stands
  written_stays : (v : Variable) (value : Var) (left : List Var) → StaysAt path (outcome_of_write fixed path v value left)
  written_stays (variable.Local i) value left = refl
  written_stays (variable.Common v) value left = common_stays (is_shared fixed v) v value
  written_stays (variable.Work n axis) value left =
      offset_stays (Work n) (in_range (point_along axis (length_of value) (point_at path.offsets (Work n)))) left
  written_stays _ value left = tt

  -- an assignment leaves the path where it stands
  assigned_stays : (name : Named) (tree : Tree) (reads : List Var) → StaysAt path (outcome_of_assignment fixed path name tree reads)
  assigned_stays name tree reads =
      stays_behind path (variable_named fixed path name reads) _
      (λ v behind_name. stays_behind path (value_of_tree fixed path tree behind_name) _ (λ value left. written_stays v value left))

  -- an assignment that goes on to the next block leaves the path where it stands
  assigned_next_stays : (name : Named) (tree : Tree) (reads : List Var) → StaysAt path (assigned_next fixed path name tree reads)
  assigned_next_stays name tree reads = stays_on path (outcome_of_assignment fixed path name tree reads) (assigned_stays name tree reads)

  -- going to another block leaves the turret of the path where it stands
  move_stays : (to : Result (List Frame) Cause) (left : List Var) → StaysAt path (move_effect path to left)
  move_stays (Ok standing) left = refl
  move_stays (Err cause) left = tt

  -- a GOTO leaves the turret of the path where it stands
  jump_stays : (tape : List ControlProgram) (aim : Aim) (reads : List Var) → StaysAt path (jump_effect tape fixed path aim reads)
  jump_stays tape aim reads =
      stays_behind path (outcome_of_aim fixed path aim reads) _ (λ n left. move_stays (place_of_jump tape n path.place) left)

  -- each statement leaves the turret of the path where it stands
  statement_stays : (tape : List ControlProgram) (sentence : Sentence) (reads : List Var) → StaysAt path (statement_effect tape fixed path sentence reads)
  statement_stays tape (Assign name tree) reads = assigned_next_stays name tree reads
  statement_stays tape (Goto aim) reads = jump_stays tape aim reads
  statement_stays tape (IfGoto test aim) reads =
      stays_behind path (outcome_of_test fixed path test reads) _
      (λ holds left. either (λ (o : Outcome After). StaysAt path o) holds (jump_effect tape fixed path aim left) (next_effect path left) (jump_stays tape aim left) refl)
  statement_stays tape (IfThen test name tree) reads =
      stays_behind path (outcome_of_test fixed path test reads) _
      (λ holds left. either (λ (o : Outcome After). StaysAt path o) holds (assigned_next fixed path name tree left) (next_effect path left) (assigned_next_stays name tree left) refl)
  statement_stays tape (WhileDo test name) reads =
      stays_behind path (outcome_of_test fixed path test reads) _
      (λ holds left. either (λ (o : Outcome After). StaysAt path o) holds (next_effect path left) (move_effect path (place_behind_loop tape path.place) left) refl
      (move_stays (place_behind_loop tape path.place) left))
  statement_stays tape (DoOnly name) reads = refl
  statement_stays tape (EndLoop name) reads = move_stays (place_of_head tape path.place) reads

-- What a block comes to, if it is done, leaves its path, which stood at this point, at the end of
-- its moves.
abbrev pub LeadsOn : Point → Effect → Type 0
LeadsOn at (effect.Done path write moves) = path.position ≡ last_end at moves
LeadsOn at (effect.AtEnd path moves) = path.position ≡ last_end at moves
LeadsOn at (effect.Need variable) = Unit {0}
LeadsOn at (effect.AtWait code) = Unit {0}
LeadsOn at (effect.Alarm number value) = Unit {0}

-- the path stands at the end of the moves from this place
abbrev IsMovedFrom : Point → Moved → Type 0
IsMovedFrom at moved = moved.path.position ≡ last_end at moved.moves

-- if the words of a block are not refused, the path stands at the end of their moves from this
-- place
abbrev AreMovedFrom : Point → Result Moved ℕ → Type 0
AreMovedFrom at (Ok moved) = IsMovedFrom at moved
AreMovedFrom at (Err number) = Unit {0}

-- the motion of a block leads its path to the end of its moves
motion_leads : (path : PathView) (modal : ModalView) (system : System) (words : List FlowWord) (values : Values) (motion : Result Motion ℕ)
    → AreMovedFrom path.position (after_motion path modal system words values motion)
motion_leads path modal system words values (Ok motion) = refl
motion_leads path modal system words values (Err number) = tt

-- the motion of a block leads its path to the end of its moves, whatever modal state it leaves
modal_leads : (fixed : Fixed) (path : PathView) (system : System) (words : List FlowWord) (values : Values) (modal : Result ModalView ℕ)
    → AreMovedFrom path.position (motion_with fixed path system words values modal)
modal_leads fixed path system words values (Ok modal) = motion_leads path modal system words values _
modal_leads fixed path system words values (Err number) = tt

-- wherever control goes next, a path that was moved stands at the end of the moves
done_leads : (at : Point) (moved : Moved) (to : Result Standing Cause) → IsMovedFrom at moved → LeadsOn at (done_by moved to)
done_leads at moved (Ok standing) is = is
done_leads at moved (Err cause) is = tt

-- the blocks of a tape
module _ (tape : List ControlProgram) where
  -- a block that was moved leads its path there, whatever its control
  controlled_leads : (at : Point) (moved : Moved) (arguments : Option (List Var)) (c : Control) → IsMovedFrom at moved
      → LeadsOn at (effect_of_control tape moved arguments c)
  controlled_leads at moved arguments control.End is = is
  controlled_leads at moved arguments c is = done_leads at moved (standing_behind tape (standing_of moved.path) arguments c) is

  -- a block whose words move the path, or are refused, leads it to the end of its moves
  moved_leads : (at : Point) (c : Control) (moved : Result Moved ℕ) → AreMovedFrom at moved → LeadsOn at (of_moved tape c moved)
  moved_leads at c (Ok moved) is = controlled_leads at moved None c is
  moved_leads at c (Err number) is = tt

  -- a block of words leads its path to the end of its moves, once their values are known
  values_lead : (fixed : Fixed) (path : PathView) (system : System) (words : List FlowWord) (c : Control) (values : Outcome Values)
      → LeadsOn path.position (of_values tape fixed path system words c values)
  values_lead fixed path system words c (Gives values left) =
      moved_leads path.position c (effect_of_words fixed path system words values) (modal_leads fixed path system words values (modal_after path.modal system words values))
  values_lead fixed path system words c (Needs variable) = tt
  values_lead fixed path system words c (Alarms number value) = tt

  -- a block with a macro call has no moves, and leaves its path where it stood
  arguments_lead : (path : PathView) (c : Control) (arguments : Outcome (List Var)) → LeadsOn path.position (of_arguments tape path c arguments)
  arguments_lead path c (Gives arguments left) = controlled_leads path.position (record { path = path; moves = [] }) (Some arguments) c refl
  arguments_lead path c (Needs variable) = tt
  arguments_lead path c (Alarms number value) = tt

  -- a block of words leads its path to the end of its moves, whatever their purpose
  purpose_leads : (fixed : Fixed) (path : PathView) (purpose : Purpose) (system : System) (words : List FlowWord) (c : Control) (reads : List Var)
      → LeadsOn path.position (of_purpose tape fixed path purpose system words c reads)
  purpose_leads fixed path MacroCall system words c reads = arguments_lead path c (arguments_taken fixed path words all_vacant reads)
  purpose_leads fixed path purpose system words c reads =
      values_lead fixed path system words c (words_taken fixed path (sense_of path purpose system words) words nothing_said reads)

  -- a block of words leads its path to the end of its moves; at a wait it has none
  words_lead : (fixed : Fixed) (path : PathView) (purpose : Purpose) (system : System) (words : List FlowWord) (c : Control) (reads : List Var)
      → LeadsOn path.position (block_of_words tape fixed path purpose system words c reads)
  words_lead fixed path purpose system words (control.Wait code) reads = tt
  words_lead fixed path purpose system words c reads = purpose_leads fixed path purpose system words c reads

  -- a statement has no moves, and leaves its path where it stood
  after_leads : (path : PathView) (after : Outcome After) → StaysAt path after → LeadsOn path.position (of_after after)
  after_leads path (Gives after left) stays = stays
  after_leads path (Needs variable) stays = tt
  after_leads path (Alarms number value) stays = tt

  -- a block of words or of a statement leads its path to the end of its moves
  body_leads : (fixed : Fixed) (path : PathView) (body : FlowBody) (c : Control) (reads : List Var)
      → LeadsOn path.position (effect_of_body tape fixed path body c reads)
  body_leads fixed path (Words words) c reads = words_lead fixed path words.purpose words.dialect.system words.words c reads
  body_leads fixed path (Statement statement) c reads =
      after_leads path (statement_effect tape fixed path (sentence_of statement.statement) reads)
      (statement_stays fixed path tape (sentence_of statement.statement) reads)

  -- the block at a place, if there is one, leads its path to the end of its moves
  found_leads : (path : PathView) (found : Option FlowBlock) (reads : List Var) → LeadsOn path.position (effect_of_block tape path found reads)
  found_leads path None reads = tt
  found_leads path (Some block) reads = body_leads path.fixed path block.body block.control reads

-- each block of a flow leaves its path at the end of its moves
pub block_leads : (flow : Flow) (path : PathView) (reads : List Var) → LeadsOn path.position (effect_of flow path reads)
block_leads flow path reads = found_leads flow.order path (block_at flow.programs path.place) reads
