-- A block writes only variables that it may write by its text: the second half of the law
-- `a_block_does_as_its_text_says` (src/laws.rt). Each lemma says of one part of a block: what holds
-- (P) of each variable that the part may write holds of the one that it writes.
use Rattle.std.proofs.Common.{◌≡◌, ◌==◌, ℕ, Bool, true, false, List, [], ◌∷◌, Option, Some, None, Result, Ok, Err, refl, subst}
use Rattle.std.proofs.lemmas.Bool.{eq-eqb}
use Rattle.nc_number.specs.declared.cause.Cause.{Cause}
use Rattle.nc_number.specs.declared.point.Point.{Point}
use Rattle.nc_number.specs.declared.value.Var.{Var}
use Rattle.nc_moves.specs.declared.motion.Move.{Move}
use Rattle.modal_state.specs.View.{ModalView}
use Rattle.common_vars.specs.declared.variable.Variable.{Variable}
use Rattle.common_vars.specs.declared.variable.Variable.TheVariants as variable
use Rattle.common_vars.proofs.VariableNumbers.{what_is_named}
use Rattle.code_tables.specs.declared.system.System.{System}
use Rattle.local_levels.specs.Stack.{all_vacant}
use Rattle.offset_store.specs.declared.slot.Slot.{Slot}
use Rattle.offset_store.specs.declared.slot.Slot.TheVariants.{Work}
use Rattle.offset_store.specs.declared.fault.OffsetFault.{OffsetFault}
use Rattle.offset_store.specs.Changes.{in_range, point_at}
use Rattle.block_order.specs.declared.control.Control.{Control}
use Rattle.block_order.specs.declared.control.Control.TheVariants as control
use Rattle.block_order.specs.declared.frame.Frame.{Frame}
use Rattle.block_order.specs.declared.program.ControlProgram.{ControlProgram}
use Rattle.block_forms.specs.declared.block.FlowBlock.{FlowBlock}
use Rattle.block_forms.specs.declared.body.FlowBody.{FlowBody}
use Rattle.block_forms.specs.declared.body.FlowBody.TheVariants.{Words, Statement}
use Rattle.block_words.specs.declared.purpose.Purpose.{Purpose}
use Rattle.block_words.specs.declared.purpose.Purpose.TheVariants.{MacroCall}
use Rattle.block_words.specs.declared.word.FlowWord.{FlowWord}
use Rattle.macro_expr.specs.Tree.{Tree, Named, Fixed as Plain, Computed, Aim, Sentence, Assign, Goto, IfGoto, IfThen, WhileDo, DoOnly, EndLoop, sentence_of}
use Rattle.macro_eval.specs.Meaning.{variable_number}
use Rattle.tape_flow.specs.declared.flow.Flow.{Flow}
use Rattle.block_order.specs.Moves.{place_of_jump, place_behind_loop, place_of_head}
use Rattle.path_state.specs.View.{Fixed, PathView}
use Rattle.block_values.specs.Readings.{variable_in}
use Rattle.path_state.specs.Looks.{is_shared}
use Rattle.block_values.specs.Outcomes.{Outcome, Gives, Needs, Alarms, reading_none}
use Rattle.path_state.specs.Said.{value_of_tree}
use Rattle.block_values.specs.Values.{Values, nothing_said}
use Rattle.path_state.specs.Said.{sense_of, words_taken}
use Rattle.path_state.specs.Said.{arguments_taken}
use Rattle.path_state.specs.Standing.{Standing, standing_of, standing_behind}
use Rattle.block_values.specs.Operands.{variable_or_fault, number_named, length_of}
use Rattle.path_state.specs.Statements.{Write, After, point_along, with_offset, written_path, with_common, outcome_of_write, variable_named, outcome_of_assignment, outcome_of_test, outcome_of_aim, move_effect, jump_effect, next_effect, assigned_next, statement_effect}
use Rattle.path_state.specs.Effect.{Effect, Done, Moved, effect_of_words, done_by, effect_of_control, of_moved, of_values, of_arguments, of_purpose, block_of_words, of_after, effect_of_body, effect_of_block, block_at, effect_of}
use Rattle.path_state.proofs.NeedsShared.{named_in_table}
use Rattle.path_state.proofs.ControlledStatements.{OnGives, behind_gives, after_any, either}
use Rattle.named_vars.specs.Names.{may_be, sentence_may_write, body_may_write, found_may_write, block_may_write}

-- if there is a write, P holds of its variable
abbrev OnWrite : (ℕ → Type 0) → Option Write → Type 0
OnWrite P None = Unit {0}
OnWrite P (Some write) = P write.variable

-- if a step writes a shared variable, P holds of it
abbrev Writes : (ℕ → Type 0) → After → Type 0
Writes P after = OnWrite P after.write

-- the left side may be this variable by its text, if the variable is a common one
abbrev IsMeant : Named → Variable → Type 0
IsMeant name (variable.Common v) = may_be name v ≡ true
IsMeant name _ = Unit {0}

-- a computed left side may be any variable
computed_meant : (t : Tree) (v : Variable) → IsMeant (Computed t) v
computed_meant t (variable.Common v) = refl
computed_meant t _ = tt

-- a left side with a number is the variable of that number
plain_meant : (modal : ModalView) (n : ℕ) (v : Variable) → variable_in modal n ≡ Some v → IsMeant (Plain n) v
plain_meant modal n (variable.Common v) is =
    subst (λ k. (k == v) ≡ true) (what_is_named n (variable.Common v) (named_in_table modal n (variable.Common v) is)).1 (eq-eqb v v refl)
plain_meant modal n _ is = tt

-- A path before its block.
module _ (fixed : Fixed) (path : PathView) where
  -- a left side with a number gives that variable
  plain_gives : (n : ℕ) (found : Option Variable) → variable_in path.modal n ≡ found → (reads : List Var)
      → OnGives (IsMeant (Plain n)) (reading_none (variable_or_fault found) reads)
  plain_gives n None is reads = tt
  plain_gives n (Some v) is reads = plain_meant path.modal n v is

  -- a left side with a computed number gives a variable that it may be
  number_gives : (t : Tree) (r : Result Variable Cause) (left : List Var) → OnGives (IsMeant (Computed t)) (reading_none r left)
  number_gives t (Ok v) left = computed_meant t v
  number_gives t (Err cause) left = tt

  -- every left side gives a variable that it may be
  named_gives : (name : Named) (reads : List Var) → OnGives (IsMeant name) (variable_named fixed path name reads)
  named_gives (Plain n) reads = plain_gives n (variable_in path.modal n) refl reads
  named_gives (Computed t) reads =
      after_any (IsMeant (Computed t)) (value_of_tree fixed path t reads) _
      (λ value left. number_gives t (number_named path.modal (variable_number value)) left)

  -- A statement P on variables, which holds of those that a part of the block may write: then it
  -- holds of the one that the part writes.
  module _ (P : ℕ → Type 0) where
    -- a write to a common variable of which P holds
    common-writes : (shared : Bool) (v : ℕ) (value : Var) → P v → Writes P (with_common shared path v value)
    common-writes true v value said = said
    common-writes false v value said = tt

    -- a write to an offset, which writes no common variable
    offset-writes : (slot : Slot) (to : Result Point OffsetFault) (left : List Var)
        → OnGives (Writes P) (written_path (with_offset path slot to) left)
    offset-writes slot (Ok to) left = tt
    offset-writes slot (Err fault) left = tt

    -- a write to a variable that the left side may be
    written-writes : (name : Named) → ((v : ℕ) → may_be name v ≡ true → P v) → (v : Variable) → IsMeant name v
        → (value : Var) (left : List Var) → OnGives (Writes P) (outcome_of_write fixed path v value left)
    written-writes name all (variable.Local i) meant value left = tt
    written-writes name all (variable.Common v) meant value left = common-writes (is_shared fixed v) v value (all v meant)
    written-writes name all (variable.Work n axis) meant value left =
        offset-writes (Work n) (in_range (point_along axis (length_of value) (point_at path.offsets (Work n)))) left
    written-writes name all variable.Raise meant value left = tt
    written-writes name all _ meant value left = tt

    -- an assignment, which writes only what its left side may be
    assigned-writes : (name : Named) (t : Tree) → ((v : ℕ) → may_be name v ≡ true → P v) → (reads : List Var)
        → OnGives (Writes P) (assigned_next fixed path name t reads)
    assigned-writes name t all reads =
        behind_gives (Writes P) (Writes P) (outcome_of_assignment fixed path name t reads) _
        (behind_gives (IsMeant name) (Writes P) (variable_named fixed path name reads) _ (named_gives name reads)
        (λ v behind_name meant. after_any (Writes P) (value_of_tree fixed path t behind_name) _
        (λ value left. written-writes name all v meant value left)))
        (λ after left writes. writes)

    -- a statement that goes to a place, which writes none
    move-writes : (to : Result (List Frame) Cause) (left : List Var) → OnGives (Writes P) (move_effect path to left)
    move-writes (Ok to) left = tt
    move-writes (Err cause) left = tt

    -- a jump, which writes none
    jump-writes : (tape : List ControlProgram) (aim : Aim) (reads : List Var)
        → OnGives (Writes P) (jump_effect tape fixed path aim reads)
    jump-writes tape aim reads =
        after_any (Writes P) (outcome_of_aim fixed path aim reads) _
        (λ n left. move-writes (place_of_jump tape n path.place) left)

    -- a statement writes only what it may write
    statement-writes : (tape : List ControlProgram) (sentence : Sentence)
        → ((v : ℕ) → sentence_may_write sentence v ≡ true → P v)
        → (reads : List Var) → OnGives (Writes P) (statement_effect tape fixed path sentence reads)
    statement-writes tape (Assign name t) all reads = assigned-writes name t all reads
    statement-writes tape (Goto aim) all reads = jump-writes tape aim reads
    statement-writes tape (IfGoto test aim) all reads =
        after_any (Writes P) (outcome_of_test fixed path test reads) _ (λ holds left.
        either (Writes P) holds (jump_effect tape fixed path aim left) (next_effect path left) (jump-writes tape aim left) tt)
    statement-writes tape (IfThen test name t) all reads =
        after_any (Writes P) (outcome_of_test fixed path test reads) _ (λ holds left.
        either (Writes P) holds (assigned_next fixed path name t left) (next_effect path left) (assigned-writes name t all left) tt)
    statement-writes tape (WhileDo test m) all reads =
        after_any (Writes P) (outcome_of_test fixed path test reads) _ (λ holds left.
        either (Writes P) holds (next_effect path left) (move_effect path (place_behind_loop tape path.place) left) tt
        (move-writes (place_behind_loop tape path.place) left))
    statement-writes tape (DoOnly m) all reads = tt
    statement-writes tape (EndLoop m) all reads = move-writes (place_of_head tape path.place) reads

-- if a block writes a shared variable, P holds of it
abbrev EffectWrites : (ℕ → Type 0) → Effect → Type 0
EffectWrites P (Done after write moves) = OnWrite P write
EffectWrites P _ = Unit {0}

-- A block of a path: if P holds of what its statement writes, it holds of what the block writes.
-- Each lemma takes one step of the definition of its effect.
module _ (tape : List ControlProgram) (fixed : Fixed) (path : PathView) (P : ℕ → Type 0) where
  -- a block of words that moves and goes on writes no variable
  done-writes : (moved : Moved) (to : Result Standing Cause) → EffectWrites P (done_by moved to)
  done-writes moved (Ok to) = tt
  done-writes moved (Err cause) = tt

  -- a block of words that goes where its control says writes no variable
  controlled-writes : (moved : Moved) (arguments : Option (List Var)) (c : Control)
      → EffectWrites P (effect_of_control tape moved arguments c)
  controlled-writes moved arguments control.End = tt
  controlled-writes moved arguments c = done-writes moved (standing_behind tape (standing_of moved.path) arguments c)

  -- a block of words, by its motion or by a fault of it, writes no variable
  moves-write : (c : Control) (moved : Result Moved ℕ) → EffectWrites P (of_moved tape c moved)
  moves-write c (Ok moved) = controlled-writes moved None c
  moves-write c (Err number) = tt

  -- a block of words, by their values, writes no variable
  values-write : (system : System) (words : List FlowWord) (c : Control) (values : Outcome Values)
      → EffectWrites P (of_values tape fixed path system words c values)
  values-write system words c (Gives values left) = moves-write c (effect_of_words fixed path system words values)
  values-write system words c (Needs variable) = tt
  values-write system words c (Alarms number value) = tt

  -- a macro call, by its arguments, writes no variable
  arguments-write : (c : Control) (arguments : Outcome (List Var)) → EffectWrites P (of_arguments tape path c arguments)
  arguments-write c (Gives arguments left) = controlled-writes (record { path = path; moves = [] }) (Some arguments) c
  arguments-write c (Needs variable) = tt
  arguments-write c (Alarms number value) = tt

  -- a block of words, by its purpose, writes no variable
  purpose-writes : (purpose : Purpose) (system : System) (words : List FlowWord) (c : Control) (reads : List Var)
      → EffectWrites P (of_purpose tape fixed path purpose system words c reads)
  purpose-writes MacroCall system words c reads = arguments-write c (arguments_taken fixed path words all_vacant reads)
  purpose-writes purpose system words c reads =
      values-write system words c (words_taken fixed path (sense_of path purpose system words) words nothing_said reads)

  -- a block of words writes no variable
  words-write : (purpose : Purpose) (system : System) (words : List FlowWord) (c : Control) (reads : List Var)
      → EffectWrites P (block_of_words tape fixed path purpose system words c reads)
  words-write purpose system words (control.Wait code) reads = tt
  words-write purpose system words c reads = purpose-writes purpose system words c reads

  -- a block that is a statement writes what that writes
  after-writes : (after : Outcome After) → OnGives (Writes P) after → EffectWrites P (of_after after)
  after-writes (Gives after left) writes = writes
  after-writes (Needs variable) writes = tt
  after-writes (Alarms number value) writes = tt

  -- a block, by its text, writes only what that may write
  body-writes : (body : FlowBody) → ((v : ℕ) → body_may_write body v ≡ true → P v) → (c : Control) (reads : List Var)
      → EffectWrites P (effect_of_body tape fixed path body c reads)
  body-writes (Words words) all c reads = words-write words.purpose words.dialect.system words.words c reads
  body-writes (Statement statement) all c reads =
      after-writes (statement_effect tape fixed path (sentence_of statement.statement) reads)
      (statement-writes fixed path P tape (sentence_of statement.statement) all reads)

-- a block that is found writes only what it may write
found-writes : (tape : List ControlProgram) (path : PathView) (found : Option FlowBlock) (reads : List Var)
    → EffectWrites (λ v. found_may_write found v ≡ true) (effect_of_block tape path found reads)
found-writes tape path None reads = tt
found-writes tape path (Some block) reads =
    body-writes tape path.fixed path (λ v. body_may_write block.body v ≡ true) block.body (λ v e. e) block.control reads

-- the variable that a block writes is one that it may write by its text
pub writes_are_marked : (flow : Flow) (path after : PathView) (reads : List Var) (f : Frame) (stack : List Frame)
    (write : Write) (moves : List Move) → path.place ≡ f ∷ stack
    → effect_of flow path reads ≡ Done after (Some write) moves → block_may_write flow f.program f.block write.variable ≡ true
writes_are_marked flow path after reads f stack write moves at is =
    subst (λ place. found_may_write (block_at flow.programs place) write.variable ≡ true) at
    (subst (EffectWrites (λ n. found_may_write (block_at flow.programs path.place) n ≡ true)) is
    (found-writes flow.order path (block_at flow.programs path.place) reads))
