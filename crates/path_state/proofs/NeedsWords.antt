-- A block asks for no more values than it names variables, each mention counted, and for shared
-- ones alone: for the laws `a_block_asks_for_each_variable_once_at_most` and
-- `what_is_needed_is_shared` (src/control_law.rt).
use Rattle.std.proofs.Common.{◌≡◌, ℕ, ◌<◌, ◌≤◌, true, List, [], ◌∷◌, length, Option, Some, None, Result, Ok, Err, subst, arith}
use Rattle.nc_number.specs.declared.cause.Cause.{Cause}
use Rattle.nc_number.specs.declared.value.Var.{Var}
use Rattle.code_tables.specs.declared.system.System.{System}
use Rattle.local_levels.specs.Stack.{all_vacant}
use Rattle.block_order.specs.declared.control.Control.{Control}
use Rattle.block_order.specs.declared.control.Control.TheVariants as control
use Rattle.block_order.specs.declared.program.ControlProgram.{ControlProgram}
use Rattle.block_words.specs.declared.word.FlowWord.{FlowWord}
use Rattle.block_words.specs.declared.word.WordValue.{WordValue}
use Rattle.block_words.specs.declared.word.WordValue.TheVariants.{Fixed as Written, Computed}
use Rattle.block_forms.specs.declared.block.FlowBlock.{FlowBlock}
use Rattle.block_forms.specs.declared.body.FlowBody.{FlowBody}
use Rattle.block_forms.specs.declared.body.FlowBody.TheVariants.{Words, Statement}
use Rattle.block_words.specs.declared.purpose.Purpose.{Purpose}
use Rattle.block_words.specs.declared.purpose.Purpose.TheVariants.{MacroCall}
use Rattle.block_forms.specs.Variables.{variables_of_value, variables_of_words, variables_of_body}
use Rattle.macro_expr.specs.Tree.{variables, variables_in, trees_of_sentence, sentence_of}
use Rattle.tape_flow.specs.declared.flow.Flow.{Flow}
use Rattle.path_state.specs.View.{Fixed, PathView}
use Rattle.path_state.specs.Looks.{is_shared}
use Rattle.block_values.specs.Outcomes.{Outcome, Gives, Needs, Alarms}
use Rattle.path_state.specs.Said.{value_of_tree, sense_of, word_taken, words_taken, argument_taken, arguments_taken}
use Rattle.block_values.specs.Values.{Values, Sense, nothing_said, values_with, taken_var}
use Rattle.path_state.specs.Standing.{Standing, standing_of, standing_behind}
use Rattle.path_state.specs.Statements.{After}
use Rattle.path_state.specs.Effect.{Effect, Need, Done, AtWait, AtEnd, Alarm, Moved, effect_of_words, done_by, effect_of_control, of_moved, of_values, of_arguments, of_purpose, block_of_words, of_after, effect_of_body, effect_of_block, block_at, effect_of}
use Rattle.path_state.specs.Controlled.{AsksForShared}
use Rattle.path_state.proofs.NeedsShared.{Asks, then_asks, none_asks, tree_asks}
use Rattle.path_state.proofs.NeedsStatements.{statement_asks}

-- if the effect is a need, the variable is shared, and fewer than `most` values were read
abbrev pub AsksFor : Fixed → ℕ → List Var → Effect → Type 0
AsksFor fixed most reads (Need variable) = (is_shared fixed variable ≡ true) × (length reads < most)
AsksFor fixed most reads _ = Unit {0}

-- A path before its block: `fixed` is what is fixed for it.
module _ (fixed : Fixed) (path : PathView) where
  -- a word asks for at most as many values as it names variables
  word_asks : (sense : Sense) (letter : ℕ) (value : WordValue) (values : Values) (reads : List Var)
      → Asks fixed (variables_of_value value) reads (word_taken fixed path sense letter value values reads)
  word_asks sense letter (Written literal) values reads =
      none_asks fixed 0 reads (values_with sense letter literal values)
  word_asks sense letter (Computed minus tree) values reads =
      then_asks fixed (variables tree) 0 _ (omega arith) reads (value_of_tree fixed path tree reads) _
      (tree_asks fixed path tree reads)
      (λ value left. none_asks fixed 0 left (taken_var sense letter minus value values))

  -- all words of a block ask for at most as many values as they name variables
  words_asks : (sense : Sense) (words : List FlowWord) (values : Values) (reads : List Var)
      → Asks fixed (variables_of_words words) reads (words_taken fixed path sense words values reads)
  words_asks sense [] values reads = omega arith
  words_asks sense (word ∷ words) values reads =
      then_asks fixed (variables_of_value word.value) (variables_of_words words) _ (omega arith) reads
      (word_taken fixed path sense word.letter word.value values reads) _
      (word_asks sense word.letter word.value values reads)
      (λ next left. words_asks sense words next left)

  -- an argument of a macro call asks for at most as many values as it names variables
  argument_asks : (letter : ℕ) (value : WordValue) (arguments reads : List Var)
      → Asks fixed (variables_of_value value) reads (argument_taken fixed path letter value arguments reads)
  argument_asks letter (Written literal) arguments reads = omega arith
  argument_asks letter (Computed minus tree) arguments reads =
      then_asks fixed (variables tree) 0 _ (omega arith) reads (value_of_tree fixed path tree reads) _
      (tree_asks fixed path tree reads)
      (λ value left. omega arith)

  -- all arguments of a macro call ask for at most as many values as they name variables
  arguments_asks : (words : List FlowWord) (arguments reads : List Var)
      → Asks fixed (variables_of_words words) reads (arguments_taken fixed path words arguments reads)
  arguments_asks [] arguments reads = omega arith
  arguments_asks (word ∷ words) arguments reads =
      then_asks fixed (variables_of_value word.value) (variables_of_words words) _ (omega arith) reads
      (argument_taken fixed path word.letter word.value arguments reads) _
      (argument_asks word.letter word.value arguments reads)
      (λ next left. arguments_asks words next left)

  -- With `reads` read so far and `most` values as the bound: what a block comes to asks as the step
  -- does by which it comes to that.
  module _ (tape : List ControlProgram) (most : ℕ) (reads : List Var) where
    -- a block whose words are evaluated needs nothing
    done-asks : (moved : Moved) (to : Result Standing Cause)
        → AsksFor fixed most reads (done_by moved to)
    done-asks moved (Ok to) = tt
    done-asks moved (Err cause) = tt

    -- a block whose moves are known needs nothing, wherever it goes
    controlled-asks : (moved : Moved) (arguments : Option (List Var)) (c : Control)
        → AsksFor fixed most reads (effect_of_control tape moved arguments c)
    controlled-asks moved arguments control.End = tt
    controlled-asks moved arguments c = done-asks moved (standing_behind tape (standing_of moved.path) arguments c)

    -- a block whose words moved the path, or raised an alarm, needs nothing
    moves-ask : (c : Control) (moved : Result Moved ℕ)
        → AsksFor fixed most reads (of_moved tape c moved)
    moves-ask c (Ok moved) = controlled-asks moved None c
    moves-ask c (Err number) = tt

    -- a block of words needs what the evaluation of its words needs
    values-ask : (system : System) (words : List FlowWord) (c : Control) (values : Outcome Values)
        → Asks fixed most reads values
        → AsksFor fixed most reads (of_values tape fixed path system words c values)
    values-ask system words c (Gives values left) asks = moves-ask c (effect_of_words fixed path system words values)
    values-ask system words c (Needs variable) asks = asks
    values-ask system words c (Alarms number value) asks = tt

    -- a macro call needs what the evaluation of its arguments needs
    arguments-ask : (c : Control) (arguments : Outcome (List Var)) → Asks fixed most reads arguments
        → AsksFor fixed most reads (of_arguments tape path c arguments)
    arguments-ask c (Gives arguments left) asks =
        controlled-asks (record { path = path; moves = [] }) (Some arguments) c
    arguments-ask c (Needs variable) asks = asks
    arguments-ask c (Alarms number value) asks = tt

    -- a block that is a statement needs what the statement needs
    after-asks : (after : Outcome After) → Asks fixed most reads after
        → AsksFor fixed most reads (of_after after)
    after-asks (Gives after left) asks = tt
    after-asks (Needs variable) asks = asks
    after-asks (Alarms number value) asks = tt

  -- a block of words asks, by its purpose, for at most as many values as its words name variables
  purpose-asks : (tape : List ControlProgram) (purpose : Purpose) (system : System) (words : List FlowWord)
      (c : Control) (reads : List Var)
      → AsksFor fixed (variables_of_words words) reads (of_purpose tape fixed path purpose system words c reads)
  purpose-asks tape MacroCall system words c reads =
      arguments-ask tape (variables_of_words words) reads c _ (arguments_asks words all_vacant reads)
  purpose-asks tape purpose system words c reads =
      values-ask tape (variables_of_words words) reads system words c _
      (words_asks (sense_of path purpose system words) words nothing_said reads)

  -- a block of words asks for at most as many values as its words name variables, and at a wait for
  -- none
  block-asks : (tape : List ControlProgram) (purpose : Purpose) (system : System) (words : List FlowWord)
      (c : Control) (reads : List Var)
      → AsksFor fixed (variables_of_words words) reads (block_of_words tape fixed path purpose system words c reads)
  block-asks tape purpose system words (control.Wait code) reads = tt
  block-asks tape purpose system words c reads = purpose-asks tape purpose system words c reads

  -- the body of a block asks for at most as many values as it names variables
  pub body_asks : (tape : List ControlProgram) (body : FlowBody) (c : Control) (reads : List Var)
      → AsksFor fixed (variables_of_body body) reads (effect_of_body tape fixed path body c reads)
  body_asks tape (Words words) c reads = block-asks tape words.purpose words.dialect.system words.words c reads
  body_asks tape (Statement statement) c reads =
      after-asks tape (variables_in (trees_of_sentence (sentence_of statement.statement))) reads _
      (statement_asks fixed path tape (sentence_of statement.statement) reads)

-- if the body of a block needs a variable, fewer values were read than it names variables
pub body_most : (tape : List ControlProgram) (fixed : Fixed) (path : PathView) (body : FlowBody)
    (c : Control) (reads : List Var) (variable : ℕ)
    → effect_of_body tape fixed path body c reads ≡ Need variable
    → length reads < variables_of_body body
body_most tape fixed path body c reads variable is =
    (subst (λ effect. AsksFor fixed (variables_of_body body) reads effect) is
    (body_asks fixed path tape body c reads)).1

-- an effect that asks for at most 32 values asks as the law on blocks says
within_room : (path : PathView) (most : ℕ) (reads : List Var) (effect : Effect) → most ≤ 32
    → AsksFor path.fixed most reads effect
    → AsksForShared path reads effect
within_room path most reads (Need variable) few asks = (asks.0, (let fewer = asks.1 in omega arith))
within_room path most reads (Done after write moves) few asks = tt
within_room path most reads (AtWait code) few asks = tt
within_room path most reads (AtEnd after moves) few asks = tt
within_room path most reads (Alarm number value) few asks = tt

-- the block that was found, if there is one, asks for shared variables and at most 32 values
found_asks : (tape : List ControlProgram) (path : PathView) (found : Option FlowBlock)
    (reads : List Var)
    → AsksForShared path reads (effect_of_block tape path found reads)
found_asks tape path None reads = tt
found_asks tape path (Some block) reads =
    within_room path (variables_of_body block.body) reads
    (effect_of_body tape path.fixed path block.body block.control reads) block.few
    (body_asks path.fixed path tape block.body block.control reads)

-- every block asks for shared variables and at most 32 values
pub block_asks : (flow : Flow) (path : PathView) (reads : List Var)
    → AsksForShared path reads (effect_of flow path reads)
block_asks flow path reads = found_asks flow.order path (block_at flow.programs path.place) reads

-- whatever was read, a variable that a block needs is shared
pub needed_shared : (flow : Flow) (path : PathView) (reads : List Var) (variable : ℕ)
    → effect_of flow path reads ≡ Need variable → is_shared path.fixed variable ≡ true
needed_shared flow path reads variable is =
    (subst (λ effect. AsksForShared path reads effect) is (block_asks flow path reads)).0
