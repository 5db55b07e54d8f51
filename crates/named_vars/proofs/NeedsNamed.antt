-- A block asks only for variables that its text names: the first half of the law
-- `a_block_does_as_its_text_says` (src/laws.rt). Each lemma says of one part of a block: what holds
-- (P) of each variable that the part names holds of the one that it needs.
use Rattle.std.proofs.Common.{◌≡◌, ℕ, ◌||◌, Bool, true, false, List, [], ◌∷◌, ◌++◌, Option, Some, None, Result, Ok, Err, ℤ, refl, subst, if◌then◌else◌}
use Rattle.std.proofs.lemmas.Bool.{eq-eqb, or_right}
use Rattle.nc_number.specs.declared.cause.Cause.{Cause}
use Rattle.nc_number.specs.declared.fault.NumberFault.{NumberFault}
use Rattle.nc_number.specs.declared.point.Point.{Point}
use Rattle.nc_number.specs.declared.value.Var.{Var}
use Rattle.nc_number.specs.Variables.{or_zero}
use Rattle.common_vars.specs.declared.variable.Variable.{Variable}
use Rattle.common_vars.specs.declared.variable.Variable.TheVariants as variable
use Rattle.code_tables.specs.declared.system.System.{System}
use Rattle.local_levels.specs.Stack.{all_vacant}
use Rattle.offset_store.specs.declared.slot.Slot.{Slot}
use Rattle.offset_store.specs.declared.slot.Slot.TheVariants.{Work}
use Rattle.offset_store.specs.declared.fault.OffsetFault.{OffsetFault}
use Rattle.offset_store.specs.Changes.{in_range, point_at}
use Rattle.block_order.specs.declared.control.Control.{Control}
use Rattle.block_order.specs.declared.control.Control.TheVariants as control
use Rattle.block_order.specs.declared.frame.Frame.{Frame}
use Rattle.block_order.specs.declared.program.ControlProgram.{ControlProgram}
use Rattle.block_forms.specs.declared.block.FlowBlock.{FlowBlock}
use Rattle.block_forms.specs.declared.body.FlowBody.{FlowBody}
use Rattle.block_forms.specs.declared.body.FlowBody.TheVariants.{Words, Statement}
use Rattle.block_words.specs.declared.purpose.Purpose.{Purpose}
use Rattle.block_words.specs.declared.purpose.Purpose.TheVariants.{MacroCall}
use Rattle.block_words.specs.declared.word.FlowWord.{FlowWord}
use Rattle.block_words.specs.declared.word.WordValue.{WordValue}
use Rattle.block_words.specs.declared.word.WordValue.TheVariants.{Fixed as Written, Computed as Evaluated}
use Rattle.macro_expr.specs.Tree.{Tree, Number, Variable as Numbered, VariableOf, Signed, Applied, Joined, Named, Fixed as Plain, Computed, Test, Aim, ToNumber, ToNumberOf, Sentence, Assign, Goto, IfGoto, IfThen, WhileDo, DoOnly, EndLoop, evaluated_name, evaluated_aim, evaluated_test, trees_of_sentence, sentence_of}
use Rattle.macro_eval.specs.declared.scope.Look.{Look}
use Rattle.macro_eval.specs.declared.scope.Look.TheVariants as look
use Rattle.macro_eval.specs.declared.scope.VarFault.{VarFault}
use Rattle.macro_eval.specs.declared.scope.Eval.{Eval}
use Rattle.macro_eval.specs.declared.scope.Eval.TheVariants.{Got, Need, Fault}
use Rattle.macro_eval.specs.Meaning.{Answer, eval_of_number, function_value, operator_value, whole_number, variable_number, answer_of_look, looked_by, looked_up, then_with, meaning}
use Rattle.tape_flow.specs.declared.flow.Flow.{Flow}
use Rattle.block_order.specs.Moves.{place_of_jump, place_behind_loop, place_of_head}
use Rattle.path_state.specs.View.{Fixed, PathView}
use Rattle.block_values.specs.Readings.{variable_in}
use Rattle.path_state.specs.Looks.{look_of}
use Rattle.block_values.specs.Outcomes.{Outcome, Gives, Needs, Alarms, ◌>>=◌, reading_none, outcome_of_answer}
use Rattle.path_state.specs.Said.{value_of_tree}
use Rattle.block_values.specs.Values.{Values, Sense, nothing_said, values_with, taken_var}
use Rattle.path_state.specs.Said.{sense_of, word_taken, words_taken}
use Rattle.path_state.specs.Said.{argument_taken, arguments_taken}
use Rattle.path_state.specs.Standing.{Standing, standing_of, standing_behind}
use Rattle.block_values.specs.Operands.{variable_or_fault, number_named, length_of, sequence_number}
use Rattle.path_state.specs.Statements.{After, point_along, with_offset, written_path, outcome_of_write, variable_named, outcome_of_assignment, outcome_of_test, outcome_of_aim, move_effect, jump_effect, next_effect, assigned_next, statement_effect}
use Rattle.path_state.specs.Effect.{Effect, Moved, effect_of_words, done_by, effect_of_control, of_moved, of_values, of_arguments, of_purpose, block_of_words, of_after, effect_of_body, effect_of_block, block_at, effect_of}
use Rattle.path_state.specs.Effect as effect
use Rattle.named_vars.specs.Names.{names, some_names, sentence_may_write, sentence_names, word_names, words_name, body_names, found_names, block_names}

-- if an evaluation needs a variable, P holds of it
abbrev OnNeed : (ℕ → Type 0) → Eval → Type 0
OnNeed P (Need n) = P n
OnNeed P (Got v) = Unit {0}
OnNeed P (Fault n) = Unit {0}

-- `table` says what each variable holds. What holds (P) of each variable that is looked up holds of
-- each that an expression needs.
module _ (table : ℕ → Result Look VarFault) (P : ℕ → Type 0) where
  -- if P holds of what each of two evaluations in a row needs, it holds of what both need
  then_needs : (a : Answer) (next : Var → List Var → Answer) → OnNeed P a.0
      → ((v : Var) (left : List Var) → OnNeed P (next v left).0) → OnNeed P (then_with a next).0
  then_needs (Got v, left) next first further = further v left
  then_needs (Need n, left) next first further = first
  then_needs (Fault n, left) next first further = tt

  -- a calculation needs no variable
  made_needs : (r : Result ℤ NumberFault) → OnNeed P (eval_of_number r)
  made_needs (Ok z) = tt
  made_needs (Err fault) = tt

  -- a look at a variable of which P holds needs no other
  seen_needs : (n : ℕ) (found : Result Look VarFault) → P n → (reads : List Var) → OnNeed P (answer_of_look found n reads).0
  seen_needs n (Ok (look.Is v)) said reads = tt
  seen_needs n (Ok look.Shared) said [] = said
  seen_needs n (Ok look.Shared) said (v ∷ left) = tt
  seen_needs n (Err fault) said reads = tt

  -- if P holds of every variable, it holds of the one that a computed number needs
  by_needs : (number : Result ℕ Cause) → ((v : ℕ) → P v) → (reads : List Var) → OnNeed P (looked_by table number reads).0
  by_needs (Ok n) all reads = seen_needs n (table n) (all n) reads
  by_needs (Err cause) all reads = tt

-- if P holds of the variables that an expression names, it holds of the one that it needs
tree_needs : (table : ℕ → Result Look VarFault) (P : ℕ → Type 0) (t : Tree) → ((v : ℕ) → names t v ≡ true → P v)
    → (reads : List Var) → OnNeed P (meaning table t reads).0
tree_needs table P (Number z) all reads = tt
tree_needs table P (Numbered n) all reads = seen_needs table P n (table n) (all n (eq-eqb n n refl)) reads
tree_needs table P (VariableOf e) all reads =
    then_needs table P (meaning table e reads) (looked_up table) (tree_needs table P e (λ v _. all v refl) reads)
    (λ v left. by_needs table P (variable_number v) (λ n. all n refl) left)
tree_needs table P (Signed minus e) all reads =
    then_needs table P (meaning table e reads) _ (tree_needs table P e all reads) (λ v left. tt)
tree_needs table P (Applied f e) all reads =
    then_needs table P (meaning table e reads) _ (tree_needs table P e all reads)
    (λ v left. made_needs table P (function_value f (or_zero v)))
tree_needs table P (Joined op a b) all reads =
    then_needs table P (meaning table a reads) _ (tree_needs table P a (λ v e. all v (rw e refl)) reads)
    (λ v left. then_needs table P (meaning table b left) _
    (tree_needs table P b (λ n e. all n (or_right (names a n) (names b n) e)) left)
    (λ w rest. made_needs table P (operator_value op (or_zero v) (or_zero w))))

-- if a step needs a variable, P holds of it
abbrev Asks : {A : Type 0} → (ℕ → Type 0) → Outcome A → Type 0
Asks P (Gives value left) = Unit {0}
Asks P (Needs variable) = P variable
Asks P (Alarms number value) = Unit {0}

-- if P holds of what each of two steps in a row needs, it holds of what both need
then_asks : {A B : Type 0} (P : ℕ → Type 0) (step : Outcome A) (next : A → List Var → Outcome B)
    → Asks P step → ((value : A) (left : List Var) → Asks P (next value left)) → Asks P (step >>= next)
then_asks P (Needs variable) next first further = first
then_asks P (Alarms number value) next first further = tt
then_asks P (Gives value left) next first further = further value left

-- a step that reads nothing needs no variable
none_asks : {A : Type 0} (P : ℕ → Type 0) (r : Result A Cause) (left : List Var) → Asks P (reading_none r left)
none_asks P (Ok value) left = tt
none_asks P (Err cause) left = tt

-- an answer of an expression needs what the expression needs
answer_asks : (P : ℕ → Type 0) (a : Answer) → OnNeed P a.0 → Asks P (outcome_of_answer a)
answer_asks P (Got v, left) said = tt
answer_asks P (Need n, left) said = said
answer_asks P (Fault n, left) said = tt

-- what one of the first expressions names, one of all does
in_front : (v : ℕ) (xs ys : List Tree) → some_names xs v ≡ true → some_names (xs ++ ys) v ≡ true
in_front v [] ys e = absurd cc
in_front v (x ∷ xs) ys e = go (names x v) refl e (in_front v xs ys)
  where
    go : (b : Bool) → names x v ≡ b → (names x v || some_names xs v) ≡ true
        → (some_names xs v ≡ true → some_names (xs ++ ys) v ≡ true) → (names x v || some_names (xs ++ ys) v) ≡ true
    go true is e further = rw is refl
    go false is e further = or_right (names x v) (some_names (xs ++ ys) v) (further (let rest : (false || some_names xs v) ≡ true = subst (λ b. (b || some_names xs v) ≡ true) is e in rest))

-- what one of the last expressions names, one of all does
behind : (v : ℕ) (xs ys : List Tree) → some_names ys v ≡ true → some_names (xs ++ ys) v ≡ true
behind v [] ys e = e
behind v (x ∷ xs) ys e = or_right (names x v) (some_names (xs ++ ys) v) (behind v xs ys e)

-- what the first expression names, one of all does
first_names : (t : Tree) (trees : List Tree) (v : ℕ) → names t v ≡ true → some_names (t ∷ trees) v ≡ true
first_names t trees v e = rw e refl

-- A path before its block, and a statement P on variables, which holds of those that a part of the
-- block names: then it holds of the one that the part needs.
module _ (fixed : Fixed) (path : PathView) (P : ℕ → Type 0) where
  -- the value of an expression
  value_asks : (t : Tree) → ((v : ℕ) → names t v ≡ true → P v) → (reads : List Var) → Asks P (value_of_tree fixed path t reads)
  value_asks t all reads = answer_asks P (meaning (look_of fixed path) t reads) (tree_needs (look_of fixed path) P t all reads)

  -- the variable of an assignment's left side
  name_asks : (name : Named) → ((v : ℕ) → some_names (evaluated_name name) v ≡ true → P v)
      → (reads : List Var) → Asks P (variable_named fixed path name reads)
  name_asks (Plain n) all reads = none_asks P (variable_or_fault (variable_in path.modal n)) reads
  name_asks (Computed t) all reads =
      then_asks P (value_of_tree fixed path t reads) _ (value_asks t (λ v e. all v (first_names t [] v e)) reads)
      (λ value left. none_asks P (number_named path.modal (variable_number value)) left)

  -- writing an offset
  offset_asks : (slot : Slot) (to : Result Point OffsetFault) (left : List Var)
      → Asks P (written_path (with_offset path slot to) left)
  offset_asks slot (Ok to) left = tt
  offset_asks slot (Err fault) left = tt

  -- writing a variable
  written_asks : (v : Variable) (value : Var) (left : List Var) → Asks P (outcome_of_write fixed path v value left)
  written_asks (variable.Local i) value left = tt
  written_asks (variable.Common v) value left = tt
  written_asks (variable.Work n axis) value left =
      offset_asks (Work n) (in_range (point_along axis (length_of value) (point_at path.offsets (Work n)))) left
  written_asks variable.Raise value left = tt
  written_asks _ value left = tt

  -- an assignment, if it holds of all that its number and its value name
  assigned_asks : (name : Named) (t : Tree) → ((v : ℕ) → some_names (evaluated_name name ++ t ∷ []) v ≡ true → P v)
      → (reads : List Var) → Asks P (assigned_next fixed path name t reads)
  assigned_asks name t all reads =
      then_asks P (outcome_of_assignment fixed path name t reads) _
      (then_asks P (variable_named fixed path name reads) _
      (name_asks name (λ v e. all v (in_front v (evaluated_name name) (t ∷ []) e)) reads)
      (λ variable behind_name. then_asks P (value_of_tree fixed path t behind_name) _
      (value_asks t (λ v e. all v (behind v (evaluated_name name) (t ∷ []) (first_names t [] v e))) behind_name)
      (λ value left. written_asks variable value left)))
      (λ after left. tt)

  -- a condition
  tested_asks : (test : Test) → ((v : ℕ) → some_names (evaluated_test test) v ≡ true → P v)
      → (reads : List Var) → Asks P (outcome_of_test fixed path test reads)
  tested_asks test all reads =
      then_asks P (value_of_tree fixed path test.left reads) _
      (value_asks test.left (λ v e. all v (first_names test.left (test.right ∷ []) v e)) reads)
      (λ left behind_left. then_asks P (value_of_tree fixed path test.right behind_left) _
      (value_asks test.right
      (λ v e. all v (or_right (names test.left v) (some_names (test.right ∷ []) v) (first_names test.right [] v e))) behind_left)
      (λ right rest. tt))

  -- going to a next place
  move_asks : (to : Result (List Frame) Cause) (left : List Var) → Asks P (move_effect path to left)
  move_asks (Ok to) left = tt
  move_asks (Err cause) left = tt

  -- the sequence number of a jump
  aim_asks : (aim : Aim) → ((v : ℕ) → some_names (evaluated_aim aim) v ≡ true → P v)
      → (reads : List Var) → Asks P (outcome_of_aim fixed path aim reads)
  aim_asks (ToNumber n) all reads = tt
  aim_asks (ToNumberOf t) all reads =
      then_asks P (value_of_tree fixed path t reads) _ (value_asks t (λ v e. all v (first_names t [] v e)) reads)
      (λ value left. none_asks P (sequence_number (whole_number value)) left)

  -- a jump
  jump_asks : (tape : List ControlProgram) (aim : Aim) → ((v : ℕ) → some_names (evaluated_aim aim) v ≡ true → P v)
      → (reads : List Var) → Asks P (jump_effect tape fixed path aim reads)
  jump_asks tape aim all reads =
      then_asks P (outcome_of_aim fixed path aim reads) _ (aim_asks aim all reads)
      (λ n left. move_asks (place_of_jump tape n path.place) left)

  -- a condition, and what follows it either way
  test_asks : (test : Test) → ((v : ℕ) → some_names (evaluated_test test) v ≡ true → P v)
      → (reads : List Var) (one other : List Var → Outcome After)
      → ((left : List Var) → Asks P (one left)) → ((left : List Var) → Asks P (other left))
      → Asks P (outcome_of_test fixed path test reads >>= λ holds left. if holds then one left else other left)
  test_asks test all reads one other first second =
      then_asks P (outcome_of_test fixed path test reads) _ (tested_asks test all reads) either
    where
      either : (holds : Bool) (left : List Var) → Asks P (if holds then one left else other left)
      either true left = first left
      either false left = second left

  -- a statement, if it holds of all that it evaluates
  trees_ask : (tape : List ControlProgram) (sentence : Sentence)
      → ((v : ℕ) → some_names (trees_of_sentence sentence) v ≡ true → P v)
      → (reads : List Var) → Asks P (statement_effect tape fixed path sentence reads)
  trees_ask tape (Assign name t) all reads = assigned_asks name t all reads
  trees_ask tape (Goto aim) all reads = jump_asks tape aim all reads
  trees_ask tape (IfGoto test aim) all reads =
      test_asks test (λ v e. all v (in_front v (evaluated_test test) (evaluated_aim aim) e)) reads
      (jump_effect tape fixed path aim) (next_effect path)
      (jump_asks tape aim (λ v e. all v (behind v (evaluated_test test) (evaluated_aim aim) e))) (λ left. tt)
  trees_ask tape (IfThen test name t) all reads =
      test_asks test (λ v e. all v (in_front v (evaluated_test test) (evaluated_name name ++ t ∷ []) e)) reads
      (assigned_next fixed path name t) (next_effect path)
      (assigned_asks name t (λ v e. all v (behind v (evaluated_test test) (evaluated_name name ++ t ∷ []) e))) (λ left. tt)
  trees_ask tape (WhileDo test m) all reads =
      test_asks test all reads (next_effect path) (move_effect path (place_behind_loop tape path.place))
      (λ left. tt) (move_asks (place_behind_loop tape path.place))
  trees_ask tape (DoOnly m) all reads = tt
  trees_ask tape (EndLoop m) all reads = move_asks (place_of_head tape path.place) reads

  -- a statement, if it holds of all that it names
  statement_asks : (tape : List ControlProgram) (sentence : Sentence) → ((v : ℕ) → sentence_names sentence v ≡ true → P v)
      → (reads : List Var) → Asks P (statement_effect tape fixed path sentence reads)
  statement_asks tape sentence all reads =
      trees_ask tape sentence
      (λ v e. all v (or_right (sentence_may_write sentence v) (some_names (trees_of_sentence sentence) v) e)) reads

  -- the value of a word
  word_asks : (sense : Sense) (letter : ℕ) (value : WordValue) → ((v : ℕ) → word_names value v ≡ true → P v)
      → (values : Values) (reads : List Var) → Asks P (word_taken fixed path sense letter value values reads)
  word_asks sense letter (Written literal) all values reads = none_asks P (values_with sense letter literal values) reads
  word_asks sense letter (Evaluated minus t) all values reads =
      then_asks P (value_of_tree fixed path t reads) _ (value_asks t all reads)
      (λ value left. none_asks P (taken_var sense letter minus value values) left)

  -- the values of words
  words_ask : (sense : Sense) (words : List FlowWord) → ((v : ℕ) → words_name words v ≡ true → P v)
      → (values : Values) (reads : List Var) → Asks P (words_taken fixed path sense words values reads)
  words_ask sense [] all values reads = tt
  words_ask sense (w ∷ words) all values reads =
      then_asks P (word_taken fixed path sense w.letter w.value values reads) _
      (word_asks sense w.letter w.value (λ v e. all v (rw e refl)) values reads)
      (λ next left. words_ask sense words (λ v e. all v (or_right (word_names w.value v) (words_name words v) e)) next left)

  -- an argument of a macro call
  argument_asks : (letter : ℕ) (value : WordValue) → ((v : ℕ) → word_names value v ≡ true → P v)
      → (arguments reads : List Var) → Asks P (argument_taken fixed path letter value arguments reads)
  argument_asks letter (Written literal) all arguments reads = tt
  argument_asks letter (Evaluated minus t) all arguments reads =
      then_asks P (value_of_tree fixed path t reads) _ (value_asks t all reads) (λ value left. tt)

  -- the arguments of a macro call
  arguments_ask : (words : List FlowWord) → ((v : ℕ) → words_name words v ≡ true → P v)
      → (arguments reads : List Var) → Asks P (arguments_taken fixed path words arguments reads)
  arguments_ask [] all arguments reads = tt
  arguments_ask (w ∷ words) all arguments reads =
      then_asks P (argument_taken fixed path w.letter w.value arguments reads) _
      (argument_asks w.letter w.value (λ v e. all v (rw e refl)) arguments reads)
      (λ next left. arguments_ask words (λ v e. all v (or_right (word_names w.value v) (words_name words v) e)) next left)

-- if a block needs a variable, P holds of it
abbrev EffectAsks : (ℕ → Type 0) → Effect → Type 0
EffectAsks P (effect.Need variable) = P variable
EffectAsks P _ = Unit {0}

-- A block of a path: if P holds of what its words or its statement need, it holds of what the block
-- needs. Each lemma takes one step of the definition of its effect.
module _ (tape : List ControlProgram) (fixed : Fixed) (path : PathView) (P : ℕ → Type 0) where
  -- the block moves, and goes on
  done-asks : (moved : Moved) (to : Result Standing Cause) → EffectAsks P (done_by moved to)
  done-asks moved (Ok to) = tt
  done-asks moved (Err cause) = tt

  -- the block goes where its control says
  controlled-asks : (moved : Moved) (arguments : Option (List Var)) (c : Control)
      → EffectAsks P (effect_of_control tape moved arguments c)
  controlled-asks moved arguments control.End = tt
  controlled-asks moved arguments c = done-asks moved (standing_behind tape (standing_of moved.path) arguments c)

  -- the block by its motion, or by a fault of it
  moves-ask : (c : Control) (moved : Result Moved ℕ) → EffectAsks P (of_moved tape c moved)
  moves-ask c (Ok moved) = controlled-asks moved None c
  moves-ask c (Err number) = tt

  -- the block by the values of its words
  values-ask : (system : System) (words : List FlowWord) (c : Control) (values : Outcome Values) → Asks P values
      → EffectAsks P (of_values tape fixed path system words c values)
  values-ask system words c (Gives values left) asks = moves-ask c (effect_of_words fixed path system words values)
  values-ask system words c (Needs variable) asks = asks
  values-ask system words c (Alarms number value) asks = tt

  -- a macro call, by its arguments
  call-asks : (c : Control) (arguments : Outcome (List Var)) → Asks P arguments
      → EffectAsks P (of_arguments tape path c arguments)
  call-asks c (Gives arguments left) asks = controlled-asks (record { path = path; moves = [] }) (Some arguments) c
  call-asks c (Needs variable) asks = asks
  call-asks c (Alarms number value) asks = tt

  -- a block that is a statement, by what that comes to
  after-asks : (after : Outcome After) → Asks P after → EffectAsks P (of_after after)
  after-asks (Gives after left) asks = tt
  after-asks (Needs variable) asks = asks
  after-asks (Alarms number value) asks = tt

  -- a block of words, by its purpose
  purpose-asks : (purpose : Purpose) (system : System) (words : List FlowWord) → ((v : ℕ) → words_name words v ≡ true → P v)
      → (c : Control) (reads : List Var) → EffectAsks P (of_purpose tape fixed path purpose system words c reads)
  purpose-asks MacroCall system words all c reads =
      call-asks c (arguments_taken fixed path words all_vacant reads) (arguments_ask fixed path P words all all_vacant reads)
  purpose-asks purpose system words all c reads =
      values-ask system words c (words_taken fixed path (sense_of path purpose system words) words nothing_said reads)
      (words_ask fixed path P (sense_of path purpose system words) words all nothing_said reads)

  -- a block of words, which needs nothing at a wait
  words-ask : (purpose : Purpose) (system : System) (words : List FlowWord) → ((v : ℕ) → words_name words v ≡ true → P v)
      → (c : Control) (reads : List Var) → EffectAsks P (block_of_words tape fixed path purpose system words c reads)
  words-ask purpose system words all (control.Wait code) reads = tt
  words-ask purpose system words all c reads = purpose-asks purpose system words all c reads

  -- a block, by its text
  body-asks : (body : FlowBody) → ((v : ℕ) → body_names body v ≡ true → P v)
      → (c : Control) (reads : List Var) → EffectAsks P (effect_of_body tape fixed path body c reads)
  body-asks (Words words) all c reads = words-ask words.purpose words.dialect.system words.words all c reads
  body-asks (Statement statement) all c reads =
      after-asks (statement_effect tape fixed path (sentence_of statement.statement) reads)
      (statement_asks fixed path P tape (sentence_of statement.statement) all reads)

-- a block that is found asks only for variables that it names
found-asks : (tape : List ControlProgram) (path : PathView) (found : Option FlowBlock) (reads : List Var)
    → EffectAsks (λ v. found_names found v ≡ true) (effect_of_block tape path found reads)
found-asks tape path None reads = tt
found-asks tape path (Some block) reads =
    body-asks tape path.fixed path (λ v. body_names block.body v ≡ true) block.body (λ v e. e) block.control reads

-- the variable that a block needs is one that it names
pub needs_are_named : (flow : Flow) (path : PathView) (reads : List Var) (f : Frame) (stack : List Frame) (v : ℕ)
    → path.place ≡ f ∷ stack → effect_of flow path reads ≡ effect.Need v → block_names flow f.program f.block v ≡ true
needs_are_named flow path reads f stack v at is =
    subst (λ place. found_names (block_at flow.programs place) v ≡ true) at
    (subst (EffectAsks (λ n. found_names (block_at flow.programs path.place) n ≡ true)) is
    (found-asks flow.order path (block_at flow.programs path.place) reads))
