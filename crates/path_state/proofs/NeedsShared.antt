-- What an expression needs is a variable that the paths share, and fewer values were given than it
-- names variables, each mention counted. NeedsStatements and NeedsWords build on it.
use Rattle.std.proofs.Common.{◌≡◌, ℕ, ◌+◌, ◌<◌, ◌≤◌, Bool, true, false, List, [], ◌∷◌, length, Option, Some, None, Result, Ok, Err, ℤ, refl, ap, subst, arith, if◌then◌else◌}
use Rattle.nc_number.specs.declared.cause.Cause.{Cause}
use Rattle.nc_number.specs.declared.fault.NumberFault.{NumberFault}
use Rattle.nc_number.specs.declared.value.Var.{Var}
use Rattle.nc_number.specs.Variables.{or_zero}
use Rattle.common_vars.specs.declared.variable.Variable.{Variable}
use Rattle.common_vars.specs.declared.variable.Variable.TheVariants as variable
use Rattle.common_vars.specs.Common.{value_of}
use Rattle.common_vars.specs.Variables.{variable_of}
use Rattle.common_vars.proofs.VariableNumbers.{what_is_named}
use Rattle.macro_expr.specs.Tree.{Tree, Number, Variable as Named, VariableOf, Signed, Applied, Joined, variables}
use Rattle.macro_eval.specs.declared.scope.Look.{Look}
use Rattle.macro_eval.specs.declared.scope.Look.TheVariants as look
use Rattle.macro_eval.specs.declared.scope.VarFault.{VarFault}
use Rattle.macro_eval.specs.declared.scope.Eval.{Eval}
use Rattle.macro_eval.specs.declared.scope.Eval.TheVariants.{Got, Need, Fault}
use Rattle.macro_eval.specs.Meaning.{Answer, eval_of_number, function_value, operator_value, variable_number, answer_of_look, looked_by, looked_up, then_with, meaning}
use Rattle.macro_eval.proofs.TakenReads.{takes, needs}
use Rattle.modal_state.specs.View.{ModalView}
use Rattle.path_state.specs.View.{Fixed, PathView}
use Rattle.block_values.specs.Readings.{is_there, if_there, variable_in}
use Rattle.path_state.specs.Looks.{is_shared, held_by, look_of}
use Rattle.block_values.specs.Outcomes.{Outcome, Gives, Needs, Alarms, ◌>>=◌, reading_none, outcome_of_answer}
use Rattle.path_state.specs.Said.{value_of_tree}

-- if the evaluation needs a variable, the table says that this variable is shared
abbrev NeedsShared : (ℕ → Result Look VarFault) → Eval → Type 0
NeedsShared table (Need n) = table n ≡ Ok look.Shared
NeedsShared table (Got v) = Unit {0}
NeedsShared table (Fault n) = Unit {0}

-- `table` says of each variable what it holds, or that it is shared. Each lemma says of one part of
-- an evaluation that it needs only variables that the table calls shared.
module _ (table : ℕ → Result Look VarFault) where
  -- two evaluations in a row need a shared variable, if each of them does
  then_needs : (a : Answer) (next : Var → List Var → Answer) → NeedsShared table a.0
      → ((v : Var) (left : List Var) → NeedsShared table (next v left).0)
      → NeedsShared table (then_with a next).0
  then_needs (Got v, left) next first further = further v left
  then_needs (Need n, left) next first further = first
  then_needs (Fault n, left) next first further = tt

  -- a calculation needs no variable
  made_needs : (r : Result ℤ NumberFault) → NeedsShared table (eval_of_number r)
  made_needs (Ok z) = tt
  made_needs (Err fault) = tt

  -- a look at a variable needs it only if the table says that it is shared
  seen_needs : (n : ℕ) (found : Result Look VarFault) → table n ≡ found → (reads : List Var)
      → NeedsShared table (answer_of_look found n reads).0
  seen_needs n (Ok (look.Is v)) is reads = tt
  seen_needs n (Ok look.Shared) is [] = is
  seen_needs n (Ok look.Shared) is (v ∷ left) = tt
  seen_needs n (Err fault) is reads = tt

  -- a look at a variable by its computed number needs it only if it is shared
  by_needs : (number : Result ℕ Cause) (reads : List Var)
      → NeedsShared table (looked_by table number reads).0
  by_needs (Ok n) reads = seen_needs n (table n) refl reads
  by_needs (Err cause) reads = tt

  -- an expression needs a shared variable, if it needs one
  meaning_needs : (t : Tree) (reads : List Var) → NeedsShared table (meaning table t reads).0
  meaning_needs (Number z) reads = tt
  meaning_needs (Named n) reads = seen_needs n (table n) refl reads
  meaning_needs (VariableOf e) reads =
      then_needs (meaning table e reads) (looked_up table) (meaning_needs e reads)
      (λ v left. by_needs (variable_number v) left)
  meaning_needs (Signed minus e) reads =
      then_needs (meaning table e reads) _ (meaning_needs e reads) (λ v left. tt)
  meaning_needs (Applied f e) reads =
      then_needs (meaning table e reads) _ (meaning_needs e reads)
      (λ v left. made_needs (function_value f (or_zero v)))
  meaning_needs (Joined op a b) reads =
      then_needs (meaning table a reads) _ (meaning_needs a reads)
      (λ v left. then_needs (meaning table b left) _ (meaning_needs b left)
      (λ w rest. made_needs (operator_value op (or_zero v) (or_zero w))))

-- a number that names a variable in the system in force names it in the table of all variables
pub named_in_table : (modal : ModalView) (n : ℕ) (v : Variable) → variable_in modal n ≡ Some v → variable_of n ≡ Some v
named_in_table modal n v named = go (variable_of n) named
  where
    held : (found : Variable) (b : Bool) → ◌≡◌ {A = Option Variable} (if b then Some found else None) (Some v)
        → Some found ≡ Some v
    held found true e = e
    held found false e = absurd cc

    go : (o : Option Variable) → if_there modal o ≡ Some v → o ≡ Some v
    go None e = absurd cc
    go (Some found) e = held found (is_there modal found) e

-- if a look says that a variable is shared, it is
looked-shared : (fixed : Fixed) (path : PathView) (n : ℕ) → look_of fixed path n ≡ Ok look.Shared
    → is_shared fixed n ≡ true
looked-shared fixed path n is = go (variable_in path.modal n) refl is
  where
    common : (v : ℕ) (b : Bool) → is_shared fixed v ≡ b
        → ◌≡◌ {A = Result Look VarFault} (if b then Ok look.Shared else Ok (look.Is (value_of v path.own)))
        (Ok look.Shared) → is_shared fixed v ≡ true
    common v true shared e = shared
    common v false shared e = absurd cc

    go : (o : Option Variable) → variable_in path.modal n ≡ o → held_by fixed path o ≡ Ok look.Shared
        → is_shared fixed n ≡ true
    go None named e = absurd cc
    go (Some (variable.Common v)) named e =
        subst (λ k. is_shared fixed k ≡ true) (what_is_named n (variable.Common v) (named_in_table path.modal n (variable.Common v) named)).1
        (common v (is_shared fixed v) refl e)
    go (Some _) named e = absurd cc

-- the step takes at most `most` of the values that were read; if it needs a variable, that is
-- shared, and fewer values were read
abbrev pub Asks : {A : Type 0} → Fixed → ℕ → List Var → Outcome A → Type 0
Asks fixed most reads (Gives value left) = length reads ≤ length left + most
Asks fixed most reads (Needs variable) = (is_shared fixed variable ≡ true) × (length reads < most)
Asks fixed most reads (Alarms number value) = Unit {0}

-- two steps one after another ask for at most as many values as both together
pub then_asks : {A B : Type 0} (fixed : Fixed) (m k most : ℕ) → m + k ≤ most
    → (reads : List Var) (step : Outcome A) (next : A → List Var → Outcome B)
    → Asks fixed m reads step → ((value : A) (left : List Var) → Asks fixed k left (next value left))
    → Asks fixed most reads (step >>= next)
then_asks fixed m k most both reads (Needs variable) next first further =
    (first.0, (let few = first.1 in omega arith))
then_asks fixed m k most both reads (Alarms number value) next first further = tt
then_asks fixed m k most both reads (Gives value left) next first further =
    go (next value left) (further value left)
  where
    go : {B : Type 0} (step : Outcome B) → Asks fixed k left step → Asks fixed most reads step
    go (Gives other rest) more = omega arith
    go (Needs variable) more = (more.0, (let few = more.1 in omega arith))
    go (Alarms number value) more = tt

-- a step that takes no value asks for none
pub none_asks : {A : Type 0} (fixed : Fixed) (most : ℕ) (reads : List Var) (r : Result A Cause)
    → Asks fixed most reads (reading_none r reads)
none_asks fixed most reads (Ok value) = omega arith
none_asks fixed most reads (Err cause) = tt

-- an expression asks for at most as many values as it names variables
pub tree_asks : (fixed : Fixed) (path : PathView) (tree : Tree) (reads : List Var)
    → Asks fixed (variables tree) reads (value_of_tree fixed path tree reads)
tree_asks fixed path tree reads = go (meaning (look_of fixed path) tree reads) refl
  where
    go : (a : Answer) → meaning (look_of fixed path) tree reads ≡ a
        → Asks fixed (variables tree) reads (outcome_of_answer a)
    go (Got v, left) is =
        subst (λ a. length reads ≤ length a.1 + variables tree) is
        (takes (look_of fixed path) tree reads)
    go (Need n, left) is = (
      looked-shared fixed path n
          (subst (λ a. NeedsShared (look_of fixed path) a.0) is (meaning_needs (look_of fixed path) tree reads)),
      needs (look_of fixed path) tree reads n (ap (λ a. a.0) is),
    )
    go (Fault n, left) is = tt
