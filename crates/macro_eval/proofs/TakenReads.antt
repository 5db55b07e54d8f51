-- Each variable of a macro expression takes at most one read of a shared variable, and a read is
-- needed only if fewer were given than it names variables. For the law of src/running.rt.
use Rattle.std.proofs.Common.{◌≡◌, ℕ, suc, ◌+◌, ◌<◌, ◌≤◌, List, [], ◌∷◌, length, Result, Ok, Err, ℤ, ap, arith}
use Rattle.nc_number.specs.declared.cause.Cause.{Cause}
use Rattle.nc_number.specs.declared.fault.NumberFault.{NumberFault}
use Rattle.nc_number.specs.declared.value.Var.{Var}
use Rattle.nc_number.specs.Variables.{or_zero}
use Rattle.macro_expr.specs.Tree.{Tree, Number, Variable, VariableOf, Signed, Applied, Joined, variables}
use Rattle.macro_eval.specs.declared.scope.Look.{Look}
use Rattle.macro_eval.specs.declared.scope.Look.TheVariants as look
use Rattle.macro_eval.specs.declared.scope.VarFault.{VarFault}
use Rattle.macro_eval.specs.declared.scope.Eval.{Eval}
use Rattle.macro_eval.specs.declared.scope.Eval.TheVariants.{Got, Need, Fault}
use Rattle.macro_eval.specs.Meaning.{Answer, eval_of_number, function_value, operator_value, variable_number, answer_of_look, looked_by, looked_up, then_with, meaning}

-- One more than the reads that are left, or 0 if a read is needed.
abbrev spare : Eval → ℕ → ℕ
spare (Need n) left = 0
spare (Got v) left = suc left
spare (Fault n) left = suc left

-- The spare reads are at most one more than the reads that are left.
spare_most : (e : Eval) (left : ℕ) → spare e left ≤ suc left
spare_most (Need n) left = omega arith
spare_most (Got v) left = omega arith
spare_most (Fault n) left = omega arith

-- The answer takes at most so many reads.
abbrev Takes : ℕ → List Var → Answer → Type 0
Takes most reads a = length reads < spare a.0 (length a.1) + most

-- What goes on with a value takes at most what both take.
then_takes : (m k most : ℕ) → m + k ≡ most → (reads : List Var) (a : Answer) (next : Var → List Var → Answer)
    → Takes m reads a → ((v : Var) (left : List Var) → Takes k left (next v left)) → Takes most reads (then_with a next)
then_takes m k most both reads (Got v, left) next first further = let more = further v left in omega arith
then_takes m k most both reads (Need v, left) next first further = omega arith
then_takes m k most both reads (Fault v, left) next first further = omega arith

-- A calculated number takes no read.
of_made : (reads : List Var) (r : Result ℤ NumberFault) → Takes 0 reads (eval_of_number r, reads)
of_made reads (Ok z) = omega arith
of_made reads (Err fault) = omega arith

-- A look at a variable takes one read at most.
seen_takes : (looked : Result Look VarFault) (n : ℕ) (reads : List Var) → Takes 1 reads (answer_of_look looked n reads)
seen_takes (Ok (look.Is v)) n reads = omega arith
seen_takes (Ok look.Shared) n [] = omega arith
seen_takes (Ok look.Shared) n (v ∷ left) = omega arith
seen_takes (Err fault) n reads = omega arith

-- `table` says what is known of each variable.
module _ (table : ℕ → Result Look VarFault) where
  -- A look at a variable whose number was calculated takes one read at most.
  by_takes : (number : Result ℕ Cause) (reads : List Var) → Takes 1 reads (looked_by table number reads)
  by_takes (Ok n) reads = seen_takes (table n) n reads
  by_takes (Err cause) reads = omega arith

  -- A tree takes at most one read for each variable that it names.
  meaning_takes : (t : Tree) (reads : List Var) → Takes (variables t) reads (meaning table t reads)
  meaning_takes (Number z) reads = omega arith
  meaning_takes (Variable n) reads = seen_takes (table n) n reads
  meaning_takes (VariableOf e) reads =
      then_takes (variables e) 1 _ (omega arith) reads (meaning table e reads) (looked_up table) (meaning_takes e reads)
      (λ v left. by_takes (variable_number v) left)
  meaning_takes (Signed minus e) reads =
      then_takes (variables e) 0 _ (omega arith) reads (meaning table e reads) _ (meaning_takes e reads)
      (λ v left. omega arith)
  meaning_takes (Applied f e) reads =
      then_takes (variables e) 0 _ (omega arith) reads (meaning table e reads) _ (meaning_takes e reads)
      (λ v left. of_made left (function_value f (or_zero v)))
  meaning_takes (Joined op a b) reads =
      then_takes (variables a) (variables b) _ (omega arith) reads (meaning table a reads) _ (meaning_takes a reads)
      (λ v left. then_takes (variables b) 0 _ (omega arith) left (meaning table b left) _ (meaning_takes b left)
      (λ w left. of_made left (operator_value op (or_zero v) (or_zero w))))

  -- A tree takes at most one read for each variable that it names.
  pub takes : (t : Tree) (reads : List Var) → length reads ≤ length (meaning table t reads).1 + variables t
  takes t reads =
      omega (arith, meaning_takes t reads, spare_most (meaning table t reads).0 (length (meaning table t reads).1))

  -- A read is needed only if fewer were given than the tree names variables.
  pub needs : (t : Tree) (reads : List Var) (n : ℕ) → (meaning table t reads).0 ≡ Need n → length reads < variables t
  needs t reads n is =
      let none = ap (λ e. spare e (length (meaning table t reads).1)) is in omega (arith, meaning_takes t reads, none)
