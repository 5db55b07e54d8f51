-- The code of a macro expression's tree makes of it what the tree means, and fits the stack: it
-- needs one operand more at once than right operands are deep inside one another. For `compile`
-- (src/code.rt) and `evaluate` (src/running.rt).
use Rattle.std.proofs.Common.{◌≡◌, ℕ, suc, ◌+◌, ◌-◌, ◌<◌, List, [], ◌∷◌, Result, refl, sym, ◌∙◌, ap, arith}
use Rattle.std.proofs.lemmas.Bool.Decides.{nat_tests}
use Rattle.nc_number.specs.declared.value.Var.{Var}
use Rattle.macro_expr.specs.Tree.{Tree, Number, Variable, VariableOf, Signed, Applied, Joined, right_depth}
use Rattle.macro_eval.specs.declared.scope.Look.{Look}
use Rattle.macro_eval.specs.declared.scope.VarFault.{VarFault}
use Rattle.macro_eval.specs.declared.scope.Eval.TheVariants.{Got, Need, Fault}
use Rattle.macro_eval.specs.declared.code.Instr.{Instr}
use Rattle.macro_eval.specs.declared.code.Instr.TheVariants as instr
use Rattle.macro_eval.specs.Meaning.{Answer, meaning, then_with}
use Rattle.macro_eval.specs.Postfix.{code_before, postfix, takes, fits, run, tree_of_code, tree_is, IsCode}

-- To go on in two steps is to go on with what the first makes of the value.
then_then : (a : Answer) (f g h : Var → List Var → Answer)
    → ((v : Var) (left : List Var) → f v left ≡ then_with (g v left) h) → then_with a f ≡ then_with (then_with a g) h
then_then (Got v, left) f g h steps = steps v left
then_then (Need n, left) f g h steps = refl
then_then (Fault n, left) f g h steps = refl

-- To go on with the value itself changes nothing.
pub then_ends : (a : Answer) → then_with a (λ v left. (Got v, left)) ≡ a
then_ends (Got v, left) = refl
then_ends (Need n, left) = refl
then_ends (Fault n, left) = refl

-- `table` says what is known of each variable.
module _ (table : ℕ → Result Look VarFault) where
  -- The code of a tree leaves its value on the stack, and goes on.
  runs : (t : Tree) (code : List Instr) (stack reads : List Var) → run table (code_before t code) stack reads
      ≡ then_with (meaning table t reads) (λ v left. run table code (v ∷ stack) left)
  runs (Number z) code stack reads = refl
  runs (Variable n) code stack reads = refl
  runs (VariableOf e) code stack reads =
      runs e (instr.LookUp ∷ code) stack reads ∙ then_then (meaning table e reads) _ _ _ (λ v left. refl)
  runs (Signed minus e) code stack reads =
      runs e (instr.Sign minus ∷ code) stack reads ∙ then_then (meaning table e reads) _ _ _ (λ v left. refl)
  runs (Applied f e) code stack reads =
      runs e (instr.Call f ∷ code) stack reads ∙ then_then (meaning table e reads) _ _ _ (λ v left. refl)
  runs (Joined op a b) code stack reads =
      runs a (code_before b (instr.Join op ∷ code)) stack reads
      ∙ then_then (meaning table a reads) _ _ _ (λ v left.
      runs b (instr.Join op ∷ code) (v ∷ stack) left ∙ then_then (meaning table b left) _ _ _ (λ w left. refl))

  -- The code of a tree runs to what the tree means.
  pub run_is_meaning : (t : Tree) (reads : List Var) → run table (postfix t) [] reads ≡ meaning table t reads
  run_is_meaning t reads = runs t [] [] reads ∙ then_ends (meaning table t reads)

-- `most` is how many operands the stack may hold.
module _ (most : ℕ) where
  -- An instruction that finds its operands leaves one in their place.
  goes_on : (i : Instr) (code : List Instr) (before height : ℕ) → before ≡ takes i + height → height < most
      → fits most (i ∷ code) before ≡ fits most code (suc height)
  goes_on i code before height is room =
      let left : (before - takes i) + 1 ≡ suc height = omega arith in rw left (grind (arith, nat_tests))

  -- The code of a tree, with enough room above what is on the stack, leaves one operand more.
  leaves_one : (t : Tree) (code : List Instr) (height : ℕ) → height + right_depth t < most
      → fits most (code_before t code) height ≡ fits most code (suc height)
  leaves_one (Number z) code height room = goes_on (instr.Number z) code height height (omega arith) (omega arith)
  leaves_one (Variable n) code height room = goes_on (instr.Variable n) code height height (omega arith) (omega arith)
  leaves_one (VariableOf e) code height room =
      leaves_one e (instr.LookUp ∷ code) height room
      ∙ goes_on instr.LookUp code (suc height) height (omega arith) (omega arith)
  leaves_one (Signed minus e) code height room =
      leaves_one e (instr.Sign minus ∷ code) height room
      ∙ goes_on (instr.Sign minus) code (suc height) height (omega arith) (omega arith)
  leaves_one (Applied f e) code height room =
      leaves_one e (instr.Call f ∷ code) height room
      ∙ goes_on (instr.Call f) code (suc height) height (omega arith) (omega arith)
  leaves_one (Joined op a b) code height room =
      leaves_one a (code_before b (instr.Join op ∷ code)) height (omega arith)
      ∙ leaves_one b (instr.Join op ∷ code) (suc height) (omega arith)
      ∙ goes_on (instr.Join op) code (suc (suc height)) height (omega arith) (omega arith)

-- The code of a tree whose right operands are less than 16 deep is sound.
pub is_code : (code : List Instr) (t : Tree) → code ≡ postfix t → right_depth t < 16 → IsCode code
is_code code t is shallow = record {
  written = is ∙ ap postfix (sym (ap tree_of_code is ∙ tree_is t));
  runs = ap (λ xs. fits 16 xs 0) is ∙ leaves_one 16 t [] 0 (omega arith);
}
