-- Postfix code of macro expressions (each operator after its operands), and what a machine with a
-- stack of operands makes of it. The contracts of src/code.rt, code_list.rt, stepping.rt and
-- running.rt. A new instruction needs its row in each function here.
use Rattle.std.specs.Prelude.{◌≡◌, ℕ, ◌+◌, ◌-◌, ◌==◌, ◌&&◌, nat_le, Bool, true, List, [], ◌∷◌, Result, pos, refl}
use Rattle.std.proofs.Common.{◌∙◌, ap}
use Rattle.nc_number.specs.declared.value.Var.{Var}
use Rattle.nc_number.specs.declared.value.Var.TheVariants.{Vacant, Is}
use Rattle.macro_expr.specs.Tree.{Tree, Number, Variable, VariableOf, Signed, Applied, Joined}
use Rattle.macro_eval.specs.declared.scope.Look.{Look}
use Rattle.macro_eval.specs.declared.scope.VarFault.{VarFault}
use Rattle.macro_eval.specs.declared.scope.Eval.TheVariants.{Got, Fault}
use Rattle.macro_eval.specs.declared.code.Instr.{Instr}
use Rattle.macro_eval.specs.declared.code.Instr.TheVariants as instr
use Rattle.macro_eval.specs.declared.code.TheConstants.{OPERANDS}
use Rattle.macro_eval.specs.Meaning.{Answer, looked_at, looked_up, value_with_sign, value_of_function, value_of_operator, then_with}

-- The code of a tree, its operands first, before the code that goes on with it.
abbrev pub code_before : Tree → List Instr → List Instr
code_before (Number z) code = instr.Number z ∷ code
code_before (Variable n) code = instr.Variable n ∷ code
code_before (VariableOf e) code = code_before e (instr.LookUp ∷ code)
code_before (Signed minus e) code = code_before e (instr.Sign minus ∷ code)
code_before (Applied f e) code = code_before e (instr.Call f ∷ code)
code_before (Joined op a b) code = code_before a (code_before b (instr.Join op ∷ code))

-- The code of a tree.
abbrev pub postfix : Tree → List Instr
postfix t = code_before t []

-- What an instruction makes of the trees on a stack, of which the last one is first; without its
-- operands it leaves them.
abbrev pub trees_with : Instr → List Tree → List Tree
trees_with (instr.Number z) trees = Number z ∷ trees
trees_with (instr.Variable n) trees = Variable n ∷ trees
trees_with instr.LookUp (e ∷ trees) = VariableOf e ∷ trees
trees_with (instr.Sign minus) (e ∷ trees) = Signed minus e ∷ trees
trees_with (instr.Call f) (e ∷ trees) = Applied f e ∷ trees
trees_with (instr.Join op) (b ∷ a ∷ trees) = Joined op a b ∷ trees
trees_with i trees = trees

-- What the code makes of the trees on a stack.
abbrev pub trees_after : List Instr → List Tree → List Tree
trees_after [] trees = trees
trees_after (i ∷ code) trees = trees_after code (trees_with i trees)

-- The tree on top of the stack; without one, the number 0.
abbrev pub first_tree : List Tree → Tree
first_tree [] = Number (pos 0)
first_tree (e ∷ trees) = e

-- The tree whose code the instructions are.
abbrev pub tree_of_code : List Instr → Tree
tree_of_code code = first_tree (trees_after code [])

-- The code of a tree puts it on the stack, and goes on.
built_is : (t : Tree) (code : List Instr) (trees : List Tree)
    → trees_after (code_before t code) trees ≡ trees_after code (t ∷ trees)
built_is (Number z) code trees = refl
built_is (Variable n) code trees = refl
built_is (VariableOf e) code trees = built_is e (instr.LookUp ∷ code) trees
built_is (Signed minus e) code trees = built_is e (instr.Sign minus ∷ code) trees
built_is (Applied f e) code trees = built_is e (instr.Call f ∷ code) trees
built_is (Joined op a b) code trees =
    built_is a (code_before b (instr.Join op ∷ code)) trees ∙ built_is b (instr.Join op ∷ code) (a ∷ trees)

-- The code of a tree gives it back.
pub tree_is : (t : Tree) → tree_of_code (postfix t) ≡ t
tree_is t = ap first_tree (built_is t [] [])

-- How many operands an instruction takes.
abbrev pub takes : Instr → ℕ
takes (instr.Number z) = 0
takes (instr.Variable n) = 0
takes instr.LookUp = 1
takes (instr.Sign minus) = 1
takes (instr.Call f) = 1
takes (instr.Join op) = 2

-- With `height` operands on the stack the code finds its operands, never has more than `most`
-- there, and leaves one.
abbrev pub fits : ℕ → List Instr → ℕ → Bool
fits most [] height = height == 1
fits most (i ∷ code) height =
    (nat_le (takes i) height && nat_le ((height - takes i) + 1) most) && fits most code ((height - takes i) + 1)

-- Code that is a tree's, and finds room for its operands.
pub record IsCode (code : List Instr) : Type 0 where
  -- It is the code of its tree.
  pub written : code ≡ postfix (tree_of_code code)
  -- Each instruction finds its operands, and at most 16 are on the stack at once.
  pub runs : fits OPERANDS code 0 ≡ true

-- One instruction on the stack, its last operand first: its answer, and the stack below. Without
-- its operands the answer is a fault with no number, which code that fits never comes to.
abbrev pub step : (ℕ → Result Look VarFault) → Instr → List Var → List Var → Answer × List Var
step table (instr.Number z) stack reads = ((Got (Is z), reads), stack)
step table (instr.Variable n) stack reads = (looked_at table n reads, stack)
step table instr.LookUp (v ∷ stack) reads = (looked_up table v reads, stack)
step table (instr.Sign minus) (v ∷ stack) reads = ((value_with_sign minus v, reads), stack)
step table (instr.Call f) (v ∷ stack) reads = ((value_of_function f v, reads), stack)
step table (instr.Join op) (w ∷ v ∷ stack) reads = ((value_of_operator op v w, reads), stack)
step table i stack reads = ((Fault 0, reads), stack)

-- The value on top of the stack, or vacant if there is none.
abbrev pub top : List Var → Var
top [] = Vacant
top (v ∷ stack) = v

-- The answer of instructions one after another, and the reads that are left; the first need or
-- alarm ends them.
abbrev pub run : (ℕ → Result Look VarFault) → List Instr → List Var → List Var → Answer
run table [] stack reads = (Got (top stack), reads)
run table (i ∷ code) stack reads =
    then_with (step table i stack reads).0 (λ v left. run table code (v ∷ (step table i stack reads).1) left)
