-- Code of macro expressions that needs no stack: an operand alone, and two operands with their
-- operator. For the two short ways of `evaluate` (src/running.rt).
use Rattle.std.proofs.Common.{◌≡◌, ℕ, ◌≤◌, ◌<◌, List, [], ◌∷◌, length, get_or, Result, refl, ◌∙◌, ap, arith}
use Rattle.nc_number.specs.declared.value.Var.{Var}
use Rattle.macro_eval.specs.declared.code.Instr.{Instr}
use Rattle.macro_eval.specs.declared.scope.Look.{Look}
use Rattle.macro_eval.specs.declared.scope.VarFault.{VarFault}
use Rattle.macro_eval.specs.Meaning.{Answer, then_with}
use Rattle.macro_eval.specs.Postfix.{step, run}
use Rattle.macro_eval.proofs.Compiled.{then_ends}

-- A code of one instruction is that instruction.
pub one_is : (code : List Instr) (a : Instr) → 1 ≤ length code → length code < 2 → code ≡ get_or code 0 a ∷ []
one_is [] a most least = absurd (omega (arith, most))
one_is (i ∷ []) a most least = refl
one_is (i ∷ j ∷ code) a most least = absurd (omega (arith, least))

-- A code of three instructions is these three.
pub three_are : (code : List Instr) (a b c : Instr) → 3 ≤ length code → length code < 4
    → code ≡ get_or code 0 a ∷ get_or code 1 b ∷ get_or code 2 c ∷ []
three_are [] a b c most least = absurd (omega (arith, most))
three_are (i ∷ []) a b c most least = absurd (omega (arith, most))
three_are (i ∷ j ∷ []) a b c most least = absurd (omega (arith, most))
three_are (i ∷ j ∷ k ∷ []) a b c most least = refl
three_are (i ∷ j ∷ k ∷ l ∷ code) a b c most least = absurd (omega (arith, least))

-- The code of one instruction answers what that instruction gives.
pub alone_runs : (table : ℕ → Result Look VarFault) (i : Instr) (reads : List Var) (a : Answer)
    → step table i [] reads ≡ (a, []) → run table (i ∷ []) [] reads ≡ a
alone_runs table i reads a is =
    ap (λ s. then_with s.0 (λ v left. run table [] (v ∷ s.1) left)) is ∙ then_ends a
