-- Which variables the instructions of an expression's code read. One whose number is computed may
-- be any. named_vars says the same of the expression's tree.
-- For this crate alone: src/naming.rt looks through codes, since a block keeps no trees.
use Rattle.std.specs.Prelude.{ℕ, ◌==◌, ◌||◌, Bool, true, false, List, [], ◌∷◌}
use Rattle.macro_eval.specs.declared.code.Instr.{Instr}
use Rattle.macro_eval.specs.declared.code.Instr.TheVariants.{Variable, LookUp}

-- the instruction reads the variable, or one whose number is computed
abbrev pub may_read : Instr → ℕ → Bool
may_read (Variable n) v = n == v
may_read LookUp v = true
may_read other v = false

-- some instruction of the code may read the variable
abbrev pub some_read : List Instr → ℕ → Bool
some_read [] v = false
some_read (i ∷ code) v = may_read i v || some_read code v
