-- The arguments of a macro call (G65): which local variable each address sets, and to which value.
-- The contracts of src/arguments.rt cite all of it.
use Rattle.std.specs.Prelude.{ℕ, Bool, ◌-◌, ◌==◌, ◌&&◌, not, List, [], ◌∷◌, Option, Some, None, Result, ℤ, pos, int_div, slice_set, codes, if◌then◌else◌}
use Rattle.nc_number.specs.declared.literal.Literal.{Literal}
use Rattle.nc_number.specs.declared.value.Var.{Var}
use Rattle.nc_number.specs.declared.value.Var.TheVariants.{Vacant, Is}
use Rattle.block_words.specs.declared.word.FlowWord.{FlowWord}
use Rattle.block_words.specs.declared.word.WordValue.{WordValue}
use Rattle.block_words.specs.declared.word.WordValue.TheVariants.{Fixed as Written, Computed}
use Rattle.block_words.specs.Words.{is_one_of}
use Rattle.macro_eval.specs.declared.scope.Look.{Look}
use Rattle.macro_eval.specs.declared.scope.VarFault.{VarFault}
use Rattle.block_values.specs.Outcomes.{Outcome, Gives, ◌>>=◌, value_with}
use Rattle.block_values.specs.Values.{computed_literal}

-- the number that stands in the second list where this letter stands in the first
abbrev pub number_beside : List ℕ → List ℕ → ℕ → Option ℕ
number_beside [] numbers letter = None
number_beside (own ∷ letters) [] letter = None
number_beside (own ∷ letters) (number ∷ numbers) letter =
    if own == letter then Some number else number_beside letters numbers letter

-- the local variable of an address of a macro call: below each letter stands its number
abbrev pub local_of : ℕ → Option ℕ
local_of letter =
    number_beside (codes "ABCDEFHIJKMQRSTUVWXYZ")
    (1 ∷ 2 ∷ 3 ∷ 7 ∷ 8 ∷ 9 ∷ 11 ∷ 4 ∷ 5 ∷ 6 ∷ 13 ∷ 17 ∷ 18 ∷ 19 ∷ 20 ∷ 21 ∷ 22 ∷ 23 ∷ 24 ∷ 25 ∷ 26 ∷ []) letter

-- the value of an argument, in 0.000001: a number without a point counts thousandths for X, Z, U,
-- W, I, K and R, and whole units for every other letter
abbrev pub argument : ℕ → Literal → ℤ
argument letter literal =
    if not literal.point && is_one_of (codes "XZUWIKR") letter then int_div literal.value (pos 1000) else literal.value

-- the list of local variables, with this value in the variable of this number, if there is a number
abbrev pub with_argument : Option ℕ → ℤ → List Var → List Var
with_argument None value arguments = arguments
with_argument (Some i) value arguments = slice_set arguments (i - 1) (Is value)

-- the list of local variables, with a computed value in the variable of this address; a vacant
-- value sets none
abbrev pub with_var : ℕ → Bool → Var → List Var → List Var
with_var letter minus Vacant arguments = arguments
with_var letter minus (Is value) arguments = with_argument (local_of letter) (argument letter (computed_literal minus value)) arguments

-- the local variables behind one argument, by what a table says of each variable
abbrev pub argument_with : (ℕ → Result Look VarFault) → ℕ → WordValue → List Var → List Var → Outcome (List Var)
argument_with table letter (Written literal) arguments reads =
    Gives (with_argument (local_of letter) (argument letter literal) arguments) reads
argument_with table letter (Computed minus tree) arguments reads =
    value_with table tree reads >>= λ value left. Gives (with_var letter minus value arguments) left

-- the local variables behind all arguments, each evaluated before the next; a vacant one sets none
abbrev pub arguments_with : (ℕ → Result Look VarFault) → List FlowWord → List Var → List Var → Outcome (List Var)
arguments_with table [] arguments reads = Gives arguments reads
arguments_with table (word ∷ words) arguments reads =
    argument_with table word.letter word.value arguments reads >>= λ next left. arguments_with table words next left
