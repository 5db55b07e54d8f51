-- The variables of the control, and their numbers. Src/variable.rt has the same table.
use Rattle.std.specs.Prelude.{◌≡◌, ℕ, ◌+◌, ◌*◌, ◌≤◌, ◌⊎◌, Bool, true, false, ◌&&◌, nat_le, List, [], ◌∷◌, find, Option, option_map}
use Rattle.common_vars.specs.declared.variable.AxisLetter.{AxisLetter}
use Rattle.common_vars.specs.declared.variable.AxisLetter.TheVariants.{X, Z}
use Rattle.common_vars.specs.declared.variable.Variable.{Variable}
use Rattle.common_vars.specs.declared.variable.Variable.TheVariants.{Null, Local, Common, Code, Feed, Speed, Tool, Programmed, Machine, Work, Raise}
use Rattle.common_vars.specs.Common.{IsCommon}

-- the numbers from the first to the last, each with what it names
pub record Row : Type 0 where
  -- the first number of the row
  pub first : ℕ
  -- the last number of the row
  pub last : ℕ
  -- what a number of the row names
  pub variable : ℕ → Variable

-- a row of all numbers from first to last
abbrev pub range : ℕ → ℕ → (ℕ → Variable) → Row
range first last variable = record { first = first; last = last; variable = variable }

-- a row of one number
abbrev pub one : ℕ → Variable → Row
one number variable = range number number (λ n. variable)

-- the table of all variables. 4001 and on are modal codes by their group, 5001 and on positions,
-- 5201 and on the work offsets, 20 numbers each.
abbrev pub variable_rows : List Row
variable_rows =
    one 0 Null ∷ range 1 33 Local ∷ range 100 199 Common ∷ range 500 999 Common ∷ one 3000 Raise
    ∷ one 4001 (Code 1) ∷ one 4002 (Code 2) ∷ one 4003 (Code 3) ∷ one 4005 (Code 5) ∷ one 4006 (Code 6)
    ∷ one 4007 (Code 7) ∷ one 4014 (Code 14)
    ∷ one 4109 Feed ∷ one 4119 Speed ∷ one 4120 Tool
    ∷ one 5001 (Programmed X) ∷ one 5002 (Programmed Z) ∷ one 5021 (Machine X) ∷ one 5022 (Machine Z)
    ∷ one 5201 (Work 0 X) ∷ one 5202 (Work 0 Z) ∷ one 5221 (Work 1 X) ∷ one 5222 (Work 1 Z)
    ∷ one 5241 (Work 2 X) ∷ one 5242 (Work 2 Z) ∷ one 5261 (Work 3 X) ∷ one 5262 (Work 3 Z)
    ∷ one 5281 (Work 4 X) ∷ one 5282 (Work 4 Z) ∷ one 5301 (Work 5 X) ∷ one 5302 (Work 5 Z)
    ∷ one 5321 (Work 6 X) ∷ one 5322 (Work 6 Z) ∷ []

-- the row has the number
abbrev pub is_in : ℕ → Row → Bool
is_in number row = nat_le row.first number && nat_le number row.last

-- what a number names by these rows, if it names a variable
abbrev pub named_in : List Row → ℕ → Option Variable
named_in rows number = option_map (λ row. row.variable number) (find (is_in number) rows)

-- what a number names, if it names a variable
unfoldable pub variable_of : ℕ → Option Variable
variable_of number = named_in variable_rows number

-- the place of an axis among the numbers of a position
abbrev pub axis_place : AxisLetter → ℕ
axis_place X = 1
axis_place Z = 2

-- the number of a variable: a modal code is 4000 and its group, a position 5000 or 5020 and the
-- place of its axis, a work offset 5200, 20 for each offset, and the place of its axis
abbrev pub number_of : Variable → ℕ
number_of Null = 0
number_of (Local i) = i
number_of (Common v) = v
number_of (Code group) = 4000 + group
number_of Feed = 4109
number_of Speed = 4119
number_of Tool = 4120
number_of (Programmed axis) = 5000 + axis_place axis
number_of (Machine axis) = 5020 + axis_place axis
number_of (Work n axis) = 5200 + 20 * n + axis_place axis
number_of Raise = 3000

-- the modal groups whose code can be read, in a system that has the group
abbrev pub IsModalGroup : ℕ → Type 0
IsModalGroup group = (group ≡ 1) ⊎ (group ≡ 2) ⊎ (group ≡ 3) ⊎ (group ≡ 5) ⊎ (group ≡ 6) ⊎ (group ≡ 7) ⊎ (group ≡ 14)

-- the control has such a variable: its number is one of its kind
abbrev pub IsVariable : Variable → Type 0
IsVariable (Local i) = (1 ≤ i) × (i ≤ 33)
IsVariable (Common v) = IsCommon v
IsVariable (Code group) = IsModalGroup group
IsVariable (Work n axis) = n ≤ 6
IsVariable _ = Unit {0}

-- the variable is a coordinate of the external work offset (0) or of one of G54 to G59 (1 to 6)
abbrev pub IsWorkOffset : Variable → Type 0
IsWorkOffset (Work n axis) = n ≤ 6
IsWorkOffset _ = ⊥

-- writing the variable is the alarm `Protected`; that of writing #3000 is the program's own
abbrev pub is_protected : Variable → Bool
is_protected Null = true
is_protected (Local i) = false
is_protected (Common v) = false
is_protected (Code group) = true
is_protected Feed = true
is_protected Speed = true
is_protected Tool = true
is_protected (Programmed axis) = true
is_protected (Machine axis) = true
is_protected (Work n axis) = false
is_protected Raise = false

-- reading the variable is no alarm
abbrev pub is_readable : Variable → Bool
is_readable Raise = false
is_readable _ = true
