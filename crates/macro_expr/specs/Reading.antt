-- Reading a macro expression from left to right: its tree, or the cause at the first place where
-- reading fails. src/reading.rt computes it. The proofs of this crate show that the trees are
-- exactly those of the grammar. Bytes: 35 is `#`, 91 `[`.
use Rattle.std.specs.Prelude.{ℕ, zero, suc, ◌/◌, ◌==◌, Bool, List, length, Option, Some, None, Result, Ok, Err, ℤ, unsigned_abs, codes, if◌then◌else◌}
use Rattle.std.specs.Char.{is_ascii_digit}
use Rattle.nc_number.specs.Literals.{is_literal, has_too_many_digits, literal_micro}
use Rattle.nc_number.specs.Results.{◌>>=◌}
use Rattle.macro_expr.specs.declared.stop.Stop.{Stop}
use Rattle.macro_expr.specs.declared.stop.Stop.TheVariants as stop
use Rattle.macro_expr.specs.declared.words.Rank.{Rank}
use Rattle.macro_expr.specs.declared.words.Rank.TheVariants.{Product, Sum}
use Rattle.macro_expr.specs.declared.tree.Fun.{Fun}
use Rattle.macro_expr.specs.declared.tree.Op.{Op}
use Rattle.macro_expr.specs.Tree.{Tree, Number, Named, Fixed, Computed, look, Signed, Applied, Joined}
use Rattle.macro_expr.specs.Words.{text_behind, operator, sign, function_of, is_letter, is_number_byte, run, behind_run, begins}

-- a value that was read and the text after it, or why reading stops
abbrev pub Read : Type 0 → Type 0
Read A = Result (A × List ℕ) Stop

-- the text after a word that must stand here, or that this is no expression
abbrev pub text_after_word : Option (List ℕ) → Result (List ℕ) Stop
text_after_word None = Err stop.Expression
text_after_word (Some rest) = Ok rest

-- the text after this word, which must stand here
unfoldable pub word_at : List ℕ → List ℕ → Result (List ℕ) Stop
word_at word text = text_after_word (text_behind word text)

-- the value of a literal in 0.000001; reading stops if it is none, or has too many digits
unfoldable pub literal_of : List ℕ → Result ℤ Stop
literal_of digits =
    if is_literal digits
    then (if has_too_many_digits digits then Err stop.Expression else Ok (literal_micro digits))
    else Err stop.Expression

-- a number without a sign, and the text after it
unfoldable pub number_at : List ℕ → Read Tree
number_at text = do
  micro ← literal_of (run is_number_byte text)
  Ok (Number micro, behind_run is_number_byte text)

-- a whole number without sign and point, and the text after it
unfoldable pub digits_at : List ℕ → Read ℕ
digits_at text = do
  micro ← literal_of (run is_ascii_digit text)
  Ok (unsigned_abs micro / 1000000, behind_run is_ascii_digit text)

-- an expression in brackets, if inner reads the expression
unfoldable pub bracket_at : (List ℕ → Read Tree) → List ℕ → Read Tree
bracket_at inner text = do
  expression_inside ← word_at (codes "[") text
  e ← inner expression_inside
  rest ← word_at (codes "]") e.1
  Ok (e.0, rest)

-- the number of a variable after its `#`: digits, or an expression in brackets
unfoldable pub variable_behind : (List ℕ → Read Tree) → List ℕ → Read Named
variable_behind inner text =
    if begins is_ascii_digit text
    then (digits_at text >>= λ n. Ok (Fixed n.0, n.1))
    else (bracket_at inner text >>= λ e. Ok (Computed e.0, e.1))

-- a variable: `#` and its number, or `#` and an expression in brackets
unfoldable pub variable_at : (List ℕ → Read Tree) → List ℕ → Read Named
variable_at inner text = do
  rest ← word_at (codes "#") text
  variable_behind inner rest

-- a function's brackets, once its name was read; letters that name none stop the reading
abbrev pub function_reading : (List ℕ → Read Tree) → Option Fun → List ℕ → Read Tree
function_reading inner None text = Err stop.Function
function_reading inner (Some f) text = do
  e ← bracket_at inner text
  Ok (Applied f e.0, e.1)

-- a function and its brackets
unfoldable pub function_at : (List ℕ → Read Tree) → List ℕ → Read Tree
function_at inner text = function_reading inner (function_of (run is_letter text)) (behind_run is_letter text)

-- what an operator joins: a number, a variable, a function, or an expression in brackets
unfoldable pub prim_at : (List ℕ → Read Tree) → List ℕ → Read Tree
prim_at inner text =
    if begins (λ b. b == 35) text then (variable_at inner text >>= λ v. Ok (look v.0, v.1))
    else if begins (λ b. b == 91) text then bracket_at inner text
    else if begins is_letter text then function_at inner text
    else number_at text

-- an operand after the sign that was found, or without one
abbrev pub signed_by : (List ℕ → Read Tree) → Option (Bool × List ℕ) → List ℕ → Read Tree
signed_by inner None text = prim_at inner text
signed_by inner (Some found) text = do
  e ← prim_at inner found.1
  Ok (Signed found.0 e.0, e.1)

-- the first operand of a sum: with its sign, if it has one
unfoldable pub signed_at : (List ℕ → Read Tree) → List ℕ → Read Tree
signed_at inner text = signed_by inner (sign text) text

-- what the operator that was found joins to left, and then what next makes of both; without an
-- operator left stands alone
abbrev pub joined_by : Tree → List ℕ → Option (Op × List ℕ) → (List ℕ → Read Tree) → (Tree → List ℕ → Read Tree)
    → Read Tree
joined_by left text None operand next = Ok (left, text)
joined_by left text (Some found) operand next = do
  right ← operand found.1
  next (Joined found.0 left right.0) right.1

-- at most so many operators of one rank, and what they join to left, from left to right
unfoldable pub chain : (List ℕ → Option (Op × List ℕ)) → (List ℕ → Read Tree) → ℕ → Tree → List ℕ → Read Tree
chain operator operand zero left text = Ok (left, text)
chain operator operand (suc n) left text = joined_by left text (operator text) operand (chain operator operand n)

-- a product: its operators join prims
unfoldable pub product_at : (List ℕ → Read Tree) → List ℕ → Read Tree
product_at inner text = do
  first ← prim_at inner text
  chain (operator Product) (prim_at inner) (length first.1) first.0 first.1

-- what stands between the operators of a rank: operands in a product, products in a sum
abbrev pub operand_at : Rank → (List ℕ → Read Tree) → List ℕ → Read Tree
operand_at Product inner = prim_at inner
operand_at Sum inner = product_at inner

-- all operators of a rank and what they join to left
abbrev pub chain_at : Rank → (List ℕ → Read Tree) → Tree → List ℕ → Read Tree
chain_at rank inner left text = chain (operator rank) (operand_at rank inner) (length text) left text

-- a sum: the chain of its terms, of which the first one may have a sign
unfoldable pub sum_at : (List ℕ → Read Tree) → List ℕ → Read Tree
sum_at inner text = do
  first ← signed_at inner text
  product ← chain_at Product inner first.0 first.1
  chain_at Sum inner product.0 product.1

-- an expression whose brackets nest less than this number deep
unfoldable pub expression_inside : ℕ → List ℕ → Read Tree
expression_inside zero text = Err stop.Expression
expression_inside (suc n) text = sum_at (expression_inside n) text
