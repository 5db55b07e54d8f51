-- The grammar of macro expressions and statements: which trees a cleaned text has. The reader gives
-- exactly these trees (proofs/Sound, Complete, StatementsSound and StatementsComplete).
use Rattle.std.specs.Prelude.{◌≡◌, ℕ, zero, suc, ◌/◌, ◌≤◌, Bool, true, false, List, [], ◌∷◌, ◌++◌, ℤ, unsigned_abs, codes, ◌⊎◌}
use Rattle.std.specs.Char.{is_ascii_digit}
use Rattle.std.specs.List.{list_all}
use Rattle.nc_number.specs.declared.limits.TheConstants.{LAST_SEQUENCE, MOST_BRACKETS}
use Rattle.nc_number.specs.Literals.{is_literal, has_too_many_digits, literal_micro}
use Rattle.macro_expr.specs.declared.tree.Fun.{Fun}
use Rattle.macro_expr.specs.declared.tree.Op.{Op}
use Rattle.macro_expr.specs.declared.tree.Rel.{Rel}
use Rattle.macro_expr.specs.declared.words.Rank.{Rank}
use Rattle.macro_expr.specs.declared.words.Rank.TheVariants as rank
use Rattle.macro_expr.specs.Tree.{Tree, Number, Named, Fixed, Computed, look, Signed, Applied, Joined, Test, Aim, ToNumber, ToNumberOf, Sentence, Assign, Goto, IfGoto, IfThen, WhileDo, DoOnly, EndLoop}
use Rattle.macro_expr.specs.Words.{operator_words, sign_words, function_words, relation_words, loop_words, is_number_byte}

-- the text is a word of the table, with this meaning
abbrev pub IsWord : {A : Type 0} → List (List ℕ × A) → List ℕ → A → Type 0
IsWord [] t meaning = ⊥
IsWord (w ∷ words) t meaning = ((t ≡ w.0) × (meaning ≡ w.1)) ⊎ IsWord words t meaning

-- a number of so many millionths, with or without a point, and without a sign
pub record IsNumber (t : List ℕ) (micro : ℤ) : Type 0 where
  -- it is made of digits and points
  pub bytes : list_all is_number_byte t ≡ true
  -- it is a literal
  pub literal : is_literal t ≡ true
  -- it has not too many digits
  pub short : has_too_many_digits t ≡ false
  -- its value, in 0.000001
  pub value : micro ≡ literal_micro t

-- a whole number, of digits alone
pub record IsWhole (t : List ℕ) (n : ℕ) : Type 0 where
  -- it is made of digits
  pub bytes : list_all is_ascii_digit t ≡ true
  -- it is a literal
  pub literal : is_literal t ≡ true
  -- it has not too many digits
  pub short : has_too_many_digits t ≡ false
  -- its value, in whole units
  pub value : n ≡ unsigned_abs (literal_micro t) / 1000000

-- "[" expr "]", if Inner says what may stand in brackets
pub data IsBracketed (Inner : List ℕ → Tree → Type 0) : List ℕ → Tree → Type 0 where
  -- the brackets and what stands in them
  closed : (t : List ℕ) (e : Tree) → Inner t e → IsBracketed Inner (codes "[" ++ (t ++ codes "]")) e

-- var = "#" digits | "#" "[" expr "]"
pub data IsVariable (Inner : List ℕ → Tree → Type 0) : List ℕ → Named → Type 0 where
  -- `#` and digits
  fixed : (t : List ℕ) (n : ℕ) → IsWhole t n → IsVariable Inner (codes "#" ++ t) (Fixed n)
  -- `#` and an expression in brackets
  computed : (t : List ℕ) (e : Tree) → IsBracketed Inner t e → IsVariable Inner (codes "#" ++ t) (Computed e)

-- prim = literal without sign | var | "[" expr "]" | fun "[" expr "]"
pub data IsPrim (Inner : List ℕ → Tree → Type 0) : List ℕ → Tree → Type 0 where
  -- a literal
  number : (t : List ℕ) (micro : ℤ) → IsNumber t micro → IsPrim Inner t (Number micro)
  -- a variable
  variable : (t : List ℕ) (v : Named) → IsVariable Inner t v → IsPrim Inner t (look v)
  -- an expression in brackets, which leave no trace in the tree
  bracket : (t : List ℕ) (e : Tree) → IsBracketed Inner t e → IsPrim Inner t e
  -- the name of a function, and an expression in brackets
  function : (name t : List ℕ) (f : Fun) (e : Tree) → IsWord function_words name f → IsBracketed Inner t e
      → IsPrim Inner (name ++ t) (Applied f e)

-- a prim with a sign in front, or without
pub data IsSigned (Inner : List ℕ → Tree → Type 0) : List ℕ → Tree → Type 0 where
  -- without a sign
  plain : (t : List ℕ) (e : Tree) → IsPrim Inner t e → IsSigned Inner t e
  -- with a plus or a minus
  signed : (word t : List ℕ) (minus : Bool) (e : Tree) → IsWord sign_words word minus → IsPrim Inner t e
      → IsSigned Inner (word ++ t) (Signed minus e)

-- first { operator operand }, from left to right, the operators all of one rank
pub data IsChain (rank : Rank) (First Operand : List ℕ → Tree → Type 0) : List ℕ → Tree → Type 0 where
  -- the first operand alone
  one : (t : List ℕ) (e : Tree) → First t e → IsChain rank First Operand t e
  -- a chain, and one operator and operand more
  more : (t word u : List ℕ) (op : Op) (left right : Tree) → IsChain rank First Operand t left
      → IsWord (operator_words rank) word op → Operand u right
      → IsChain rank First Operand (t ++ (word ++ u)) (Joined op left right)

-- term = prim { ( "*" | "/" | "AND" | "MOD" ) prim }
abbrev pub IsProduct : (List ℕ → Tree → Type 0) → List ℕ → Tree → Type 0
IsProduct Inner = IsChain rank.Product (IsPrim Inner) (IsPrim Inner)

-- expr = [ "+" | "-" ] term { ( "+" | "-" | "OR" | "XOR" ) term }, and the sign is the first prim's
abbrev pub IsSum : (List ℕ → Tree → Type 0) → List ℕ → Tree → Type 0
IsSum Inner = IsChain rank.Sum (IsChain rank.Product (IsSigned Inner) (IsPrim Inner)) (IsProduct Inner)

-- an expression whose brackets nest less than this number deep
abbrev pub IsWithin : ℕ → List ℕ → Tree → Type 0
IsWithin zero t e = ⊥
IsWithin (suc n) t e = IsSum (IsWithin n) t e

-- the text is an expression, whose brackets nest at most five deep, with this tree
abbrev pub IsExpression : List ℕ → Tree → Type 0
IsExpression t e = IsWithin (suc MOST_BRACKETS) t e

-- cond = "[" expr rel expr "]"
pub data IsTest : List ℕ → Test → Type 0 where
  -- two expressions with a relation between them, in brackets
  compares : (t word u : List ℕ) (rel : Rel) (left right : Tree) → IsWithin MOST_BRACKETS t left → IsWord relation_words word rel
      → IsWithin MOST_BRACKETS u right
      → IsTest (codes "[" ++ (t ++ (word ++ (u ++ codes "]")))) (record { left = left; rel = rel; right = right })

-- target = digits | var | "[" expr "]", with digits that are at most 99,999
pub data IsTarget : List ℕ → Aim → Type 0 where
  -- digits
  line : (t : List ℕ) (n : ℕ) → IsWhole t n → n ≤ LAST_SEQUENCE → IsTarget t (ToNumber n)
  -- a variable
  line_of : (t : List ℕ) (v : Named) → IsVariable (IsWithin MOST_BRACKETS) t v → IsTarget t (ToNumberOf (look v))
  -- an expression in brackets
  line_in : (t : List ℕ) (e : Tree) → IsBracketed (IsWithin MOST_BRACKETS) t e → IsTarget t (ToNumberOf e)

-- assign = var "=" expr
pub data IsAssignment : List ℕ → Named → Tree → Type 0 where
  -- a variable, `=` and an expression
  assigns : (t u : List ℕ) (v : Named) (e : Tree) → IsVariable (IsWithin MOST_BRACKETS) t v → IsExpression u e
      → IsAssignment (t ++ (codes "=" ++ u)) v e

-- a statement: an assignment, a jump, a condition with a jump or an assignment, or the begin or end
-- of a loop
pub data IsStatement : List ℕ → Sentence → Type 0 where
  -- `#i = expr`
  assign : (t : List ℕ) (v : Named) (e : Tree) → IsAssignment t v e → IsStatement t (Assign v e)
  -- `GOTO n`
  goto : (t : List ℕ) (aim : Aim) → IsTarget t aim → IsStatement (codes "GOTO" ++ t) (Goto aim)
  -- `IF [cond] GOTO n`
  if_goto : (c t : List ℕ) (test : Test) (aim : Aim) → IsTest c test → IsTarget t aim
      → IsStatement (codes "IF" ++ (c ++ (codes "GOTO" ++ t))) (IfGoto test aim)
  -- `IF [cond] THEN #i = expr`
  if_then : (c t : List ℕ) (test : Test) (v : Named) (e : Tree) → IsTest c test → IsAssignment t v e
      → IsStatement (codes "IF" ++ (c ++ (codes "THEN" ++ t))) (IfThen test v e)
  -- `WHILE [cond] DO m`
  while_do : (c word : List ℕ) (test : Test) (m : ℕ) → IsTest c test → IsWord loop_words word m
      → IsStatement (codes "WHILE" ++ (c ++ (codes "DO" ++ word))) (WhileDo test m)
  -- `DO m`
  do_only : (word : List ℕ) (m : ℕ) → IsWord loop_words word m → IsStatement (codes "DO" ++ word) (DoOnly m)
  -- `END m`
  end_loop : (word : List ℕ) (m : ℕ) → IsWord loop_words word m → IsStatement (codes "END" ++ word) (EndLoop m)
