-- Trees of macro expressions and statements, without where they lie in memory: what contracts see
-- of src/tree.rt.
use Rattle.std.specs.Prelude.{ℕ, suc, ◌+◌, ◌≤◌, max, ℤ, Bool, List, [], ◌∷◌, ◌++◌}
use Rattle.nc_number.specs.declared.limits.TheConstants.{LAST_SEQUENCE}
use Rattle.macro_expr.specs.declared.tree.Fun.{Fun}
use Rattle.macro_expr.specs.declared.tree.Op.{Op}
use Rattle.macro_expr.specs.declared.tree.Rel.{Rel}
use Rattle.macro_expr.specs.declared.tree.Expr.{Expr, Lit, Look, Sign', Call', Two'}
use Rattle.macro_expr.specs.declared.tree.VarRef.{VarRef, Fixed as FixedRef, Computed' as ComputedRef}
use Rattle.macro_expr.specs.declared.tree.Cond.{Cond}
use Rattle.macro_expr.specs.declared.tree.Target.{Target}
use Rattle.macro_expr.specs.declared.tree.Target.TheVariants.{Fixed as Line, Computed as LineOf}
use Rattle.macro_expr.specs.declared.tree.Statement.{Statement}
use Rattle.macro_expr.specs.declared.tree.Statement.TheVariants as statement

-- an expression
pub data Tree : Type 0 where
  -- a number that is written out, in millionths
  Number : ℤ → Tree
  -- a variable of this number
  Variable : ℕ → Tree
  -- a variable whose number the tree gives
  VariableOf : Tree → Tree
  -- a tree after a sign; true is minus
  Signed : Bool → Tree → Tree
  -- a function of a tree
  Applied : Fun → Tree → Tree
  -- an operator between two trees
  Joined : Op → Tree → Tree → Tree

-- how many right operands stand inside one another at most: so deep a call of its own goes in a
-- walk of the tree
abbrev pub right_depth : Tree → ℕ
right_depth (Number z) = 0
right_depth (Variable n) = 0
right_depth (VariableOf e) = right_depth e
right_depth (Signed minus e) = right_depth e
right_depth (Applied f e) = right_depth e
right_depth (Joined op a b) = max (right_depth a) (suc (right_depth b))

-- how many variables the tree names, those that give the number of another among them
abbrev pub variables : Tree → ℕ
variables (Number z) = 0
variables (Variable n) = 1
variables (VariableOf e) = variables e + 1
variables (Signed minus e) = variables e
variables (Applied f e) = variables e
variables (Joined op a b) = variables a + variables b

-- how a text names a variable: by this number, or by the tree that gives its number
pub data Named : Type 0 where
  -- the variable of this number
  Fixed : ℕ → Named
  -- the variable whose number the tree gives
  Computed : Tree → Named

-- the variable as an expression
abbrev pub look : Named → Tree
look (Fixed n) = Variable n
look (Computed e) = VariableOf e

-- the expressions and the variables of the code as trees, each defined by the other
abbrev mutual
  -- an expression of the code as a tree
  pub tree_of : Expr → Tree
  tree_of (Lit z) = Number z
  tree_of (Look v) = look (variable_of v)
  tree_of (Sign' minus p e) = Signed minus (tree_of e)
  tree_of (Call' f p e) = Applied f (tree_of e)
  tree_of (Two' op p e q f) = Joined op (tree_of e) (tree_of f)

  -- a variable of the code as it is named
  pub variable_of : VarRef → Named
  variable_of (FixedRef n) = Fixed n
  variable_of (ComputedRef p e) = Computed (tree_of e)

-- a condition: two trees that are compared
pub record Test : Type 0 where
  -- the tree before the relation
  pub left : Tree
  -- how the two are compared
  pub rel : Rel
  -- the tree after the relation
  pub right : Tree

-- a condition of the code as a tree
abbrev pub test_of : Cond → Test
test_of c = record { left = tree_of c.left; rel = c.rel; right = tree_of c.right }

-- where a jump leads: to a sequence number, or to one that is computed
pub data Aim : Type 0 where
  -- this sequence number
  ToNumber : ℕ → Aim
  -- the sequence number that the tree gives
  ToNumberOf : Tree → Aim

-- the target of a jump of the code as a tree
abbrev pub aim_of : Target → Aim
aim_of (Line n) = ToNumber n
aim_of (LineOf e) = ToNumberOf (tree_of e)

-- a statement: an assignment, a jump, a condition with a jump or an assignment, a loop that begins,
-- with a condition or without, or one that ends
pub data Sentence : Type 0 where
  -- `#i = expr`
  Assign : Named → Tree → Sentence
  -- `GOTO n`
  Goto : Aim → Sentence
  -- `IF [cond] GOTO n`
  IfGoto : Test → Aim → Sentence
  -- `IF [cond] THEN #i = expr`
  IfThen : Test → Named → Tree → Sentence
  -- `WHILE [cond] DO m`
  WhileDo : Test → ℕ → Sentence
  -- `DO m`
  DoOnly : ℕ → Sentence
  -- `END m`
  EndLoop : ℕ → Sentence

-- a statement of the code as a tree
abbrev pub sentence_of : Statement → Sentence
sentence_of (statement.Assign v e) = Assign (variable_of v) (tree_of e)
sentence_of (statement.Goto t) = Goto (aim_of t)
sentence_of (statement.IfGoto c t) = IfGoto (test_of c) (aim_of t)
sentence_of (statement.IfThen c v e) = IfThen (test_of c) (variable_of v) (tree_of e)
sentence_of (statement.WhileDo c m) = WhileDo (test_of c) m
sentence_of (statement.DoOnly m) = DoOnly m
sentence_of (statement.EndLoop m) = EndLoop m

-- the trees that a condition evaluates, in order: left and right
abbrev pub evaluated_test : Test → List Tree
evaluated_test test = test.left ∷ test.right ∷ []

-- the tree that gives the number of an assigned variable, if it is computed
abbrev pub evaluated_name : Named → List Tree
evaluated_name (Fixed n) = []
evaluated_name (Computed e) = e ∷ []

-- the tree that gives the target of a jump, if it is computed
abbrev pub evaluated_aim : Aim → List Tree
evaluated_aim (ToNumber n) = []
evaluated_aim (ToNumberOf e) = e ∷ []

-- The trees that a statement evaluates, in their order: of a condition left and right, then the
-- number of the assigned variable if it is computed, then the value; of a jump its target if it is
-- computed.
abbrev pub trees_of_sentence : Sentence → List Tree
trees_of_sentence (Assign v e) = evaluated_name v ++ e ∷ []
trees_of_sentence (Goto aim) = evaluated_aim aim
trees_of_sentence (IfGoto test aim) = evaluated_test test ++ evaluated_aim aim
trees_of_sentence (IfThen test v e) = evaluated_test test ++ (evaluated_name v ++ e ∷ [])
trees_of_sentence (WhileDo test m) = evaluated_test test
trees_of_sentence (DoOnly m) = []
trees_of_sentence (EndLoop m) = []

-- how many variables the trees name
abbrev pub variables_in : List Tree → ℕ
variables_in [] = 0
variables_in (e ∷ trees) = variables e + variables_in trees

-- the number of a loop: 1, 2 or 3
abbrev pub IsLoop : ℕ → Type 0
IsLoop m = (1 ≤ m) × (m ≤ 3)

-- the target of a jump, if it is written out, is at most 99,999
abbrev pub IsAimInRange : Aim → Type 0
IsAimInRange (ToNumber n) = n ≤ LAST_SEQUENCE
IsAimInRange (ToNumberOf e) = Unit {0}

-- the numbers that the statement writes out are in range
abbrev pub IsInRange : Sentence → Type 0
IsInRange (Assign v e) = Unit {0}
IsInRange (Goto aim) = IsAimInRange aim
IsInRange (IfGoto test aim) = IsAimInRange aim
IsInRange (IfThen test v e) = Unit {0}
IsInRange (WhileDo test m) = IsLoop m
IsInRange (DoOnly m) = IsLoop m
IsInRange (EndLoop m) = IsLoop m
