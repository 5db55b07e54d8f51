-- Why a macro expression or statement does not read, over the grammar of macro_expr: what stands
-- where reading stops. For the law `reading_stops_for_a_cause` (src/refusals.rt).
use Rattle.std.specs.Prelude.{◌≡◌, ◌<◌, ℕ, true, false, List, ◌++◌, codes}
use Rattle.std.specs.Char.{is_ascii_digit}
use Rattle.std.specs.List.{list_all}
use Rattle.nc_number.specs.declared.limits.TheConstants.{LAST_SEQUENCE}
use Rattle.macro_expr.specs.declared.stop.Stop.{Stop}
use Rattle.macro_expr.specs.declared.stop.Stop.TheVariants as stop
use Rattle.macro_expr.specs.declared.tree.Fun.{Fun}
use Rattle.macro_expr.specs.Tree.{Tree, Test}
use Rattle.macro_expr.specs.Words.{function_words, loop_words, is_letter, run, begins}
use Rattle.macro_expr.specs.Grammar.{IsWord, IsWhole, IsPrim, IsTest}

-- the text is an operand without brackets, with this tree
abbrev pub IsPlain : List ℕ → Tree → Type 0
IsPlain = IsPrim (λ _ _. ⊥)

-- Letters that name no function stand where an operand must: in their place each operand without
-- brackets could stand. `Is` is the grammar of what is read, `A` its trees.
pub record HasUnknown (A : Type 0) (Is : List ℕ → A → Type 0) (text : List ℕ) : Type 0 where
  -- what stands before the letters
  pub before : List ℕ
  -- the letters
  pub name : List ℕ
  -- what stands after the letters
  pub rest : List ℕ
  -- the text is these three
  pub stands : text ≡ before ++ (name ++ rest)
  -- the name has letters alone
  pub letters : list_all is_letter name ≡ true
  -- there is at least one letter
  pub some : begins is_letter (name ++ rest) ≡ true
  -- no further letter follows
  pub ends : begins is_letter rest ≡ false
  -- no function has this name
  pub unknown : (f : Fun) → IsWord function_words name f → ⊥
  -- any operand without brackets could stand in the place of the letters, with some ending after it
  pub place : (p : List ℕ) (e : Tree) → IsPlain p e → (ending : List ℕ) × (x : A) × Is (before ++ (p ++ ending)) x

-- what stands where reading stops for this; `Other` says it of the stops that only a statement has.
-- Of a stop for no expression nothing is said.
abbrev pub Lacks : {A : Type 0} → (List ℕ → A → Type 0) → (Stop → Type 0) → List ℕ → Stop → Type 0
Lacks Is Other text stop.Expression = Unit {0}
Lacks {A} Is Other text stop.Function = HasUnknown A Is text
Lacks Is Other text stop.Condition = Other stop.Condition
Lacks Is Other text stop.Loop = Other stop.Loop
Lacks Is Other text stop.Sequence = Other stop.Sequence

-- of an expression: it never stops for a condition, a loop or a sequence number
abbrev pub Never : Stop → Type 0
Never s = ⊥

-- nothing of this kind stands at the head of the text
abbrev pub HasNo : {A : Type 0} → (List ℕ → A → Type 0) → List ℕ → Type 0
HasNo {A} Is text = (t rest : List ℕ) (x : A) → text ≡ t ++ rest → Is t x → ⊥

-- the text is IF or WHILE without a condition after it
pub data LacksCondition : List ℕ → Type 0 where
  -- after IF
  no_if : (u : List ℕ) → HasNo IsTest u → LacksCondition (codes "IF" ++ u)
  -- after WHILE
  no_while : (u : List ℕ) → HasNo IsTest u → LacksCondition (codes "WHILE" ++ u)

-- the digits that stand there are no single 1, 2 or 3
abbrev pub HasNoLoop : List ℕ → Type 0
HasNoLoop u = (m : ℕ) → IsWord loop_words (run is_ascii_digit u) m → ⊥

-- the text is DO, END, or a WHILE with its condition and DO, without a loop's number after it
pub data LacksLoop : List ℕ → Type 0 where
  -- after DO
  no_do : (u : List ℕ) → HasNoLoop u → LacksLoop (codes "DO" ++ u)
  -- after END
  no_end : (u : List ℕ) → HasNoLoop u → LacksLoop (codes "END" ++ u)
  -- after a WHILE with its condition and DO
  no_while_do : (c u : List ℕ) (test : Test) → IsTest c test → HasNoLoop u
      → LacksLoop (codes "WHILE" ++ (c ++ (codes "DO" ++ u)))

-- a whole number above the range of a sequence number stands at the head of the text
pub record IsPast (text : List ℕ) : Type 0 where
  -- the number
  pub digits : List ℕ
  -- what stands after the number
  pub rest : List ℕ
  -- its value
  pub number : ℕ
  -- the text is these two
  pub stands : text ≡ digits ++ rest
  -- the digits are a whole number
  pub whole : IsWhole digits number
  -- no further digit follows
  pub ends : begins is_ascii_digit rest ≡ false
  -- sequence numbers go up to 99,999
  pub large : LAST_SEQUENCE < number

-- the text is GOTO, or an IF with its condition and GOTO, and a target of digits above the range
pub data HasPastTarget : List ℕ → Type 0 where
  -- after GOTO
  past_goto : (u : List ℕ) → IsPast u → HasPastTarget (codes "GOTO" ++ u)
  -- after an IF with its condition and GOTO
  past_if : (c u : List ℕ) (test : Test) → IsTest c test → IsPast u
      → HasPastTarget (codes "IF" ++ (c ++ (codes "GOTO" ++ u)))

-- what stands where the reading of a statement stops for a condition, a loop or a sequence number
abbrev pub OfStatement : List ℕ → Stop → Type 0
OfStatement text stop.Expression = ⊥
OfStatement text stop.Function = ⊥
OfStatement text stop.Condition = LacksCondition text
OfStatement text stop.Loop = LacksLoop text
OfStatement text stop.Sequence = HasPastTarget text
