-- Reading a macro statement from left to right: its tree, or the cause at the first place where
-- reading fails. Src/statements.rt computes it. Byte 35 is `#`.
use Rattle.std.specs.Prelude.{ℕ, suc, ◌==◌, nat_lt, List, length, Option, Some, None, Result, Ok, Err, codes, if◌then◌else◌}
use Rattle.std.specs.Char.{is_ascii_digit}
use Rattle.nc_number.specs.declared.limits.TheConstants.{LAST_SEQUENCE, MOST_BRACKETS}
use Rattle.nc_number.specs.Results.{◌>>=◌}
use Rattle.macro_expr.specs.declared.stop.Stop.{Stop}
use Rattle.macro_expr.specs.declared.stop.Stop.TheVariants as stop
use Rattle.macro_expr.specs.declared.tree.Rel.{Rel}
use Rattle.macro_expr.specs.declared.words.Keyword.{Keyword}
use Rattle.macro_expr.specs.declared.words.Keyword.TheVariants as word
use Rattle.macro_expr.specs.Tree.{Tree, Named, look, Test, Aim, ToNumber, ToNumberOf, Sentence, Assign, Goto, IfGoto, IfThen, WhileDo, DoOnly, EndLoop}
use Rattle.macro_expr.specs.Words.{text_behind, relation, keyword, loop_of, run, behind_run, begins}
use Rattle.macro_expr.specs.Reading.{Read, word_at, digits_at, bracket_at, variable_at, expression_inside}

-- an expression whose brackets nest at most five deep; what stands in brackets may open four more
abbrev pub expression_at : List ℕ → Read Tree
expression_at = expression_inside (suc MOST_BRACKETS)

-- the relation that was found, or that this is no expression
abbrev pub relation_found : Option (Rel × List ℕ) → Read Rel
relation_found None = Err stop.Expression
relation_found (Some found) = Ok found

-- the relation of a condition, which must stand here
unfoldable pub relation_at : List ℕ → Read Rel
relation_at text = relation_found (relation text)

-- a condition in brackets, or the cause at the place where reading fails
unfoldable pub condition_at : List ℕ → Read Test
condition_at text = do
  opened ← word_at (codes "[") text
  left ← expression_inside MOST_BRACKETS opened
  rel ← relation_at left.1
  right ← expression_inside MOST_BRACKETS rel.1
  rest ← word_at (codes "]") right.1
  Ok (record { left = left.0; rel = rel.0; right = right.0 }, rest)

-- a condition, or that there is none, whatever stopped its reading
abbrev pub or_no_condition : Read Test → Read Test
or_no_condition (Ok test) = Ok test
or_no_condition (Err fault) = Err stop.Condition

-- the condition after IF or WHILE
unfoldable pub test_at : List ℕ → Read Test
test_at text = or_no_condition (condition_at text)

-- a sequence number that is the target of a jump: at most 99,999
abbrev pub aim_at_number : ℕ → List ℕ → Read Aim
aim_at_number n rest = if nat_lt LAST_SEQUENCE n then Err stop.Sequence else Ok (ToNumber n, rest)

-- the target of a jump: digits, a variable or an expression in brackets
unfoldable pub target_at : List ℕ → Read Aim
target_at text =
    if begins is_ascii_digit text then (digits_at text >>= λ n. aim_at_number n.0 n.1)
    else if begins (λ b. b == 35) text then (variable_at (expression_inside MOST_BRACKETS) text >>= λ v. Ok (ToNumberOf (look v.0), v.1))
    else (bracket_at (expression_inside MOST_BRACKETS) text >>= λ e. Ok (ToNumberOf e.0, e.1))

-- the number of a loop that was found, or that this is none
abbrev pub loop_found : Option ℕ → List ℕ → Read ℕ
loop_found None rest = Err stop.Loop
loop_found (Some m) rest = Ok (m, rest)

-- the number of a loop, 1, 2 or 3
unfoldable pub loop_at : List ℕ → Read ℕ
loop_at text = loop_found (loop_of (run is_ascii_digit text)) (behind_run is_ascii_digit text)

-- a variable and what it is to hold
unfoldable pub assignment_at : List ℕ → Read (Named × Tree)
assignment_at text = do
  v ← variable_at (expression_inside MOST_BRACKETS) text
  rest ← word_at (codes "=") v.1
  e ← expression_at rest
  Ok ((v.0, e.0), e.1)

-- what stands after the condition of an IF: a target, if GOTO was found, else THEN and an
-- assignment
abbrev pub branch_by : Test → Option (List ℕ) → List ℕ → Read Sentence
branch_by test (Some behind_goto) text = do
  aim ← target_at behind_goto
  Ok (IfGoto test aim.0, aim.1)
branch_by test None text = do
  rest ← word_at (codes "THEN") text
  a ← assignment_at rest
  Ok (IfThen test a.0.0 a.0.1, a.1)

-- what stands after the condition of an IF: GOTO and a target, or THEN and an assignment
unfoldable pub branch_at : Test → List ℕ → Read Sentence
branch_at test text = branch_by test (text_behind (codes "GOTO") text) text

-- what stands after IF
unfoldable pub if_at : List ℕ → Read Sentence
if_at text = do
  test ← test_at text
  branch_at test.0 test.1

-- what stands after WHILE: a condition, DO and the number of a loop
unfoldable pub while_at : List ℕ → Read Sentence
while_at text = do
  test ← test_at text
  rest ← word_at (codes "DO") test.1
  m ← loop_at rest
  Ok (WhileDo test.0 m.0, m.1)

-- what stands after the word that begins a statement
abbrev pub statement_for : Keyword → List ℕ → Read Sentence
statement_for word.If text = if_at text
statement_for word.While text = while_at text
statement_for word.Goto text = target_at text >>= λ aim. Ok (Goto aim.0, aim.1)
statement_for word.Do text = loop_at text >>= λ m. Ok (DoOnly m.0, m.1)
statement_for word.End text = loop_at text >>= λ m. Ok (EndLoop m.0, m.1)

-- the statement of the keyword that was found, or that there is none
abbrev pub statement_by : Option (Keyword × List ℕ) → Read Sentence
statement_by None = Err stop.Expression
statement_by (Some found) = statement_for found.0 found.1

-- a statement: an assignment, or what a keyword begins
unfoldable pub statement_at : List ℕ → Read Sentence
statement_at text =
    if begins (λ b. b == 35) text then (assignment_at text >>= λ a. Ok (Assign a.0.0 a.0.1, a.1))
    else statement_by (keyword text)

-- what was read, if nothing stands after it; else the text is no expression or statement
abbrev pub whole_reading : {A : Type 0} → Read A → Result A Stop
whole_reading read = read >>= λ x. if length x.1 == 0 then Ok x.0 else Err stop.Expression
