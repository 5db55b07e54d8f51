-- A macro statement of the grammar is read as that statement. For the clauses of src/parse.rt.
use Rattle.std.proofs.Common.{◌≡◌, ℕ, ◌==◌, true, false, cond, List, [], ◌++◌, Some, Ok, Err, refl, sym, ◌∙◌, ap, append_assoc}
use Rattle.std.specs.Prelude.{codes}
use Rattle.std.specs.Char.{is_ascii_digit}
use Rattle.std.proofs.lemmas.Bool.{le-ltb}
use Rattle.std.proofs.lemmas.List.{append-nil}
use Rattle.nc_number.specs.Results.{◌>>=◌}
use Rattle.macro_expr.specs.declared.stop.Stop.TheVariants as stop
use Rattle.macro_expr.specs.declared.tree.Rel.{Rel}
use Rattle.macro_expr.specs.Tree.{Tree, Named, look, Test, Aim, ToNumber, ToNumberOf, Sentence, Assign, Goto, IfGoto, IfThen, WhileDo, DoOnly, EndLoop}
use Rattle.macro_expr.specs.Words.{relation_words, loop_words, text_behind, relation, keyword, loop_of, loop_word, operator, begins}
use Rattle.macro_expr.specs.Reading.{Read, word_at, digits_at, bracket_at, variable_at, expression_inside}
use Rattle.macro_expr.specs.Statements.{expression_at, relation_found, relation_at, condition_at, or_no_condition, test_at, aim_at_number, target_at, loop_at, assignment_at, branch_by, branch_at, if_at, while_at, statement_by, statement_at, whole_reading}
use Rattle.macro_expr.specs.Grammar.{IsWord, IsWhole, closed, IsVariable, fixed, computed, IsWithin, IsExpression, IsTest, compares, IsTarget, line, line_of, line_in, IsAssignment, assigns, IsStatement, assign, goto, if_goto, if_then, while_do, do_only, end_loop}
use Rattle.macro_expr.proofs.Heads.{◌also◌, each}
use Rattle.macro_expr.proofs.Complete.{NoSum, digits_read, begins_it, behind_bracket, bracket_read, variable_read, within_read}

-- this word begins any text as this relation, and goes on no expression
abbrev Compares : List ℕ → Rel → Type 0
Compares word rel = (rest : List ℕ) → (relation (word ++ rest) ≡ Some (rel, rest)) × NoSum (word ++ rest)

-- each word of a relation is read as that relation
compares_it : (word : List ℕ) (rel : Rel) → IsWord relation_words word rel → Compares word rel
unfolding relation operator
compares_it =
    each relation_words Compares
    ((λ _. (refl, (refl, refl, refl))) also (λ _. (refl, (refl, refl, refl))) also (λ _. (refl, (refl, refl, refl)))
    also (λ _. (refl, (refl, refl, refl))) also (λ _. (refl, (refl, refl, refl))) also (λ _. (refl, (refl, refl, refl)))
    also tt)

-- an expression before a closing bracket is read
inner_reads : (n : ℕ) (t : List ℕ) (e : Tree) → IsWithin n t e → (rest : List ℕ)
    → expression_inside n (t ++ (codes "]" ++ rest)) ≡ Ok (e, codes "]" ++ rest)
inner_reads n t e is rest = within_read n t e is (codes "]" ++ rest) (behind_bracket rest)

-- no operator follows at the end of a text
nothing_follows : NoSum []
unfolding operator
nothing_follows = (refl, refl, refl)

-- an expression that is all of the text is read
expression_read : (t : List ℕ) (e : Tree) → IsExpression t e → expression_inside 6 t ≡ Ok (e, [])
expression_read t e is = ap (expression_inside 6) (sym (append-nil t)) ∙ within_read 6 t e is [] nothing_follows

-- what is read after the right side of a condition, and the condition it makes
abbrev pub closing : Tree → Rel → (Tree × List ℕ) → Read Test
closing left rel right =
    word_at (codes "]") right.1 >>= λ rest. Ok (record { left = left; rel = rel; right = right.0 }, rest)

-- what is read after the relation of a condition
abbrev pub related : Tree → Rel × List ℕ → Read Test
related left rel = expression_inside 5 rel.1 >>= closing left rel.0

-- a condition of the grammar is read, whatever follows it
pub condition_read : (c : List ℕ) (test : Test) → IsTest c test → (rest : List ℕ)
    → condition_at (c ++ rest) ≡ Ok (test, rest)
unfolding condition_at relation_at word_at
condition_read _ _ (compares t word u rel left right is_left is_rel is_right) rest =
    let after_right : List ℕ = codes "]" ++ rest in
    let c = compares_it word rel is_rel (u ++ after_right) in
    let apart : (t ++ (word ++ (u ++ codes "]"))) ++ rest ≡ t ++ (word ++ (u ++ after_right)) = simp append_assoc in
    let behind_left : (Tree × List ℕ) → Read Test = λ l. relation_found (relation l.1) >>= related l.0 in
    ap (λ xs. expression_inside 5 xs >>= behind_left) apart
    ∙ ap (λ r. r >>= behind_left) (within_read 5 t left is_left (word ++ (u ++ after_right)) c.1)
    ∙ ap (λ o. relation_found o >>= related left) c.0
    ∙ ap (λ r. r >>= closing left rel) (inner_reads 5 u right is_right rest)

-- a condition of the grammar is read after IF or WHILE, whatever follows it
pub test_read : (c : List ℕ) (test : Test) → IsTest c test → (rest : List ℕ) → test_at (c ++ rest) ≡ Ok (test, rest)
unfolding test_at
test_read c test is rest = ap or_no_condition (condition_read c test is rest)

-- a variable that is all of the text is read
as_variable : (t : List ℕ) (v : Named) → IsVariable (IsWithin 5) t v → variable_at (expression_inside 5) t ≡ Ok (v, [])
as_variable t v is =
    ap (variable_at (expression_inside 5)) (sym (append-nil t))
    ∙ variable_read (expression_inside 5) (IsWithin 5) (inner_reads 5) t v is [] refl

-- the target of a jump, if it does not begin with a digit
abbrev pub other_target : List ℕ → Read Aim
other_target t =
    cond (begins (λ b. b == 35) t) (variable_at (expression_inside 5) t >>= λ v. Ok (ToNumberOf (look v.0), v.1))
    (bracket_at (expression_inside 5) t >>= λ e. Ok (ToNumberOf e.0, e.1))

-- a target of digits is read as its number, whatever else follows
pub digits_target : (t rest : List ℕ) (n : ℕ) → IsWhole t n → begins is_ascii_digit rest ≡ false
    → target_at (t ++ rest) ≡ aim_at_number n rest
unfolding target_at
digits_target t rest n is quiet =
    ap (λ x. cond x (digits_at (t ++ rest) >>= λ n. aim_at_number n.0 n.1) (other_target (t ++ rest)))
    (begins_it is_ascii_digit t rest is.bytes is.literal)
    ∙ ap (λ r. r >>= (λ (n : ℕ × List ℕ). aim_at_number n.0 n.1)) (digits_read t n is rest quiet)

-- the target of a jump that is all of the text is read
target_read : (t : List ℕ) (aim : Aim) → IsTarget t aim → target_at t ≡ Ok (aim, [])
unfolding target_at
target_read _ _ (line t n is small) =
    ap target_at (sym (append-nil t)) ∙ digits_target t [] n is refl
    ∙ ap (λ x. cond x (Err stop.Sequence) (Ok (ToNumber n, []))) (le-ltb 99999 n small)
target_read _ _ (line_of _ _ (fixed t n is)) =
    ap (λ r. r >>= λ v. Ok (ToNumberOf (look v.0), v.1)) (as_variable _ _ (fixed t n is))
target_read _ _ (line_of _ _ (computed t e is)) =
    ap (λ r. r >>= λ v. Ok (ToNumberOf (look v.0), v.1)) (as_variable _ _ (computed t e is))
target_read _ _ (line_in _ _ (closed t e is)) =
    ap (λ r. r >>= λ e. Ok (ToNumberOf e.0, e.1))
    (ap (bracket_at (expression_inside 5)) (sym (append-nil (codes "[" ++ (t ++ codes "]"))))
    ∙ bracket_read (expression_inside 5) (IsWithin 5) (inner_reads 5) _ e (closed t e is) [])

-- the number of a loop that is all of the text is read
loop_read : (word : List ℕ) (m : ℕ) → IsWord loop_words word m → loop_at word ≡ Ok (m, [])
unfolding loop_at loop_of loop_word
loop_read = each loop_words (λ w m. loop_at w ≡ Ok (m, [])) (refl also refl also refl also tt)

-- what is read after the left side of an assignment
abbrev pub equals : Named × List ℕ → Read (Named × Tree)
equals v = word_at (codes "=") v.1 >>= λ rest. expression_inside 6 rest >>= λ e. Ok ((v.0, e.0), e.1)

-- an assignment that is all of the text is read
assignment_read : (t : List ℕ) (v : Named) (e : Tree) → IsAssignment t v e → assignment_at t ≡ Ok ((v, e), [])
unfolding assignment_at word_at
assignment_read _ _ _ (assigns t u v e is_variable is) =
    ap (λ r. r >>= equals) (variable_read (expression_inside 5) (IsWithin 5) (inner_reads 5) t v is_variable (codes "=" ++ u) refl)
    ∙ ap (λ r. r >>= (λ e. Ok ((v, e.0), e.1))) (expression_read u e is)

-- an assignment begins with `#`, byte 35
starts_as_variable : (t : List ℕ) (v : Named) (e : Tree) → IsAssignment t v e → begins (λ b. b == 35) t ≡ true
starts_as_variable _ _ _ (assigns _ u _ e (fixed t n w) is) = refl
starts_as_variable _ _ _ (assigns _ u _ e (computed t x w) is) = refl

-- what is read after the condition of WHILE
abbrev pub looping : Test × List ℕ → Read Sentence
looping test = word_at (codes "DO") test.1 >>= λ rest. loop_at rest >>= λ m. Ok (WhileDo test.0 m.0, m.1)

-- an assignment that was read, as a statement
abbrev as_assign : (Named × Tree) × List ℕ → Read Sentence
as_assign a = Ok (Assign a.0.0 a.0.1, a.1)

-- a statement that is all of the text is read
statement_read : (t : List ℕ) (s : Sentence) → IsStatement t s → statement_at t ≡ Ok (s, [])
unfolding statement_at if_at while_at branch_at word_at keyword
statement_read _ _ (assign t v e is) =
    ap (λ x. cond x (assignment_at t >>= as_assign) (statement_by (keyword t))) (starts_as_variable t v e is)
    ∙ ap (λ r. r >>= as_assign) (assignment_read t v e is)
statement_read _ _ (goto t aim is) = ap (λ r. r >>= (λ aim. Ok (Goto aim.0, aim.1))) (target_read t aim is)
statement_read _ _ (if_goto c t test aim is_test is) =
    ap (λ r. r >>= (λ x. branch_by x.0 (text_behind (codes "GOTO") x.1) x.1)) (test_read c test is_test (codes "GOTO" ++ t))
    ∙ ap (λ r. r >>= (λ aim. Ok (IfGoto test aim.0, aim.1))) (target_read t aim is)
statement_read _ _ (if_then c t test v e is_test is) =
    ap (λ r. r >>= (λ x. branch_by x.0 (text_behind (codes "GOTO") x.1) x.1)) (test_read c test is_test (codes "THEN" ++ t))
    ∙ ap (λ r. r >>= (λ a. Ok (IfThen test a.0.0 a.0.1, a.1))) (assignment_read t v e is)
statement_read _ _ (while_do c word test m is_test is) =
    ap (λ r. r >>= looping) (test_read c test is_test (codes "DO" ++ word))
    ∙ ap (λ r. r >>= (λ m. Ok (WhileDo test m.0, m.1))) (loop_read word m is)
statement_read _ _ (do_only word m is) = ap (λ r. r >>= (λ m. Ok (DoOnly m.0, m.1))) (loop_read word m is)
statement_read _ _ (end_loop word m is) = ap (λ r. r >>= (λ m. Ok (EndLoop m.0, m.1))) (loop_read word m is)

-- an expression of the grammar is read whole, with nothing after it
pub whole_expression_read : (t : List ℕ) (e : Tree) → IsExpression t e → whole_reading (expression_at t) ≡ Ok e
whole_expression_read t e is = ap whole_reading (expression_read t e is)

-- a statement of the grammar is read whole, with nothing after it
pub whole_statement_read : (t : List ℕ) (s : Sentence) → IsStatement t s → whole_reading (statement_at t) ≡ Ok s
whole_statement_read t s is = ap whole_reading (statement_read t s is)
