-- A macro statement that is read is one of the grammar. For the clauses of src/parse.rt.
use Rattle.std.proofs.Common.{◌≡◌, ℕ, ◌==◌, nat_lt, Bool, true, false, cond, List, [], ◌∷◌, ◌++◌, length, Ok, Err, refl, sym, ◌∙◌, ap, subst, arith, append_assoc}
use Rattle.std.specs.Prelude.{codes}
use Rattle.std.specs.Char.{is_ascii_digit}
use Rattle.std.proofs.lemmas.Bool.{ltb-false}
use Rattle.std.proofs.lemmas.Bool.Decides.{nat_tests}
use Rattle.std.proofs.lemmas.List.{append-nil}
use Rattle.nc_number.specs.Results.{◌>>=◌}
use Rattle.macro_expr.specs.declared.stop.Stop.TheVariants as stop
use Rattle.macro_expr.specs.declared.words.Keyword.{Keyword}
use Rattle.macro_expr.specs.Tree.{Tree, Named, look, Test, ToNumber, ToNumberOf, Sentence, Assign, Goto, DoOnly, EndLoop}
use Rattle.macro_expr.specs.Words.{first_word, relation_words, loop_words, keyword_words, relation, keyword, loop_of, loop_word, run, behind_run, begins}
use Rattle.macro_expr.specs.Reading.{Read, digits_at, bracket_at, variable_at, expression_inside}
use Rattle.macro_expr.specs.Statements.{expression_at, relation_found, relation_at, condition_at, or_no_condition, test_at, aim_at_number, target_at, loop_found, loop_at, assignment_at, branch_by, branch_at, if_at, while_at, statement_for, statement_by, statement_at, whole_reading}
use Rattle.macro_expr.specs.Grammar.{IsWord, IsWhole, IsWithin, IsExpression, IsTest, compares, IsTarget, line, line_of, line_in, IsAssignment, assigns, IsStatement, assign, goto, if_goto, if_then, while_do, do_only, end_loop}
use Rattle.macro_expr.proofs.Heads.{behind_word, leading, meant, ◌also◌, each, run_splits}
use Rattle.macro_expr.proofs.Steps.{Sound, found, stops, Reads, step, word_step, joins}
use Rattle.macro_expr.proofs.Sound.{digits-sound, bracket-sound, variable-sound, within-sound}
use Rattle.macro_expr.proofs.StatementsComplete.{related}

-- a condition that is read is one of the grammar
pub condition-sound : Reads IsTest condition_at
unfolding condition_at relation_at relation
condition-sound text =
    word_step _ (codes "[") text (λ opened here.
    step _ (within-sound 5 opened) (λ t after left is_left stands.
    leading (λ o. Sound IsTest text (relation_found o >>= related left)) relation_words after
    (λ word next rel is_word relates.
    step _ (within-sound 5 next) (λ u last right is_right follows.
    word_step _ (codes "]") last (λ rest ends.
    found _ rest _ (compares t word u rel left right is_left is_word is_right)
    (simp (here, stands, relates, follows, ends, append_assoc)))))
    (stops stop.Expression)))

-- a condition that is read after IF or WHILE is one of the grammar
test-sound : Reads IsTest test_at
unfolding test_at
test-sound text = go (condition-sound text)
  where
    go : {r : Read Test} → Sound IsTest text r → Sound IsTest text (or_no_condition r)
    go (found t rest x is stands) = found t rest x is stands
    go (stops s) = stops stop.Condition

-- the target of a jump that is read is one of the grammar
target-sound : Reads IsTarget target_at
unfolding target_at
target-sound text = go (begins is_ascii_digit text) (begins (λ b. b == 35) text)
  where
    in_range : (t rest : List ℕ) (n : ℕ) → IsWhole t n → text ≡ t ++ rest → (large : Bool) → nat_lt 99999 n ≡ large
        → Sound IsTarget text (cond large (Err stop.Sequence) (Ok (ToNumber n, rest)))
    in_range t rest n is stands true large = stops stop.Sequence
    in_range t rest n is stands false small = found t rest (ToNumber n) (line t n is (ltb-false 99999 n small)) stands

    go : (a b : Bool) → Sound IsTarget text (cond a (digits_at text >>= λ n. aim_at_number n.0 n.1)
        (cond b (variable_at (expression_inside 5) text >>= λ v. Ok (ToNumberOf (look v.0), v.1))
        (bracket_at (expression_inside 5) text >>= λ e. Ok (ToNumberOf e.0, e.1))))
    go true b = step _ (digits-sound text) (λ t rest n is stands. in_range t rest n is stands (nat_lt 99999 n) refl)
    go false true =
        joins [] (λ v. ToNumberOf (look v)) line_of refl (variable-sound (expression_inside 5) (IsWithin 5) (within-sound 5) text)
    go false false = joins [] ToNumberOf line_in refl (bracket-sound (expression_inside 5) (IsWithin 5) (within-sound 5) text)

-- the number of a loop that is read is one of the grammar
loop-sound : Reads (IsWord loop_words) loop_at
unfolding loop_at loop_of loop_word
loop-sound text =
    let number : List ℕ = run is_ascii_digit text in
    let rest : List ℕ = behind_run is_ascii_digit text in
    meant (λ o. Sound (IsWord loop_words) text (loop_found o rest)) loop_words number
    (λ m is. found number rest m is (run_splits is_ascii_digit text)) (stops stop.Loop)

-- the text is an assignment of this tree to this variable
abbrev pub IsAssign : List ℕ → Named × Tree → Type 0
IsAssign t a = IsAssignment t a.0 a.1

-- an assignment that is read is one of the grammar
assignment-sound : Reads IsAssign assignment_at
unfolding assignment_at
assignment-sound text =
    step _ (variable-sound (expression_inside 5) (IsWithin 5) (within-sound 5) text) (λ t after v is_variable here.
    word_step _ (codes "=") after (λ right equals.
    step _ (within-sound 6 right) (λ u rest e is stands.
    found (t ++ (codes "=" ++ u)) rest (v, e) (assigns t u v e is_variable is)
    (simp (here, equals, stands, append_assoc)))))

-- what is read after IF makes a statement of the grammar
if-sound : (text at : List ℕ) → text ≡ codes "IF" ++ at → Sound IsStatement text (if_at at)
unfolding if_at branch_at
if-sound text at here =
    step _ (test-sound at) (λ c after test is_test stands.
    behind_word (λ o. Sound IsStatement text (branch_by test o after)) (codes "GOTO") after
    (λ jump goes.
    step _ (target-sound jump) (λ t rest aim is follows.
    found _ rest _ (if_goto c t test aim is_test is) (simp (here, stands, goes, follows, append_assoc))))
    (word_step _ (codes "THEN") after (λ body does.
    step _ (assignment-sound body) (λ t rest a is follows.
    found _ rest _ (if_then c t test a.0 a.1 is_test is) (simp (here, stands, does, follows, append_assoc))))))

-- what is read after WHILE makes a statement of the grammar
while-sound : (text at : List ℕ) → text ≡ codes "WHILE" ++ at → Sound IsStatement text (while_at at)
unfolding while_at
while-sound text at here =
    step _ (test-sound at) (λ c after test is_test stands.
    word_step _ (codes "DO") after (λ number does.
    step _ (loop-sound number) (λ t rest m is follows.
    found _ rest _ (while_do c t test m is_test is) (simp (here, stands, does, follows, append_assoc)))))

-- after this keyword in the text, what is read makes a statement of the grammar
abbrev Behind : List ℕ → List ℕ → Keyword → Type 0
Behind text word k = (at : List ℕ) → text ≡ word ++ at → Sound IsStatement text (statement_for k at)

-- a statement that is read is one of the grammar
statement-sound : Reads IsStatement statement_at
unfolding statement_at keyword
statement-sound text = go (begins (λ b. b == 35) text)
  where
    go : (b : Bool) → Sound IsStatement text
        (cond b (assignment_at text >>= λ a. Ok (Assign a.0.0 a.0.1, a.1))
        (statement_by (first_word keyword_words text)))
    go true = joins [] (λ a. Assign a.0 a.1) (λ t a is. assign t a.0 a.1 is) refl (assignment-sound text)
    go false =
        leading (λ o. Sound IsStatement text (statement_by o)) keyword_words text
        (λ word at k is here.
        each keyword_words (Behind text)
        (if-sound text also while-sound text also (λ at here. joins (codes "GOTO") Goto goto here (target-sound at))
        also (λ at here. joins (codes "DO") DoOnly do_only here (loop-sound at))
        also (λ at here. joins (codes "END") EndLoop end_loop here (loop-sound at)) also tt) word k is at here)
        (stops stop.Expression)

-- what is read of all of a text is in the grammar
whole_reading-sound : {A : Type 0} {Is : List ℕ → A → Type 0} {text : List ℕ} {r : Read A} → Sound Is text r
    → (x : A) → whole_reading r ≡ Ok x → Is text x
whole_reading-sound (stops s) y read = absurd (let no : ⊥ = cc in no)
whole_reading-sound {Is} (found t [] x is stands) y read =
    let same : x ≡ y = cc in
    subst (λ t. Is t y) (sym (stands ∙ append-nil t)) (subst (Is t) same is)
whole_reading-sound (found t (b ∷ rest) x is stands) y read =
    let more : (length (b ∷ rest) == 0) ≡ false = grind (arith, nat_tests) in
    let fails = ap (λ z. cond z (Ok x) (Err stop.Expression)) (sym more) ∙ read in
    absurd (let no : ⊥ = cc in no)

-- an expression that is all of the text has its tree by the grammar
pub whole_reading-expression-sound : (text : List ℕ) (e : Tree) → whole_reading (expression_at text) ≡ Ok e → IsExpression text e
whole_reading-expression-sound text e read = whole_reading-sound (within-sound 6 text) e read

-- a statement that is all of the text has its tree by the grammar
pub whole_reading-statement-sound : (text : List ℕ) (s : Sentence) → whole_reading (statement_at text) ≡ Ok s → IsStatement text s
whole_reading-statement-sound text s read = whole_reading-sound (statement-sound text) s read
