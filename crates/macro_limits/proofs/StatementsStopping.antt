-- Where the reading of a macro statement stops its cause stands; where a cause of statements alone
-- stands, it stops for that. For the law `reading_stops_for_a_cause` (src/refusals.rt).
use Rattle.std.proofs.Common.{◌≡◌, ℕ, ◌==◌, nat_lt, Bool, true, false, cond, List, [], ◌∷◌, ◌++◌, length, Some, Ok, Err, pos, refl, sym, ◌∙◌, ap, subst, arith, append_assoc}
use Rattle.std.specs.Prelude.{codes}
use Rattle.std.specs.Char.{is_ascii_digit}
use Rattle.std.proofs.lemmas.Bool.{ltb-true, lt-ltb}
use Rattle.std.proofs.lemmas.Bool.Decides.{nat_tests}
use Rattle.std.proofs.lemmas.List.{append-nil}
use Rattle.nc_number.specs.Results.{◌>>=◌}
use Rattle.macro_expr.specs.declared.stop.Stop.{Stop}
use Rattle.macro_expr.specs.declared.stop.Stop.TheVariants as stop
use Rattle.macro_expr.specs.declared.words.Keyword.{Keyword}
use Rattle.macro_expr.specs.Tree.{Number, look, Test, ToNumber, ToNumberOf, Sentence, Assign, Goto, IfGoto, IfThen, DoOnly, EndLoop}
use Rattle.macro_expr.specs.Words.{first_word, loop_words, keyword_words, text_behind, keyword, loop_of, loop_word, run, behind_run, begins}
use Rattle.macro_expr.specs.Reading.{Read, word_at, digits_at, bracket_at, variable_at, expression_inside}
use Rattle.macro_expr.specs.Statements.{expression_at, condition_at, or_no_condition, test_at, aim_at_number, target_at, loop_found, loop_at, assignment_at, branch_by, branch_at, if_at, while_at, statement_for, statement_by, statement_at, whole_reading}
use Rattle.macro_expr.specs.Grammar.{IsWord, IsNumber, number, plain, one, IsWhole, IsWithin, IsExpression, IsTest, IsTarget, line_of, line_in, assigns, IsStatement, assign, goto, if_goto, if_then}
use Rattle.macro_expr.proofs.Heads.{behind_word, leading, meant, ◌also◌, each, run_splits, run_all}
use Rattle.macro_expr.proofs.Steps.{Sound, found, stops}
use Rattle.macro_expr.proofs.Sound.{literal_step, variable-sound, within-sound}
use Rattle.macro_expr.proofs.StatementsComplete.{condition_read, digits_target, looping, test_read}
use Rattle.macro_expr.proofs.StatementsSound.{IsAssign, condition-sound}
use Rattle.macro_limits.specs.Refusals.{Lacks, Never, HasNo, HasNoLoop, LacksCondition, no_if, no_while, LacksLoop, no_do, no_end, no_while_do, IsPast, HasPastTarget, past_goto, past_if, OfStatement}
use Rattle.macro_limits.proofs.Stopping.{Caused, went, stopped, Stops, after, lasts, joins_stop, word_stop, run_ends, bracket-stops, variable-stops, within-stops}

-- what is shown after a condition, and of a text without one, holds of the step that reads it after
-- IF or WHILE
test_step : {B : Type 0} (G : Read B → Type 0) (text : List ℕ) (f : Test × List ℕ → Read B)
    → ((c rest : List ℕ) (test : Test) → IsTest c test → text ≡ c ++ rest → G (f (test, rest)))
    → (HasNo IsTest text → G (Err stop.Condition)) → G (test_at text >>= f)
unfolding test_at
test_step {B} G text f next fails = go (condition_at text) refl (condition-sound text)
  where
    go : (r : Read Test) → condition_at text ≡ r → Sound IsTest text r → G (or_no_condition r >>= f)
    go _ read (found c rest test is stands) = next c rest test is stands
    go _ read (stops s) =
        fails (λ t rest test stands is.
        let reads = ap condition_at stands ∙ condition_read t test is rest in
        let no : ⊥ = cc in no)

-- what is shown after the number of a loop, and of a text without one, holds of the step that reads
-- it
loop_step : {B : Type 0} (G : Read B → Type 0) (text : List ℕ) (f : ℕ × List ℕ → Read B)
    → ((m : ℕ) → IsWord loop_words (run is_ascii_digit text) m → G (f (m, behind_run is_ascii_digit text)))
    → (HasNoLoop text → G (Err stop.Loop)) → G (loop_at text >>= f)
unfolding loop_at loop_of loop_word
loop_step {B} G text f next fails =
    let digits : List ℕ = run is_ascii_digit text in
    meant (λ o. loop_of digits ≡ o → G (loop_found o (behind_run is_ascii_digit text) >>= f)) loop_words digits
    (λ m is known. next m is)
    (λ none.
    fails (λ m is.
    let known = each loop_words (λ w m. loop_of w ≡ Some m) (refl also refl also refl also tt) digits m is in
    cc)) refl

-- what is shown after digits, and of reading that stops there, holds of the step that reads them
digits_step : {B : Type 0} (G : Read B → Type 0) (text : List ℕ) (f : ℕ × List ℕ → Read B)
    → ((n : ℕ) → IsWhole (run is_ascii_digit text) n → G (f (n, behind_run is_ascii_digit text)))
    → G (Err stop.Expression) → G (digits_at text >>= f)
unfolding digits_at
digits_step {B} G text f next fails =
    literal_step (λ r. G (r >>= f)) (run is_ascii_digit text) _
    (λ is short. next _ (record { bytes = run_all is_ascii_digit text; literal = is; short = short; value = refl }))
    fails

-- `Other` says what stands where reading stops for a cause that only statements have.
module _ (Other : Stop → Type 0) where
  -- The next three: a target and an assignment stop where a cause stands; for the latter, `0` is an
  -- expression.
  target-stops : (text : List ℕ) → (IsPast text → Other stop.Sequence) → Caused IsTarget Other text (target_at text)
  unfolding target_at
  target-stops text past = go (begins is_ascii_digit text) (begins (λ b. b == 35) text)
    where
      in_range : (n : ℕ) → IsWhole (run is_ascii_digit text) n → (large : Bool) → nat_lt 99999 n ≡ large
          → Caused IsTarget Other text
          (cond large (Err stop.Sequence) (Ok (ToNumber n, behind_run is_ascii_digit text)))
      in_range n is true large =
          stopped stop.Sequence (past (record {
            digits = run is_ascii_digit text;
            rest = behind_run is_ascii_digit text;
            number = n;
            stands = run_splits is_ascii_digit text;
            whole = is;
            ends = run_ends is_ascii_digit text;
            large = ltb-true 99999 n large;
          }))
      in_range n is false small = went _

      go : (a b : Bool) → Caused IsTarget Other text (cond a (digits_at text >>= λ n. aim_at_number n.0 n.1)
          (cond b (variable_at (expression_inside 5) text >>= λ v. Ok (ToNumberOf (look v.0), v.1))
          (bracket_at (expression_inside 5) text >>= λ e. Ok (ToNumberOf e.0, e.1))))
      go true b =
          digits_step (Caused IsTarget Other text) text (λ n. aim_at_number n.0 n.1)
          (λ n is. in_range n is (nat_lt 99999 n) refl) (stopped stop.Expression tt)
      go false true =
          joins_stop [] (λ v. ToNumberOf (look v)) line_of refl
          (variable-stops Other (expression_inside 5) (IsWithin 5) (within-sound 5) (within-stops Other 5) text)
      go false false =
          joins_stop [] ToNumberOf line_in refl
          (bracket-stops Other (expression_inside 5) (IsWithin 5) (within-sound 5) (within-stops Other 5) text)

  zero_read : IsExpression (codes "0") (Number (pos 0))
  zero_read =
      let zero : IsNumber (codes "0") (pos 0) = record { bytes = refl; literal = refl; short = refl; value = refl } in
      one _ _ (one _ _ (plain _ _ (number (codes "0") (pos 0) zero)))

  assignment-stops : Stops Other IsAssign assignment_at
  unfolding assignment_at
  assignment-stops text =
      after _ [] refl
      (λ t v is. (
        codes "=0",
        t ++ (codes "=" ++ codes "0"),
        (v, Number (pos 0)),
        refl,
        assigns t (codes "0") v (Number (pos 0)) is zero_read,
      ))
      (variable-sound (expression_inside 5) (IsWithin 5) (within-sound 5) text)
      (variable-stops Other (expression_inside 5) (IsWithin 5) (within-sound 5) (within-stops Other 5) text)
      (λ t rest v is_v here.
      word_stop _ (codes "=") rest (λ right equals.
      lasts _ (t ++ codes "=") right (simp (here, equals, append_assoc))
      (λ u e is. ([], t ++ (codes "=" ++ u), (v, e), simp (append_assoc, append-nil), assigns t u v e is_v is))
      (within-stops Other 6 right)))

-- this reading of the statement goes on, or stops where a cause stands
abbrev Due : List ℕ → Read Sentence → Type 0
Due text = Caused IsStatement (OfStatement text) text

-- what is read after IF stops where a cause stands
if-stops : (text at : List ℕ) → text ≡ codes "IF" ++ at → Due text (if_at at)
unfolding if_at branch_at
if-stops text at here =
    test_step (Due text) at _
    (λ c rest test is_test stands.
    behind_word (λ o. Due text (branch_by test o rest)) (codes "GOTO") rest
    (λ jump goes.
    let whole_reading : text ≡ codes "IF" ++ (c ++ (codes "GOTO" ++ jump)) = simp (here, stands, goes) in
    lasts _ (codes "IF" ++ (c ++ codes "GOTO")) jump (whole_reading ∙ simp append_assoc)
    (λ t aim is. (
      [],
      codes "IF" ++ (c ++ (codes "GOTO" ++ t)),
      IfGoto test aim,
      simp (append_assoc, append-nil),
      if_goto c t test aim is_test is,
    ))
    (target-stops (OfStatement text) jump (λ past. subst HasPastTarget (sym whole_reading) (past_if c jump test is_test past))))
    (word_stop _ (codes "THEN") rest (λ body does.
    lasts _ (codes "IF" ++ (c ++ codes "THEN")) body (simp (here, stands, does, append_assoc))
    (λ t a is. (
      [],
      codes "IF" ++ (c ++ (codes "THEN" ++ t)),
      IfThen test a.0 a.1,
      simp (append_assoc, append-nil),
      if_then c t test a.0 a.1 is_test is,
    ))
    (assignment-stops (OfStatement text) body))))
    (λ none. stopped stop.Condition (subst LacksCondition (sym here) (no_if at none)))

-- what is read after WHILE stops where a cause stands
while-stops : (text at : List ℕ) → text ≡ codes "WHILE" ++ at → Due text (while_at at)
unfolding while_at
while-stops text at here =
    test_step (Due text) at _
    (λ c rest test is_test stands.
    word_stop _ (codes "DO") rest (λ digits does.
    let whole_reading : text ≡ codes "WHILE" ++ (c ++ (codes "DO" ++ digits)) = simp (here, stands, does) in
    loop_step (Due text) digits _ (λ m is. went _)
    (λ none. stopped stop.Loop (subst LacksLoop (sym whole_reading) (no_while_do c digits test is_test none)))))
    (λ none. stopped stop.Condition (subst LacksCondition (sym here) (no_while at none)))

-- what is read after GOTO stops where a cause stands
goto-stops : (text at : List ℕ) → text ≡ codes "GOTO" ++ at → Due text (target_at at >>= λ aim. Ok (Goto aim.0, aim.1))
goto-stops text at here =
    joins_stop (codes "GOTO") Goto goto here
    (target-stops (OfStatement text) at (λ past. subst HasPastTarget (sym here) (past_goto at past)))

-- what stands behind the word that begins a statement
abbrev Behind : List ℕ → List ℕ → Keyword → Type 0
Behind text word k = (at : List ℕ) → text ≡ word ++ at → Due text (statement_for k at)

-- each statement stops where a cause stands
statement-stops : (text : List ℕ) → Due text (statement_at text)
unfolding statement_at keyword
statement-stops text = go (begins (λ b. b == 35) text)
  where
    do_stops : (at : List ℕ) → text ≡ codes "DO" ++ at → Due text (loop_at at >>= λ m. Ok (DoOnly m.0, m.1))
    do_stops at here =
        loop_step (Due text) at _ (λ m is. went _)
        (λ none. stopped stop.Loop (subst LacksLoop (sym here) (no_do at none)))

    end_stops : (at : List ℕ) → text ≡ codes "END" ++ at → Due text (loop_at at >>= λ m. Ok (EndLoop m.0, m.1))
    end_stops at here =
        loop_step (Due text) at _ (λ m is. went _)
        (λ none. stopped stop.Loop (subst LacksLoop (sym here) (no_end at none)))

    go : (b : Bool) → Due text
        (cond b (assignment_at text >>= λ a. Ok (Assign a.0.0 a.0.1, a.1))
        (statement_by (first_word keyword_words text)))
    go true =
        joins_stop [] (λ a. Assign a.0 a.1) (λ t a is. assign t a.0 a.1 is) refl
        (assignment-stops (OfStatement text) text)
    go false =
        leading (λ o. Due text (statement_by o)) keyword_words text
        (λ word at k is here.
        each keyword_words (Behind text)
        (if-stops text also while-stops text also goto-stops text also do_stops also end_stops also tt)
        word k is at here)
        (stopped stop.Expression tt)

-- the reading of all of a text stops where its part stops, or because something stands after it
whole_reading-stops : {A : Type 0} {Is : List ℕ → A → Type 0} {Other : Stop → Type 0} {text : List ℕ} {r : Read A}
    → Caused Is Other text r → (s : Stop) → whole_reading r ≡ Err s → Lacks Is Other text s
whole_reading-stops {Is} {Other} {text} (stopped s lacks) s' read =
    let same : s ≡ s' = cc in subst (Lacks Is Other text) same lacks
whole_reading-stops (went (x, [])) s read = absurd (let no : ⊥ = cc in no)
whole_reading-stops {Is} {Other} {text} (went (x, b ∷ rest)) s read =
    let more : (length (b ∷ rest) == 0) ≡ false = grind (arith, nat_tests) in
    let fails = ap (λ z. cond z (Ok x) (Err stop.Expression)) (sym more) ∙ read in
    let same : stop.Expression ≡ s = cc in
    subst (Lacks Is Other text) same tt

-- what an expression lacks where its reading stops
pub expression_lacks : (text : List ℕ) (s : Stop) → whole_reading (expression_at text) ≡ Err s → Lacks IsExpression Never text s
expression_lacks text s read = whole_reading-stops (within-stops Never 6 text) s read

-- what a statement lacks where its reading stops
pub statement_lacks : (text : List ℕ) (s : Stop) → whole_reading (statement_at text) ≡ Err s
    → Lacks IsStatement (OfStatement text) text s
statement_lacks text s read = whole_reading-stops (statement-stops text) s read

-- a target above the range stops the reading
target_fails : (u : List ℕ) → IsPast u → target_at u ≡ Err stop.Sequence
target_fails u past =
    ap target_at past.stands ∙ digits_target past.digits past.rest past.number past.whole past.ends
    ∙ ap (λ x. cond x (Err stop.Sequence) (Ok (ToNumber past.number, past.rest))) (lt-ltb 99999 past.number past.large)

-- if no condition stands at the head of the text, the step that reads one stops for a condition
test_fails : {B : Type 0} (u : List ℕ) (f : Test × List ℕ → Read B) → HasNo IsTest u
    → (test_at u >>= f) ≡ Err stop.Condition
test_fails u f lacks =
    test_step (λ r. r ≡ Err stop.Condition) u f (λ c rest test is stands. absurd (lacks c rest test stands is))
    (λ none. refl)

-- if no number of a loop stands at the head of the text, the step that reads one stops for a loop
loop_fails : {B : Type 0} (u : List ℕ) (f : ℕ × List ℕ → Read B) → HasNoLoop u → (loop_at u >>= f) ≡ Err stop.Loop
loop_fails u f lacks = loop_step (λ r. r ≡ Err stop.Loop) u f (λ m is. absurd (lacks m is)) (λ none. refl)

-- a cause that only a statement has stops its reading
statement_fails : (text : List ℕ) (s : Stop) → OfStatement text s → statement_at text ≡ Err s
unfolding statement_at keyword if_at while_at branch_at word_at
statement_fails text stop.Expression never = absurd never
statement_fails text stop.Function never = absurd never
statement_fails _ stop.Condition (no_if u lacks) = test_fails u _ lacks
statement_fails _ stop.Condition (no_while u lacks) = test_fails u _ lacks
statement_fails _ stop.Loop (no_do u lacks) = loop_fails u _ lacks
statement_fails _ stop.Loop (no_end u lacks) = loop_fails u _ lacks
statement_fails _ stop.Loop (no_while_do c u test is lacks) =
    ap (λ r. r >>= looping) (test_read c test is (codes "DO" ++ u))
    ∙ loop_fails u _ lacks
statement_fails _ stop.Sequence (past_goto u past) = ap (λ r. r >>= λ aim. Ok (Goto aim.0, aim.1)) (target_fails u past)
statement_fails _ stop.Sequence (past_if c u test is past) =
    ap (λ r. r >>= λ test. branch_by test.0 (text_behind (codes "GOTO") test.1) test.1)
    (test_read c test is (codes "GOTO" ++ u))
    ∙ ap (λ r. r >>= λ aim. Ok (IfGoto test aim.0, aim.1)) (target_fails u past)

-- what only a statement lacks stops the reading of a whole text
pub whole_statement_fails : (text : List ℕ) (s : Stop) → OfStatement text s → whole_reading (statement_at text) ≡ Err s
whole_statement_fails text s cause = ap whole_reading (statement_fails text s cause)
