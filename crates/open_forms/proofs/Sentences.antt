-- A statement of the grammar leads where its open reading says. For Widened.
use Rattle.std.proofs.Common.{arith, drop, ◌≤◌, ◌%◌, ◌≡◌, ℕ, suc, ◌+◌, ◌*◌, ◌/◌, ◌^◌, ◌==◌, true, false, cond, not, List, [], ◌∷◌, ◌++◌, Some, Ok, pos, unsigned_abs, refl, sym, ◌∙◌, ap, subst, append_assoc, append-nil}
use Rattle.std.specs.Prelude.{codes, nat_le}
use Rattle.std.specs.Char.{is_ascii_digit}
use Rattle.std.specs.List.{list_all, after_first, prefix_len}
use Rattle.std.specs.Str.Parse.{digits_value}
use Rattle.std.proofs.lemmas.Bool.{and_parts}
use Rattle.std.proofs.lemmas.Bool.Decides.{nat_tests}
use Rattle.nc_number.specs.Arithmetic.{whole_of}
use Rattle.nc_number.specs.Literals.{literal_micro, word_literal, is_point, behind_sign, has_minus, whole_part, fraction_part}
use Rattle.block_order.specs.declared.control.Control.{Control}
use Rattle.block_order.specs.declared.control.Control.TheVariants as control
use Rattle.block_words.specs.Codes.{natural_number}
use Rattle.block_forms.specs.Controls.{number_of_aim, control_of_sentence}
use Rattle.macro_expr.specs.Tree.{Tree, Named, Test, Aim, Sentence}
use Rattle.macro_expr.specs.Words.{loop_words}
use Rattle.macro_expr.specs.Grammar.{IsWord, IsWhole, closed, IsVariable, fixed, computed, IsWithin, IsTest, compares, IsTarget, line, line_of, line_in, IsAssignment, assigns, IsStatement, assign, goto, if_goto, if_then, while_do, do_only, end_loop}
use Rattle.macro_expr.proofs.Heads.{◌also◌, each}
use Rattle.open_forms.specs.Statements.{behind_close, hides_word, behind_condition, assignment, fixed_target, is_computed, target, loop_number, behind_if, behind_while, control_of_statement}
use Rattle.open_forms.proofs.Calm.{IsBalanced, HidesNone, IsQuiet, balanced_join, balanced_relation, quiet_mild, within_calm, calm_digits, bracketed_calm}

-- Behind a condition of the grammar the open reading finds the rest.
behind_test : (c : List ℕ) (test : Test) (rest : List ℕ) → IsTest c test → behind_condition (c ++ rest) ≡ Some rest
unfolding behind_close
behind_test _ _ rest (compares t word u rel left right first is_word second) =
    let balanced : IsBalanced (t ++ (word ++ u)) =
    balanced_join t (word ++ u) (within_calm 5 t left first).balanced
    (balanced_join word u (balanced_relation word rel is_word) (within_calm 5 u right second).balanced) in
    let shape : (t ++ (word ++ (u ++ codes "]"))) ++ rest ≡ (t ++ (word ++ u)) ++ (93 ∷ rest) = simp (append_assoc) in
    ap (behind_close 0) shape ∙ balanced 0 (93 ∷ rest)

-- An empty text hides nothing.
nothing_hides : HidesNone []
unfolding hides_word
nothing_hides far near = refl

-- The text is `#` (35) and a rest that hides no word.
abbrev IsHead : List ℕ → List ℕ → Type 0
IsHead t rest = (t ≡ 35 ∷ rest) × IsQuiet rest

-- A variable is a `#` (35), and then a number or a bracket, which hides no word.
variable_head : (t : List ℕ) (v : Named) → IsVariable (IsWithin 5) t v → (rest : List ℕ) × IsHead t rest
variable_head _ _ (fixed t n is) = (t, (refl, quiet_of_digits t is))
  where
    quiet_of_digits : (t : List ℕ) → IsWhole t n → IsQuiet t
    quiet_of_digits t is = (calm_digits t is.bytes).quiet
variable_head _ _ (computed t e is) = (t, (refl, (bracketed_calm (IsWithin 5) (within_calm 5) t e is).quiet))

-- An assignment of the grammar leads to the next block. The name stands for the assignment.
assigned : (t : List ℕ) (v : Named) (e : Tree) → IsAssignment t v e
    → (rest : List ℕ) × ((t ≡ 35 ∷ rest) × (assignment rest ≡ Ok control.Next))
assigned _ _ _ (assigns t u v e is_variable is) =
    let head = variable_head t v is_variable in
    let quiet : HidesNone (head.0 ++ (61 ∷ u)) =
    head.1.1 (61 ∷ u) (quiet_mild (61 ∷ []) refl u (subst HidesNone (append-nil u) ((within_calm 6 u e is).quiet [] nothing_hides))) in
    (head.0 ++ (61 ∷ u), (ap (λ x. x ++ (codes "=" ++ u)) head.1.0, rw (quiet 0 0) refl))

-- A number of millionths that is a multiple of 1,000,000 is whole.
whole_is : (a : ℕ) → a % 1000000 ≡ 0 → natural_number (whole_of (pos a)) ≡ Some (a / 1000000)
whole_is a multiple = rw multiple refl

-- A text of digits alone has no fraction.
no_fraction : (t : List ℕ) → list_all is_ascii_digit t ≡ true → after_first is_point t ≡ []
no_fraction [] all = refl
no_fraction (b ∷ t) all =
    let parts = and_parts (is_ascii_digit b) (list_all is_ascii_digit t) all in
    let other : (b == 46) ≡ false = let digit = parts.0 in grind (arith, nat_tests) in
    let count : ℕ = prefix_len (λ b. not (b == 46)) t in
    let more : 1 + count + 1 ≡ suc (count + 1) = omega arith in
    ap (λ x. drop (cond (not x) (1 + count) 0 + 1) (b ∷ t)) other
    ∙ ap (λ n. drop n (b ∷ t)) more ∙ no_fraction t parts.1

-- A text of digits alone has no sign.
unsigned_digits : (t : List ℕ) → list_all is_ascii_digit t ≡ true → (has_minus t ≡ false) × (behind_sign t ≡ t)
unsigned_digits [] all = (refl, refl)
unsigned_digits (b ∷ t) all =
    let parts = and_parts (is_ascii_digit b) (list_all is_ascii_digit t) all in
    let digit = parts.0 in
    let plus : (b == 43) ≡ false = grind (arith, nat_tests) in
    let minus : (b == 45) ≡ false = grind (arith, nat_tests) in
    (minus, rw (plus, minus) refl)

-- So many whole units are a multiple of 1,000,000 millionths.
multiple : (k : ℕ) → (k * 1000000 + 0 * 10 ^ 6) % 1000000 ≡ 0
multiple k = omega arith

-- A text of digits alone writes a whole number.
digits_number : (t : List ℕ) → list_all is_ascii_digit t ≡ true → (a : ℕ) × ((literal_micro t ≡ pos a) × (a % 1000000 ≡ 0))
digits_number t all =
    let plain = unsigned_digits t all in
    let whole : ℕ = digits_value 10 (whole_part t) in
    let fraction : fraction_part t ≡ [] = rw plain.1 (no_fraction t all) in
    (whole * 1000000 + 0 * 10 ^ 6, (rw (plain.0, fraction) refl, multiple whole))

-- A sequence number up to 99,999 that is written out is the target of a jump.
written_target : (t : List ℕ) (n : ℕ) → IsWhole t n → n ≤ 99999 → fixed_target (word_literal t) ≡ Ok (control.Goto (Some n))
written_target t n is small =
    let number = digits_number t is.bytes in
    let value : n ≡ number.0 / 1000000 = is.value ∙ ap (λ z. unsigned_abs z / 1000000) number.1.0 in
    let whole : natural_number (whole_of (literal_micro t)) ≡ Some n =
    ap (λ z. natural_number (whole_of z)) number.1.0 ∙ whole_is number.0 number.1.1 ∙ ap Some (sym value) in
    let within : nat_le n 99999 ≡ true = grind (arith, nat_tests) in
    rw (is.short, whole, within) refl

-- A text of digits begins with no `#` and no bracket, so as a target it is not computed.
first_digit : (t : List ℕ) → list_all is_ascii_digit t ≡ true → is_computed t ≡ false
first_digit [] all = refl
first_digit (b ∷ t) all =
    let parts = and_parts (is_ascii_digit b) (list_all is_ascii_digit t) all in
    let digit = parts.0 in grind (arith, nat_tests)

-- A target of the grammar is that of the open reading.
target_is : (t : List ℕ) (aim : Aim) → IsTarget t aim → target t ≡ Ok (control.Goto (number_of_aim aim))
target_is _ _ (line t n is small) = rw (first_digit t is.bytes, is.literal, is.bytes) (written_target t n is small)
target_is _ _ (line_of _ _ (fixed t n is)) = refl
target_is _ _ (line_of _ _ (computed t e is)) = refl
target_is _ _ (line_in _ _ (closed t e is)) = refl

-- The text writes the number of a loop, which leads so.
abbrev LoopIs : (ℕ → Control) → List ℕ → ℕ → Type 0
LoopIs kind word m = loop_number kind word ≡ Ok (kind m)

-- A word of the grammar that is the number of a loop leads as that loop.
loop_is : (kind : ℕ → Control) (word : List ℕ) (m : ℕ) → IsWord loop_words word m → LoopIs kind word m
loop_is kind word m is = each loop_words (LoopIs kind) (refl also refl also refl also tt) word m is

-- An IF with a jump leads to its target.
jump_behind : (c t : List ℕ) (test : Test) (aim : Aim) → IsTest c test → IsTarget t aim
    → control_of_statement (codes "IF" ++ (c ++ (codes "GOTO" ++ t))) ≡ Ok (control.Goto (number_of_aim aim))
jump_behind c t test aim is_test is = ap behind_if (behind_test c test (codes "GOTO" ++ t) is_test) ∙ target_is t aim is

-- An IF with an assignment leads to the next block.
assignment_behind : (c t : List ℕ) (test : Test) (v : Named) (e : Tree) → IsTest c test → IsAssignment t v e
    → control_of_statement (codes "IF" ++ (c ++ (codes "THEN" ++ t))) ≡ Ok control.Next
assignment_behind c t test v e is_test is =
    let head = assigned t v e is in
    ap behind_if (behind_test c test (codes "THEN" ++ t) is_test)
    ∙ ap (λ t. behind_if (Some (codes "THEN" ++ t))) head.1.0 ∙ head.1.1

-- A WHILE begins its loop.
loop_behind : (c word : List ℕ) (test : Test) (m : ℕ) → IsTest c test → IsWord loop_words word m
    → control_of_statement (codes "WHILE" ++ (c ++ (codes "DO" ++ word))) ≡ Ok (control.While m)
loop_behind c word test m is_test is =
    ap behind_while (behind_test c test (codes "DO" ++ word) is_test) ∙ loop_is control.While word m is

-- A statement of the grammar leads where its tree says.
pub statement_leads : (text : List ℕ) (sentence : Sentence) → IsStatement text sentence
    → control_of_statement text ≡ Ok (control_of_sentence sentence)
statement_leads _ _ (assign t v e is) =
    let head = assigned t v e is in ap control_of_statement head.1.0 ∙ head.1.1
statement_leads _ _ (goto t aim is) = target_is t aim is
statement_leads _ _ (if_goto c t test aim is_test is) = jump_behind c t test aim is_test is
statement_leads _ _ (if_then c t test v e is_test is) = assignment_behind c t test v e is_test is
statement_leads _ _ (while_do c word test m is_test is) = loop_behind c word test m is_test is
statement_leads _ _ (do_only word m is) = loop_is control.Do word m is
statement_leads _ _ (end_loop word m is) = loop_is control.EndLoop word m is
