-- Each macro expression and statement of the grammar passes no limit: by induction over its parts.
-- For both laws of src/law.rt, by way of Exact too.
use Rattle.std.proofs.Common.{◌≡◌, ℕ, zero, suc, ◌+◌, ◌≤◌, Bool, true, false, cond, List, [], ◌∷◌, ◌++◌, length, nat_lt, refl, sym, ◌∙◌, ap, subst, arith, append_assoc}
use Rattle.std.specs.Prelude.{codes}
use Rattle.std.specs.Char.{is_ascii_digit}
use Rattle.std.specs.List.{list_all}
use Rattle.std.proofs.lemmas.List.{append-nil}
use Rattle.nc_number.specs.Literals.{significant}
use Rattle.macro_expr.specs.declared.words.Rank.{Rank}
use Rattle.macro_expr.specs.declared.words.Rank.TheVariants.{Product, Sum}
use Rattle.macro_expr.specs.declared.tree.Op.{Op}
use Rattle.macro_expr.specs.Tree.{Tree, Named, Test, Sentence}
use Rattle.macro_expr.specs.Words.{operator_words, sign_words, function_words, relation_words, loop_words}
use Rattle.macro_expr.specs.Grammar.{IsWord, IsBracketed, closed, IsVariable, fixed, computed, IsPrim, number, variable, bracket, function, IsSigned, plain, signed, IsChain, one, more, IsProduct, IsSum, IsWithin, IsExpression, IsTest, compares, IsTarget, line, line_of, line_in, IsAssignment, assigns, IsStatement, assign, goto, if_goto, if_then, while_do, do_only, end_loop}
use Rattle.macro_expr.proofs.Heads.{Each, ◌also◌, each}
use Rattle.macro_limits.specs.Refused.{IsWithinLimits}
use Rattle.macro_limits.proofs.Scan.{passes_limit, text_within}
use Rattle.macro_limits.proofs.Numbers.{Starts, Ends, Passes, Opens, opens_passes, is_plain_word, no_digit, word_ends, open_ends, close_ends, head_digits, number_passes, whole_passes}

-- each text of a kind passes no limit, if so many brackets are open before it
abbrev AllPass : {A : Type 0} → ℕ → (List ℕ → A → Type 0) → Type 0
AllPass {A} opened Texts = (t : List ℕ) (x : A) → Texts t x → Passes opened t

-- each word of a table is plain, if the table's words are
word_is_plain : {A : Type 0} (words : List (List ℕ × A)) → Each words (λ w _. is_plain_word w ≡ true)
    → (word : List ℕ) (m : A) → IsWord words word m → is_plain_word word ≡ true
word_is_plain words all word m is = each words (λ w _. is_plain_word w ≡ true) all word m is

-- an operator is a plain word
operator_plain : (rank : Rank) (word : List ℕ) (op : Op) → IsWord (operator_words rank) word op
    → is_plain_word word ≡ true
operator_plain Product = word_is_plain (operator_words Product) (refl also refl also refl also refl also tt)
operator_plain Sum = word_is_plain (operator_words Sum) (refl also refl also refl also refl also tt)

-- a plain word and then a part that passes no limit begin no number and pass no limit
word_opens : (word t : List ℕ) (opened : ℕ) → opened ≤ 5 → is_plain_word word ≡ true → Passes opened t
    → Opens opened (word ++ t)
word_opens word t opened few is_plain passes rest end =
    let apart : word ++ (t ++ rest) ≡ (word ++ t) ++ rest = simp append_assoc in
    subst (Ends opened) apart (word_ends word (t ++ rest) opened few is_plain (passes rest end))

-- a part that passes no limit, and then one that begins no number, pass no limit
then : (t u : List ℕ) (opened : ℕ) → Passes opened t → Opens opened u → Passes opened (t ++ u)
then t u opened passes opens rest end =
    let apart : t ++ (u ++ rest) ≡ (t ++ u) ++ rest = simp append_assoc in
    subst (Starts opened) apart (passes (u ++ rest) (opens rest end))

-- brackets around a part that passes no limit one bracket deeper pass no limit
inside_opens : (t : List ℕ) (opened : ℕ) → suc opened ≤ 5 → Passes (suc opened) t
    → Opens opened (codes "[" ++ (t ++ codes "]"))
inside_opens t opened few passes rest end =
    let apart : t ++ (93 ∷ rest) ≡ (t ++ codes "]") ++ rest = simp append_assoc in
    let small : opened ≤ 5 = omega (arith, few) in
    subst (λ xs. Ends opened (91 ∷ xs)) apart
    (open_ends (t ++ (93 ∷ rest)) opened small
    (passes (93 ∷ rest) (close_ends rest opened few (λ last quiet. end.1 last))))

-- operands with operators between them pass no limit
chain_passes : (rank : Rank) (First Operand : List ℕ → Tree → Type 0) (opened : ℕ) → opened ≤ 5
    → AllPass opened First → AllPass opened Operand → AllPass opened (IsChain rank First Operand)
chain_passes rank First Operand opened few first operand _ _ (one t e is) = first t e is
chain_passes rank First Operand opened few first operand _ _ (more t word u op left right chain is_word is) =
    then t (word ++ u) opened (chain_passes rank First Operand opened few first operand t left chain)
    (word_opens word u opened few (operator_plain rank word op is_word) (operand u right is))

-- `opened` brackets are open before the text. `Inner` says what may stand in brackets, and passes
-- no limit with one more bracket open.
module _ (Inner : List ℕ → Tree → Type 0) (opened : ℕ) (few : opened ≤ 5)
    (inner : (t : List ℕ) (e : Tree) → Inner t e → (suc opened ≤ 5) × Passes (suc opened) t) where
  -- The next six: brackets, a variable, an operand, one with a sign and a sum pass no limit, if
  -- what stands in brackets does not.
  bracket_opens : (t : List ℕ) (e : Tree) → IsBracketed Inner t e → Opens opened t
  bracket_opens _ _ (closed t e is) = let i = inner t e is in inside_opens t opened i.0 i.1

  bracket_passes : AllPass opened (IsBracketed Inner)
  bracket_passes t e is = opens_passes opened t (bracket_opens t e is)

  variable_opens : (t : List ℕ) (v : Named) → IsVariable Inner t v → Opens opened t
  variable_opens _ _ (fixed t n is) = word_opens (codes "#") t opened few refl (whole_passes t n opened few is)
  variable_opens _ _ (computed t e is) = word_opens (codes "#") t opened few refl (bracket_passes t e is)

  prim_passes : AllPass opened (IsPrim Inner)
  prim_passes _ _ (number t micro is) = number_passes t micro opened few is
  prim_passes _ _ (variable t v is) = opens_passes opened t (variable_opens t v is)
  prim_passes _ _ (bracket t e is) = bracket_passes t e is
  prim_passes _ _ (function name t f e is_word is) =
      opens_passes opened (name ++ t) (word_opens name t opened few
      (word_is_plain function_words (refl also refl also refl also refl also refl also tt) name f is_word)
      (bracket_passes t e is))

  signed_passes : AllPass opened (IsSigned Inner)
  signed_passes _ _ (plain t e is) = prim_passes t e is
  signed_passes _ _ (signed word t minus e is_word is) =
      opens_passes opened (word ++ t) (word_opens word t opened few
      (word_is_plain sign_words (refl also refl also tt) word minus is_word) (prim_passes t e is))

  sum_passes : AllPass opened (IsSum Inner)
  sum_passes =
      chain_passes Sum (IsChain Product (IsSigned Inner) (IsPrim Inner)) (IsProduct Inner) opened few
      (chain_passes Product (IsSigned Inner) (IsPrim Inner) opened few signed_passes prim_passes)
      (chain_passes Product (IsPrim Inner) (IsPrim Inner) opened few prim_passes prim_passes)

-- an expression passes no limit, if its brackets and those around it are at most five together
levels_pass : (n opened : ℕ) → opened + n ≤ 6 → AllPass opened (IsWithin n)
levels_pass zero opened few t e is = absurd is
levels_pass (suc zero) opened few t e is =
    sum_passes (IsWithin zero) opened (omega (arith, few)) (λ t e is. absurd is) t e is
levels_pass (suc (suc n)) opened few t e is =
    sum_passes (IsWithin (suc n)) opened (omega (arith, few))
    (λ t e is. (omega (arith, few), levels_pass (suc n) (suc opened) (omega (arith, few)) t e is)) t e is

-- an expression passes no limit
expression_passes : AllPass 0 IsExpression
expression_passes = levels_pass 6 0 (omega arith)

-- what stands in the brackets of a statement passes no limit with one bracket open
in_brackets : (t : List ℕ) (e : Tree) → IsWithin 5 t e → (1 ≤ 5) × Passes 1 t
in_brackets t e is = (omega arith, levels_pass 5 1 (omega arith) t e is)

-- before a text no bracket is open, which is few enough
none_open : 0 ≤ 5
none_open = omega arith

-- a plain word and then a part that passes no limit, if no bracket is open
behind_word : (word t : List ℕ) → is_plain_word word ≡ true → Passes 0 t → Opens 0 (word ++ t)
behind_word word t is_plain passes = word_opens word t 0 none_open is_plain passes

-- a condition begins no number, and passes no limit
test_opens : (t : List ℕ) (test : Test) → IsTest t test → Opens 0 t
test_opens _ _ (compares t word u rel left right is_left is_word is_right) =
    let is_plain =
    word_is_plain relation_words (refl also refl also refl also refl also refl also refl also tt) word rel is_word in
    let apart : codes "[" ++ ((t ++ (word ++ u)) ++ codes "]") ≡ codes "[" ++ (t ++ (word ++ (u ++ codes "]"))) =
    simp append_assoc in
    let behind = word_opens word u 1 (omega arith) is_plain (in_brackets u right is_right).1 in
    subst (Opens 0) apart (inside_opens (t ++ (word ++ u)) 0 (omega arith)
    (then t (word ++ u) 1 (in_brackets t left is_left).1 behind))

-- the target of a GOTO passes no limit
target_passes : AllPass 0 IsTarget
target_passes _ _ (line t n is small) = whole_passes t n 0 none_open is
target_passes _ _ (line_of t v is) = opens_passes 0 t (variable_opens (IsWithin 5) 0 none_open in_brackets t v is)
target_passes _ _ (line_in t e is) = bracket_passes (IsWithin 5) 0 none_open in_brackets t e is

-- an assignment passes no limit
assignment_passes : (t : List ℕ) (v : Named) (e : Tree) → IsAssignment t v e → Passes 0 t
assignment_passes _ _ _ (assigns t u v e is_variable is) =
    then t (codes "=" ++ u) 0 (opens_passes 0 t (variable_opens (IsWithin 5) 0 none_open in_brackets t v is_variable))
    (behind_word (codes "=") u refl (expression_passes u e is))

-- the word is digits, and few enough
abbrev IsShort : List ℕ → ℕ → Type 0
IsShort word m =
    ◌≡◌ {A = Bool × Bool} (list_all is_ascii_digit word, nat_lt 8 (length (significant word))) (true, false)

-- the number of a loop passes no limit
loop_passes : (word : List ℕ) (m : ℕ) → IsWord loop_words word m → Passes 0 word
loop_passes word m is rest end last quiet =
    let b = each loop_words IsShort (refl also refl also refl also tt) word m is in
    head_digits word rest 0 last none_open (ap (λ q. q.0) b) end.1 (no_digit rest end.0)
    (ap (λ x. cond x (nat_lt 6 (length word)) (nat_lt 8 (length (significant word)))) quiet ∙ ap (λ q. q.1) b)

-- a word, a condition, a word and what stands after it pass no limit
behind_test : (word c middle t : List ℕ) (test : Test) → is_plain_word word ≡ true → is_plain_word middle ≡ true
    → IsTest c test → Passes 0 t → Passes 0 (word ++ (c ++ (middle ++ t)))
behind_test word c middle t test first second is passes =
    opens_passes 0 (word ++ (c ++ (middle ++ t)))
    (behind_word word (c ++ (middle ++ t)) first
    (then c (middle ++ t) 0 (opens_passes 0 c (test_opens c test is)) (behind_word middle t second passes)))

-- a word and what stands after it pass no limit
word_passes : (word t : List ℕ) → is_plain_word word ≡ true → Passes 0 t → Passes 0 (word ++ t)
word_passes word t is_plain passes = opens_passes 0 (word ++ t) (behind_word word t is_plain passes)

-- a statement passes no limit
statement_passes : AllPass 0 IsStatement
statement_passes _ _ (assign t v e is) = assignment_passes t v e is
statement_passes _ _ (goto t aim is) = word_passes (codes "GOTO") t refl (target_passes t aim is)
statement_passes _ _ (if_goto c t test aim is_test is) =
    behind_test (codes "IF") c (codes "GOTO") t test refl refl is_test (target_passes t aim is)
statement_passes _ _ (if_then c t test v e is_test is) =
    behind_test (codes "IF") c (codes "THEN") t test refl refl is_test (assignment_passes t v e is)
statement_passes _ _ (while_do c word test m is_test is) =
    behind_test (codes "WHILE") c (codes "DO") word test refl refl is_test (loop_passes word m is)
statement_passes _ _ (do_only word m is) = word_passes (codes "DO") word refl (loop_passes word m is)
statement_passes _ _ (end_loop word m is) = word_passes (codes "END") word refl (loop_passes word m is)

-- a text that passes no limit, with nothing before and after it, is within its limits
alone : (t : List ℕ) → Passes 0 t → IsWithinLimits t
alone t passes = text_within t (ap (passes_limit 0 0) (sym (append-nil t)) ∙ passes [] (refl, λ last. refl) 0 refl)

-- a text that is an expression is within its limits
pub expression_limits : (t : List ℕ) (e : Tree) → IsExpression t e → IsWithinLimits t
expression_limits t e is = alone t (expression_passes t e is)

-- a text that is a statement is within its limits
pub statement_limits : (t : List ℕ) (s : Sentence) → IsStatement t s → IsWithinLimits t
statement_limits t s is = alone t (statement_passes t s is)
