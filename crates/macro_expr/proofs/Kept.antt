-- What holds of each tree of a macro expression or statement by the grammar: how deep its right
-- operands stand, and how many variables it names. For `parse_expr` and `parse_statement`
-- (src/parse.rt).
use Rattle.std.proofs.Common.{◌≡◌, ℕ, zero, suc, ◌+◌, ◌*◌, ◌≤◌, List, [], ◌∷◌, ◌++◌, arith}
use Rattle.std.specs.Prelude.{codes}
use Rattle.std.specs.List.{All}
use Rattle.std.proofs.Math.Nat.{max-le}
use Rattle.std.proofs.lemmas.List.Elements.{All-nil, All-cons, All-append}
use Rattle.std.proofs.lemmas.List.Sums.{sum_by-append}
use Rattle.macro_expr.specs.declared.words.Rank.{Rank}
use Rattle.macro_expr.specs.declared.words.Rank.TheVariants.{Product, Sum}
use Rattle.macro_expr.specs.Tree.{Tree, right_depth, variables, Named, look, Test, Aim, Sentence, evaluated_test, evaluated_name, evaluated_aim, trees_of_sentence, variables_in, IsLoop, IsAimInRange, IsInRange}
use Rattle.macro_expr.specs.Words.{loop_words}
use Rattle.macro_expr.specs.Limits.{variable_signs}
use Rattle.macro_expr.specs.Grammar.{IsWord, IsBracketed, closed, IsVariable, fixed, computed, IsPrim, number, variable, bracket, function, IsSigned, plain, signed, IsChain, one, more, IsProduct, IsSum, IsWithin, IsExpression, IsTest, compares, IsTarget, line, line_of, line_in, IsAssignment, assigns, IsStatement, assign, goto, if_goto, if_then, while_do, do_only, end_loop}
use Rattle.macro_expr.proofs.Heads.{◌also◌, each}

-- right operands of the tree stand at most so deep, and it names no more variables than its text
-- has `#`
pub record Kept (most : ℕ) (t : List ℕ) (e : Tree) : Type 0 where
  -- how deep its right operands stand
  pub deep : right_depth e ≤ most
  -- it names no more variables than its text has `#`
  pub named : variables e ≤ variable_signs t

-- each tree of such a text is kept
abbrev AreKept : ℕ → (List ℕ → Tree → Type 0) → Type 0
AreKept most Texts = (t : List ℕ) (e : Tree) → Texts t e → Kept most t e

-- the signs of variables in two texts are those of both
signs-append : (t u : List ℕ) → variable_signs (t ++ u) ≡ variable_signs t + variable_signs u
signs-append t u = sum_by-append _ t u

-- more text in front names no fewer variables
behind : (a : ℕ) (front t : List ℕ) → a ≤ variable_signs t → a ≤ variable_signs (front ++ t)
behind a front t named = rw (signs-append front t) (omega arith)

-- in a chain of operators the right operands stand one deeper than in its operands
chain_kept : (rank : Rank) (First Operand : List ℕ → Tree → Type 0) (most : ℕ)
    → AreKept most First → AreKept most Operand → AreKept (suc most) (IsChain rank First Operand)
chain_kept rank First Operand most first operand _ _ (one t e is) =
    let kept = first t e is in record { deep = omega (arith, kept.deep); named = kept.named }
chain_kept rank First Operand most first operand _ _ (more t word u op left right chain is_word is) =
    let before = chain_kept rank First Operand most first operand t left chain in
    let kept = operand u right is in
    record {
      deep = max-le before.deep (omega (arith, kept.deep));
      named = omega (arith, before.named, kept.named, signs-append t (word ++ u), signs-append word u);
    }

-- `Inner` says what may stand in brackets; its trees are kept with right operands `most` deep.
module _ (Inner : List ℕ → Tree → Type 0) (most : ℕ) (inner : AreKept most Inner) where
  -- These four: brackets, a variable, an operand and one with a sign keep it.
  bracket_kept : AreKept most (IsBracketed Inner)
  bracket_kept _ _ (closed t e is) =
      let kept = inner t e is in
      record {
        deep = kept.deep;
        named =
            behind (variables e) (codes "[") (t ++ codes "]") (omega (arith, kept.named, signs-append t (codes "]")));
      }

  variable_kept : (t : List ℕ) (v : Named) → IsVariable Inner t v → Kept most t (look v)
  variable_kept _ _ (fixed t n is) = record { deep = omega arith; named = omega (arith, signs-append (codes "#") t) }
  variable_kept _ _ (computed t e is) =
      let kept = bracket_kept t e is in
      record { deep = kept.deep; named = omega (arith, kept.named, signs-append (codes "#") t) }

  prim_kept : AreKept most (IsPrim Inner)
  prim_kept _ _ (number t micro is) = record { deep = omega arith; named = omega arith }
  prim_kept _ _ (variable t v is) = variable_kept t v is
  prim_kept _ _ (bracket t e is) = bracket_kept t e is
  prim_kept _ _ (function name t f e is_word is) =
      let kept = bracket_kept t e is in record { deep = kept.deep; named = behind (variables e) name t kept.named }

  signed_kept : AreKept most (IsSigned Inner)
  signed_kept _ _ (plain t e is) = prim_kept t e is
  signed_kept _ _ (signed word t minus e is_word is) =
      let kept = prim_kept t e is in record { deep = kept.deep; named = behind (variables e) word t kept.named }

  -- each bracket allows two more, one of a sum and one of a product
  sum_kept : AreKept (suc (suc most)) (IsSum Inner)
  sum_kept =
      chain_kept Sum (IsChain Product (IsSigned Inner) (IsPrim Inner)) (IsProduct Inner) (suc most)
      (chain_kept Product (IsSigned Inner) (IsPrim Inner) most signed_kept prim_kept)
      (chain_kept Product (IsPrim Inner) (IsPrim Inner) most prim_kept prim_kept)

-- an expression whose brackets nest less than n deep has right operands at most 2 n deep
within_kept : (n : ℕ) → AreKept (2 * n) (IsWithin n)
within_kept zero t e is = absurd is
within_kept (suc n) t e is =
    let kept = sum_kept (IsWithin n) (2 * n) (within_kept n) t e is in
    record { deep = omega (arith, kept.deep); named = kept.named }

-- an expression has right operands at most 12 deep, and names no more variables than its text has
-- `#`
pub expression_kept : AreKept 12 IsExpression
expression_kept = within_kept 6

-- what stands in brackets is no deeper than an expression
inside_kept : AreKept 12 (IsWithin 5)
inside_kept t e is = let kept = within_kept 5 t e is in record { deep = omega (arith, kept.deep); named = kept.named }

-- the right operands of a tree stand at most 12 deep
abbrev IsShallow : Tree → Type 0
IsShallow e = right_depth e ≤ 12

-- each of these trees is shallow, and all together name no more variables than the text has `#`
pub record AllKept (t : List ℕ) (trees : List Tree) : Type 0 where
  -- right operands of each tree stand at most 12 deep
  pub shallow : All IsShallow trees
  -- all together name no more variables than the text has `#`
  pub named : variables_in trees ≤ variable_signs t

-- the list without trees is kept by any text
no_tree : (t : List ℕ) → AllKept t []
no_tree t = record { shallow = All-nil IsShallow; named = omega arith }

-- one tree that is kept is a list that is kept
alone : (t : List ℕ) (e : Tree) → Kept 12 t e → AllKept t (e ∷ [])
alone t e kept = record {
  shallow = All-cons IsShallow e [] kept.deep (All-nil IsShallow);
  named = omega (arith, kept.named);
}

-- two lists of trees name the variables of both
pub variables-append : (xs ys : List Tree) → variables_in (xs ++ ys) ≡ variables_in xs + variables_in ys
variables-append [] ys = omega arith
variables-append (x ∷ xs) ys = let further = variables-append xs ys in omega arith

-- the trees of two texts are kept by both texts together
both : {t u : List ℕ} {xs ys : List Tree} → AllKept t xs → AllKept u ys → AllKept (t ++ u) (xs ++ ys)
both {t} {u} {xs} {ys} left right = record {
  shallow = All-append IsShallow xs ys left.shallow right.shallow;
  named = rw (variables-append xs ys) (omega (arith, left.named, right.named, signs-append t u));
}

-- the trees of a condition are kept
test_kept : (t : List ℕ) (test : Test) → IsTest t test → AllKept t (evaluated_test test)
test_kept _ _ (compares t word u rel left right is_left is_word is_right) =
    both (no_tree (codes "[")) (both (alone t left (inside_kept t left is_left))
    (both (no_tree word) (both (alone u right (inside_kept u right is_right)) (no_tree (codes "]")))))

-- the tree of the target of a jump is kept, and a number that is written out is in range
aim_kept : (t : List ℕ) (aim : Aim) → IsTarget t aim → AllKept t (evaluated_aim aim) × IsAimInRange aim
aim_kept _ _ (line t n is small) = (no_tree t, small)
aim_kept _ _ (line_of t v is) = (alone t (look v) (variable_kept (IsWithin 5) 12 inside_kept t v is), tt)
aim_kept _ _ (line_in t e is) = (alone t e (bracket_kept (IsWithin 5) 12 inside_kept t e is), tt)

-- the tree of the number of an assigned variable is kept
name_kept : (t : List ℕ) (v : Named) → IsVariable (IsWithin 5) t v → AllKept t (evaluated_name v)
name_kept _ _ (fixed t n is) = no_tree (codes "#" ++ t)
name_kept _ _ (computed t e is) =
    both (no_tree (codes "#")) (alone t e (bracket_kept (IsWithin 5) 12 inside_kept t e is))

-- the trees of an assignment are kept
assignment_kept : (t : List ℕ) (v : Named) (e : Tree) → IsAssignment t v e → AllKept t (evaluated_name v ++ e ∷ [])
assignment_kept _ _ _ (assigns t u v e is_variable is) =
    both (name_kept t v is_variable) (both (no_tree (codes "=")) (alone u e (expression_kept u e is)))

-- a loop is 1, 2 or 3
loop_in_range : (word : List ℕ) (m : ℕ) → IsWord loop_words word m → IsLoop m
loop_in_range =
    each loop_words (λ w m. IsLoop m)
    ((omega arith, omega arith) also (omega arith, omega arith) also (omega arith, omega arith) also tt)

-- the trees of a statement are kept, and its numbers are in range
pub statement_kept : (t : List ℕ) (s : Sentence) → IsStatement t s → AllKept t (trees_of_sentence s) × IsInRange s
statement_kept _ _ (assign t v e is) = (assignment_kept t v e is, tt)
statement_kept _ _ (goto t aim is) =
    let kept = aim_kept t aim is in (both (no_tree (codes "GOTO")) kept.0, kept.1)
statement_kept _ _ (if_goto c t test aim is_test is) =
    let kept = aim_kept t aim is in
    (both (no_tree (codes "IF")) (both (test_kept c test is_test) (both (no_tree (codes "GOTO")) kept.0)), kept.1)
statement_kept _ _ (if_then c t test v e is_test is) =
    let kept = both (no_tree (codes "THEN")) (assignment_kept t v e is) in
    (both (no_tree (codes "IF")) (both (test_kept c test is_test) kept), tt)
statement_kept _ _ (while_do c word test m is_test is) =
    let kept = both (test_kept c test is_test) (no_tree (codes "DO" ++ word)) in
    (both (no_tree (codes "WHILE")) kept, loop_in_range word m is)
statement_kept _ _ (do_only word m is) = (no_tree (codes "DO" ++ word), loop_in_range word m is)
statement_kept _ _ (end_loop word m is) = (no_tree (codes "END" ++ word), loop_in_range word m is)
