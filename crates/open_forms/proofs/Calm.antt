-- A text of the grammar of expressions closes each bracket that it opens, and hides no G or M word:
-- it is calm. For Sentences.
use Rattle.std.proofs.Common.{arith, ◌≡◌, ℕ, zero, suc, ◌-◌, ◌==◌, Bool, true, false, cond, not, ◌&&◌, ◌||◌, List, [], ◌∷◌, ◌++◌, refl, sym, ◌∙◌, ap, subst, append_assoc}
use Rattle.std.specs.Prelude.{codes}
use Rattle.std.specs.Char.{is_ascii_digit}
use Rattle.std.specs.List.{list_all}
use Rattle.std.proofs.lemmas.Bool.{and_parts}
use Rattle.std.proofs.lemmas.Bool.Decides.{nat_tests}
use Rattle.macro_expr.specs.declared.words.Rank.{Rank}
use Rattle.macro_expr.specs.declared.words.Rank.TheVariants.{Product, Sum}
use Rattle.macro_expr.specs.declared.tree.Op.{Op}
use Rattle.macro_expr.specs.declared.tree.Fun.{Fun}
use Rattle.macro_expr.specs.declared.tree.Rel.{Rel}
use Rattle.macro_expr.specs.Tree.{Tree, Named}
use Rattle.macro_expr.specs.Words.{operator_words, sign_words, function_words, relation_words, is_number_byte}
use Rattle.macro_expr.specs.Grammar.{IsWord, IsBracketed, closed, IsVariable, fixed, computed, IsPrim, number, variable, bracket, function, IsSigned, plain, signed, IsChain, one, more, IsSum, IsWithin}
use Rattle.macro_expr.proofs.Heads.{◌also◌, each}
use Rattle.open_forms.specs.Statements.{behind_close, text_behind_close, hides_word, is_own_m}

-- A bracket that is open before the text closes where it would without the text: what stands behind
-- it decides.
abbrev pub IsBalanced : List ℕ → Type 0
IsBalanced t = (n : ℕ) (rest : List ℕ) → behind_close n (t ++ rest) ≡ behind_close n rest

-- No word hides in the text, whatever two bytes stand before it.
abbrev pub HidesNone : List ℕ → Type 0
HidesNone rest = (far near : ℕ) → hides_word far near rest ≡ false

-- The text is quiet: if no word hides in what stands behind it, none hides in the two together. (Of
-- a program `quiet` means another thing.)
abbrev pub IsQuiet : List ℕ → Type 0
IsQuiet t = (rest : List ℕ) → HidesNone rest → HidesNone (t ++ rest)

-- The text is calm: its brackets are balanced, and it hides no word.
pub record IsCalm (t : List ℕ) : Type 0 where
  -- Its brackets are balanced.
  pub balanced : IsBalanced t
  -- It hides no word.
  pub quiet : IsQuiet t

-- Two balanced texts, one after the other, are balanced.
pub balanced_join : (t u : List ℕ) → IsBalanced t → IsBalanced u → IsBalanced (t ++ u)
balanced_join t u first second n rest = rw (append_assoc t u rest) (first n (u ++ rest) ∙ second n rest)

-- Two quiet texts, one after the other, are quiet.
quiet_join : (t u : List ℕ) → IsQuiet t → IsQuiet u → IsQuiet (t ++ u)
quiet_join t u first second rest none = subst HidesNone (sym (append_assoc t u rest)) (first (u ++ rest) (second rest none))

-- Two calm texts, one after the other, are calm.
calm_join : (t u : List ℕ) → IsCalm t → IsCalm u → IsCalm (t ++ u)
calm_join t u first second = record {
  balanced = balanced_join t u first.balanced second.balanced;
  quiet = quiet_join t u first.quiet second.quiet;
}

-- The byte is no bracket.
abbrev is_flat : ℕ → Bool
is_flat b = not (b == 91) && not (b == 93)

-- The byte is no G and no M.
abbrev is_mild : ℕ → Bool
is_mild b = not (b == 71) && not (b == 77)

-- A byte that is no bracket is balanced.
balanced_byte : (b : ℕ) → is_flat b ≡ true → IsBalanced (b ∷ [])
unfolding behind_close
balanced_byte b flat n rest = go (b == 91) (b == 93) flat
  where
    go : (x y : Bool) → (not x && not y) ≡ true → cond x (behind_close (suc n) rest) (cond y (text_behind_close n rest (behind_close (n - 1) rest)) (behind_close n rest)) ≡ behind_close n rest
    go true y e = absurd (cc)
    go false true e = absurd (cc)
    go false false e = refl

-- A text without brackets is balanced.
balanced_flat : (t : List ℕ) → list_all is_flat t ≡ true → IsBalanced t
balanced_flat [] all = λ n rest. refl
balanced_flat (b ∷ t) all =
    let parts = and_parts (is_flat b) (list_all is_flat t) all in
    balanced_join (b ∷ []) t (balanced_byte b parts.0) (balanced_flat t parts.1)

-- A byte that is no G and no M is quiet.
quiet_byte : (b : ℕ) → is_mild b ≡ true → IsQuiet (b ∷ [])
unfolding hides_word
quiet_byte b mild rest none far near = go (b == 71) (b == 77) (not (is_own_m far near rest)) mild
  where
    go : (x y z : Bool) → (not x && not y) ≡ true → ((x || (y && z)) || hides_word near b rest) ≡ false
    go true y z e = absurd (cc)
    go false true z e = absurd (cc)
    go false false z e = none near b

-- A text without G and M is quiet.
pub quiet_mild : (t : List ℕ) → list_all is_mild t ≡ true → IsQuiet t
quiet_mild [] all = λ rest none. none
quiet_mild (b ∷ t) all =
    let parts = and_parts (is_mild b) (list_all is_mild t) all in
    quiet_join (b ∷ []) t (quiet_byte b parts.0) (quiet_mild t parts.1)

-- A text without brackets, G and M is calm.
calm_bytes : (t : List ℕ) → list_all is_flat t ≡ true → list_all is_mild t ≡ true → IsCalm t
calm_bytes t flat mild = record { balanced = balanced_flat t flat; quiet = quiet_mild t mild }

-- The word MOD hides no word: its M stands before OD.
quiet_mod : IsQuiet (codes "MOD")
unfolding hides_word
quiet_mod rest none far near = go (far == 80) (near == 82)
  where
    go : (x y : Bool) → (not ((x && y) || true) || hides_word near 77 (79 ∷ 68 ∷ rest)) ≡ false
    go true true = none 79 68
    go true false = none 79 68
    go false y = none 79 68

-- The word MOD is calm.
calm_mod : IsCalm (codes "MOD")
calm_mod = record { balanced = balanced_flat (codes "MOD") refl; quiet = quiet_mod }

-- A balanced text in brackets is balanced.
balanced_bracketed : (t : List ℕ) → IsBalanced t → IsBalanced (codes "[" ++ (t ++ codes "]"))
unfolding behind_close
balanced_bracketed t inner n rest =
    let same : suc n - 1 ≡ n = omega arith in
    rw (append_assoc t (codes "]") rest) (inner (suc n) (93 ∷ rest) ∙ ap (λ k. behind_close k rest) same)

-- A calm text in brackets is calm.
calm_bracketed : (t : List ℕ) → IsCalm t → IsCalm (codes "[" ++ (t ++ codes "]"))
calm_bracketed t inner = record {
  balanced = balanced_bracketed t inner.balanced;
  quiet = quiet_join (codes "[") (t ++ codes "]") (quiet_mild (codes "[") refl)
      (quiet_join t (codes "]") inner.quiet (quiet_mild (codes "]") refl));
}

-- If each byte that passes one test passes another, so do all bytes of a text.
all_by : (p q : ℕ → Bool) → ((b : ℕ) → p b ≡ true → q b ≡ true) → (t : List ℕ) → list_all p t ≡ true → list_all q t ≡ true
all_by p q each [] all = refl
all_by p q each (b ∷ t) all =
    let parts = and_parts (p b) (list_all p t) all in
    rw (each b parts.0) (all_by p q each t parts.1)

-- A digit is no bracket, no G and no M.
digit_calm : (b : ℕ) → is_ascii_digit b ≡ true → (is_flat b ≡ true) × (is_mild b ≡ true)
digit_calm b digit = (grind (arith, nat_tests), grind (arith, nat_tests))

-- A byte of a number is no bracket, no G and no M.
number_calm : (b : ℕ) → is_number_byte b ≡ true → (is_flat b ≡ true) × (is_mild b ≡ true)
number_calm b own = (grind (arith, nat_tests), grind (arith, nat_tests))

-- A text of digits is calm.
pub calm_digits : (t : List ℕ) → list_all is_ascii_digit t ≡ true → IsCalm t
calm_digits t all =
    calm_bytes t (all_by is_ascii_digit is_flat (λ b e. (digit_calm b e).0) t all) (all_by is_ascii_digit is_mild (λ b e. (digit_calm b e).1) t all)

-- A text of bytes of a number is calm.
calm_number : (t : List ℕ) → list_all is_number_byte t ≡ true → IsCalm t
calm_number t all =
    calm_bytes t (all_by is_number_byte is_flat (λ b e. (number_calm b e).0) t all) (all_by is_number_byte is_mild (λ b e. (number_calm b e).1) t all)

-- The word is calm, whatever it means.
abbrev Calms : {A : Type 0} → List ℕ → A → Type 0
Calms word meaning = IsCalm word

-- The words of operators are calm.
calm_operator : (rank : Rank) (word : List ℕ) (op : Op) → IsWord (operator_words rank) word op → IsCalm word
calm_operator Product word op is =
    each (operator_words Product) Calms
    (calm_bytes (codes "*") refl refl also calm_bytes (codes "/") refl refl also calm_bytes (codes "AND") refl refl also calm_mod also tt) word op is
calm_operator Sum word op is =
    each (operator_words Sum) Calms
    (calm_bytes (codes "+") refl refl also calm_bytes (codes "-") refl refl also calm_bytes (codes "OR") refl refl also calm_bytes (codes "XOR") refl refl also tt) word op is

-- Signs are calm.
calm_sign : (word : List ℕ) (minus : Bool) → IsWord sign_words word minus → IsCalm word
calm_sign word minus is =
    each sign_words Calms (calm_bytes (codes "+") refl refl also calm_bytes (codes "-") refl refl also tt) word minus is

-- The words of functions are calm.
calm_function : (word : List ℕ) (f : Fun) → IsWord function_words word f → IsCalm word
calm_function word f is =
    each function_words Calms
    (calm_bytes (codes "SQRT") refl refl also calm_bytes (codes "ABS") refl refl also calm_bytes (codes "FIX") refl refl
    also calm_bytes (codes "FUP") refl refl also calm_bytes (codes "ROUND") refl refl also tt) word f is

-- The word is balanced, whatever it means.
abbrev Balances : {A : Type 0} → List ℕ → A → Type 0
Balances word meaning = IsBalanced word

-- The words of relations are balanced: EQ, NE, GT ..
pub balanced_relation : (word : List ℕ) (rel : Rel) → IsWord relation_words word rel → IsBalanced word
balanced_relation word rel is =
    each relation_words Balances
    (balanced_flat (codes "EQ") refl also balanced_flat (codes "NE") refl also balanced_flat (codes "GT") refl
    also balanced_flat (codes "GE") refl also balanced_flat (codes "LT") refl also balanced_flat (codes "LE") refl also tt) word rel is

-- The grammar `Is` reads calm texts alone, whatever their trees.
abbrev AreCalm : (List ℕ → Tree → Type 0) → Type 0
AreCalm Is = (t : List ℕ) (e : Tree) → Is t e → IsCalm t

-- A grammar of what stands in brackets, which reads calm texts alone.
module _ (Inner : List ℕ → Tree → Type 0) (inner : AreCalm Inner) where
  -- A bracketed expression is calm if what stands in it is.
  pub bracketed_calm : AreCalm (IsBracketed Inner)
  bracketed_calm _ _ (closed t e is) = calm_bracketed t (inner t e is)

  -- A variable is calm.
  pub variable_calm : (t : List ℕ) (v : Named) → IsVariable Inner t v → IsCalm t
  variable_calm _ _ (fixed t n is) = calm_join (codes "#") t (calm_bytes (codes "#") refl refl) (calm_digits t is.bytes)
  variable_calm _ _ (computed t e is) = calm_join (codes "#") t (calm_bytes (codes "#") refl refl) (bracketed_calm t e is)

  -- A number, a variable, a bracketed expression and a function of one are calm.
  prim_calm : AreCalm (IsPrim Inner)
  prim_calm _ _ (number t micro is) = calm_number t is.bytes
  prim_calm _ _ (variable t v is) = variable_calm t v is
  prim_calm _ _ (bracket t e is) = bracketed_calm t e is
  prim_calm _ _ (function name t f e is_name is) = calm_join name t (calm_function name f is_name) (bracketed_calm t e is)

  -- A value, with a sign or without, is calm.
  signed_calm : AreCalm (IsSigned Inner)
  signed_calm _ _ (plain t e is) = prim_calm t e is
  signed_calm _ _ (signed word t minus e is_word is) = calm_join word t (calm_sign word minus is_word) (prim_calm t e is)

  -- Operands in a row with operators between them are calm if each operand is.
  chain_calm : (rank : Rank) (First Operand : List ℕ → Tree → Type 0) → AreCalm First → AreCalm Operand → AreCalm (IsChain rank First Operand)
  chain_calm rank First Operand first operand _ _ (one t e is) = first t e is
  chain_calm rank First Operand first operand _ _ (more t word u op left right before is_word is) =
      calm_join t (word ++ u) (chain_calm rank First Operand first operand t left before)
      (calm_join word u (calm_operator rank word op is_word) (operand u right is))

  -- A sum is calm: a row of products, which may be one value.
  pub sum_calm : AreCalm (IsSum Inner)
  sum_calm =
      chain_calm Sum (IsChain Product (IsSigned Inner) (IsPrim Inner)) (IsChain Product (IsPrim Inner) (IsPrim Inner))
      (chain_calm Product (IsSigned Inner) (IsPrim Inner) signed_calm prim_calm)
      (chain_calm Product (IsPrim Inner) (IsPrim Inner) prim_calm prim_calm)

-- An expression is calm, however deep its brackets are.
pub within_calm : (n : ℕ) → AreCalm (IsWithin n)
within_calm zero t e is = absurd is
within_calm (suc n) t e is = sum_calm (IsWithin n) (within_calm n) t e is
