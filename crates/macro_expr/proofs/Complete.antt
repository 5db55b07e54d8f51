-- A macro expression that has a tree by the grammar is read as that tree. For StatementsComplete
-- and Sound.
use Rattle.std.proofs.Common.{◌≡◌, ℕ, zero, suc, ◌/◌, ◌==◌, Bool, true, false, cond, List, [], ◌∷◌, ◌++◌, None, Some, Result, Ok, Err, ℤ, unsigned_abs, refl, sym, ◌∙◌, ap, arith, append_assoc}
use Rattle.std.specs.Prelude.{codes}
use Rattle.std.specs.Char.{is_ascii_digit}
use Rattle.std.specs.List.{list_all}
use Rattle.std.proofs.lemmas.Bool.{and_parts, or_parts}
use Rattle.std.proofs.lemmas.Bool.Decides.{nat_tests}
use Rattle.nc_number.specs.Literals.{is_literal, has_too_many_digits, literal_micro}
use Rattle.nc_number.specs.Results.{◌>>=◌}
use Rattle.macro_expr.specs.declared.stop.Stop.{Stop}
use Rattle.macro_expr.specs.declared.stop.Stop.TheVariants as stop
use Rattle.macro_expr.specs.declared.tree.Fun.{Fun}
use Rattle.macro_expr.specs.declared.tree.Op.{Op}
use Rattle.macro_expr.specs.declared.words.Rank.TheVariants.{Product, Sum}
use Rattle.macro_expr.specs.Tree.{Tree, Number, Named, Fixed, Computed, look, Signed, Applied}
use Rattle.macro_expr.specs.Words.{operator_words, sign_words, function_words, operator, sign, function_of, function_word, is_letter, is_number_byte, run, behind_run, begins}
use Rattle.macro_expr.specs.Reading.{Read, literal_of, number_at, digits_at, word_at, bracket_at, variable_behind, variable_at, function_reading, function_at, prim_at, signed_by, signed_at, product_at, sum_at, expression_inside}
use Rattle.macro_expr.specs.Grammar.{IsWord, IsWhole, IsBracketed, closed, IsVariable, fixed, computed, IsPrim, number, variable, bracket, function, IsSigned, plain, signed, IsChain, IsProduct, IsSum, IsWithin}
use Rattle.macro_expr.proofs.Heads.{◌also◌, each, run_whole}
use Rattle.macro_expr.proofs.ChainLaws.{IsRead, chained, chain_read}

-- the text begins with nothing that could go on a number
abbrev pub NoNumber : List ℕ → Type 0
NoNumber rest = begins is_number_byte rest ≡ false

-- the text begins with nothing that could go on a number, nor with an operator of a product
abbrev pub NoProduct : List ℕ → Type 0
NoProduct rest = NoNumber rest × (operator Product rest ≡ None)

-- the text begins with no operator at all that could go on the expression
abbrev pub NoSum : List ℕ → Type 0
NoSum rest = NoNumber rest × (operator Product rest ≡ None) × (operator Sum rest ≡ None)

-- an operator of a product goes on no number
product_quiet : (word : List ℕ) (op : Op) → IsWord (operator_words Product) word op
    → (rest : List ℕ) → NoNumber (word ++ rest)
product_quiet =
    each (operator_words Product) (λ w op. (rest : List ℕ) → NoNumber (w ++ rest))
    ((λ _. refl) also (λ _. refl) also (λ _. refl) also (λ _. refl) also tt)

-- an operator of a sum goes on no product
sum_quiet : (word : List ℕ) (op : Op) → IsWord (operator_words Sum) word op
    → (rest : List ℕ) → NoProduct (word ++ rest)
unfolding operator
sum_quiet =
    each (operator_words Sum) (λ w op. (rest : List ℕ) → NoProduct (w ++ rest))
    ((λ _. (refl, refl)) also (λ _. (refl, refl)) also (λ _. (refl, refl)) also (λ _. (refl, refl)) also tt)

-- a text that goes on no number begins with no digit
no_digit : (rest : List ℕ) → NoNumber rest → begins is_ascii_digit rest ≡ false
no_digit [] quiet = refl
no_digit (b ∷ rest) quiet = (or_parts (is_ascii_digit b) (b == 46) quiet).0

-- a number of few enough digits is read as its millionths
literal_read : (t : List ℕ) → is_literal t ≡ true → has_too_many_digits t ≡ false → literal_of t ≡ Ok (literal_micro t)
unfolding literal_of
literal_read t is short =
    ap (λ x. cond x (cond (has_too_many_digits t) (Err stop.Expression) (Ok (literal_micro t))) (Err stop.Expression))
    is
    ∙ ap (λ x. cond x (Err stop.Expression) (Ok (literal_micro t))) short

-- what is made of the number that a run of bytes writes
abbrev pub valued : {A : Type 0} → (ℕ → Bool) → (ℤ → A) → List ℕ → ℤ → Read A
valued p value text m = Ok (value m, behind_run p text)

-- a run of digits is read as its number, if no such byte follows
run_read : {A : Type 0} (p : ℕ → Bool) (value : ℤ → A) (t rest : List ℕ) → list_all p t ≡ true → is_literal t ≡ true
    → has_too_many_digits t ≡ false → begins p rest ≡ false
    → (literal_of (run p (t ++ rest)) >>= valued p value (t ++ rest)) ≡ Ok (value (literal_micro t), rest)
run_read p value t rest bytes is short quiet =
    let cut = run_whole p t rest bytes quiet in
    ap (λ r. r >>= valued p value (t ++ rest)) (ap literal_of cut.0 ∙ literal_read t is short)
    ∙ ap (λ xs. Ok (value (literal_micro t), xs)) cut.1

-- a whole number is read as it is
pub digits_read : IsRead (λ rest. begins is_ascii_digit rest ≡ false) IsWhole digits_at
unfolding digits_at
digits_read t n is rest quiet =
    run_read is_ascii_digit (λ m. unsigned_abs m / 1000000) t rest is.bytes is.literal is.short quiet
    ∙ ap (λ m. Ok (m, rest)) (sym is.value)

-- a literal has a byte, and it passes
pub begins_it : (p : ℕ → Bool) (t rest : List ℕ) → list_all p t ≡ true → is_literal t ≡ true
    → begins p (t ++ rest) ≡ true
begins_it p [] rest all is = absurd (let no : ⊥ = cc in no)
begins_it p (b ∷ t) rest all is = (and_parts (p b) (list_all p t) all).0

-- a byte of a number is no sign, no bracket and no letter
no_mark : (b : ℕ) → is_number_byte b ≡ true
    → ((b == 35) ≡ false) × ((b == 91) ≡ false) × (is_letter b ≡ false) × ((b == 43) ≡ false) × ((b == 45) ≡ false)
no_mark b is = (
  grind (arith, nat_tests),
  grind (arith, nat_tests),
  grind (arith, nat_tests),
  grind (arith, nat_tests),
  grind (arith, nat_tests),
)

-- three steps of reading are the first two and then the third, or the first and then the other two
bind_bind : {A B C : Type 0} (r : Result A Stop) (f : A → Result B Stop) (g : B → Result C Stop)
    → (r >>= λ x. f x >>= g) ≡ ((r >>= f) >>= g)
bind_bind (Ok x) f g = refl
bind_bind (Err e) f g = refl

-- the first product of a sum, with its sign
abbrev pub first_at : (List ℕ → Read Tree) → List ℕ → Read Tree
first_at inner = chained Product (signed_at inner) (prim_at inner)

-- a sum is a chain, whose first term may have a sign
pub sum_is : (inner : List ℕ → Read Tree) (text : List ℕ)
    → sum_at inner text ≡ chained Sum (first_at inner) (product_at inner) text
unfolding sum_at
sum_is inner text = bind_bind (signed_at inner text) _ _

-- a variable that was read, as an expression
abbrev pub looked : Named × List ℕ → Read Tree
looked v = Ok (look v.0, v.1)

-- `Inner` says what may stand in brackets, and `inner` reads it before a bracket that closes.
module _ (inner : List ℕ → Read Tree) (Inner : List ℕ → Tree → Type 0)
    (inner_reads : (t : List ℕ) (e : Tree) → Inner t e → (rest : List ℕ)
    → inner (t ++ (codes "]" ++ rest)) ≡ Ok (e, codes "]" ++ rest)) where
  -- an expression in brackets is read
  pub bracket_read : (t : List ℕ) (e : Tree) → IsBracketed Inner t e → (rest : List ℕ)
      → bracket_at inner (t ++ rest) ≡ Ok (e, rest)
  unfolding bracket_at word_at
  bracket_read _ _ (closed t e is) rest =
      let f : (Tree × List ℕ) → Read Tree = λ x. word_at (codes "]") x.1 >>= λ r. Ok (x.0, r) in
      ap (λ xs. inner xs >>= f) (let e : (t ++ codes "]") ++ rest ≡ t ++ (codes "]" ++ rest) = simp append_assoc in e)
      ∙ ap (λ r. r >>= f) (inner_reads t e is rest)

  -- a variable is read
  pub variable_read : IsRead NoNumber (IsVariable Inner) (variable_at inner)
  unfolding variable_at variable_behind word_at
  variable_read _ _ (fixed t n is) rest quiet =
      let f : (ℕ × List ℕ) → Read Named = λ n. Ok (Fixed n.0, n.1) in
      ap (λ x. cond x (digits_at (t ++ rest) >>= f) (bracket_at inner (t ++ rest) >>= λ e. Ok (Computed e.0, e.1)))
      (begins_it is_ascii_digit t rest is.bytes is.literal)
      ∙ ap (λ r. r >>= f) (digits_read t n is rest (no_digit rest quiet))
  variable_read _ _ (computed _ _ (closed t e is)) rest quiet =
      ap (λ r. r >>= λ e. Ok (Computed e.0, e.1)) (bracket_read _ e (closed t e is) rest)

  -- how the name of a function begins a text, before a bracket
  abbrev Names : List ℕ → Fun → Type 0
  Names name f = (rest : List ℕ) → (sign (name ++ (codes "[" ++ rest)) ≡ None)
      × (prim_at inner (name ++ (codes "[" ++ rest)) ≡ function_reading inner (Some f) (codes "[" ++ rest))

  -- the name of each function begins a text as `Names` says
  names_it : (name : List ℕ) (f : Fun) → IsWord function_words name f → Names name f
  unfolding sign prim_at function_at function_of function_word
  names_it =
      each function_words Names
      ((λ _. (refl, refl)) also (λ _. (refl, refl)) also (λ _. (refl, refl)) also (λ _. (refl, refl))
      also (λ _. (refl, refl)) also tt)

  -- an operand begins with no sign
  prim_begins : (t : List ℕ) (e : Tree) → IsPrim Inner t e → (rest : List ℕ) → NoNumber rest
      → (sign (t ++ rest) ≡ None) × (prim_at inner (t ++ rest) ≡ Ok (e, rest))
  unfolding sign prim_at number_at
  prim_begins _ _ (number [] micro is) rest quiet = absurd (let h = is.literal in let no : ⊥ = cc in no)
  prim_begins _ _ (number (b ∷ t) micro is) rest quiet =
      let no = no_mark b (and_parts (is_number_byte b) (list_all is_number_byte t) is.bytes).0 in (
        rw (no.3, no.4) refl,
        rw (no.0, no.1, no.2)
            (run_read is_number_byte Number (b ∷ t) rest is.bytes is.literal is.short quiet
            ∙ ap (λ m. Ok (Number m, rest)) (sym is.value)),
      )
  prim_begins _ _ (variable _ _ (fixed t n is)) rest quiet =
      (refl, ap (λ r. r >>= looked) (variable_read _ _ (fixed t n is) rest quiet))
  prim_begins _ _ (variable _ _ (computed t e is)) rest quiet =
      (refl, ap (λ r. r >>= looked) (variable_read _ _ (computed t e is) rest quiet))
  prim_begins _ _ (bracket _ _ (closed t e is)) rest quiet = (refl, bracket_read _ e (closed t e is) rest)
  prim_begins _ _ (function name _ f _ is_name (closed t e is)) rest quiet =
      let after : List ℕ = (t ++ codes "]") ++ rest in
      let apart : (name ++ (codes "[" ++ (t ++ codes "]"))) ++ rest ≡ name ++ (codes "[" ++ after) =
      simp append_assoc in
      let named = names_it name f is_name after in (
        ap sign apart ∙ named.0,
        ap (prim_at inner) apart ∙ named.1
            ∙ ap (λ r. r >>= λ e. Ok (Applied f e.0, e.1)) (bracket_read _ e (closed t e is) rest),
      )

  -- These four are read as their trees: an operand, one with a sign, a product, and the first
  -- product of a sum.
  prim_read : IsRead NoNumber (IsPrim Inner) (prim_at inner)
  prim_read t e is rest quiet = (prim_begins t e is rest quiet).1

  signed_read : IsRead NoNumber (IsSigned Inner) (signed_at inner)
  unfolding signed_at sign
  signed_read _ _ (plain t e is) rest quiet =
      ap (λ o. signed_by inner o (t ++ rest)) (prim_begins t e is rest quiet).0 ∙ prim_read t e is rest quiet
  signed_read _ _ (signed word t minus e is_word is) rest quiet =
      let apart : (word ++ t) ++ rest ≡ word ++ (t ++ rest) = simp append_assoc in
      let Found : List ℕ → Bool → Type 0 = λ w m. sign (w ++ (t ++ rest)) ≡ Some (m, t ++ rest) in
      ap (signed_at inner) apart
      ∙ ap (λ o. signed_by inner o (word ++ (t ++ rest)))
      (each sign_words Found (refl also refl also tt) word minus is_word)
      ∙ ap (λ r. r >>= (λ e. Ok (Signed minus e.0, e.1))) (prim_read t e is rest quiet)

  product_read : IsRead NoProduct (IsProduct Inner) (product_at inner)
  unfolding product_at
  product_read t e is rest quiet =
      chain_read Product _ _ (prim_at inner) (prim_at inner) NoNumber prim_read prim_read product_quiet
      t e is rest quiet.0 quiet.1

  first_read : IsRead NoProduct (IsChain Product (IsSigned Inner) (IsPrim Inner)) (first_at inner)
  first_read t e is rest quiet =
      chain_read Product _ _ (signed_at inner) (prim_at inner) NoNumber signed_read prim_read product_quiet
      t e is rest quiet.0 quiet.1

  -- a sum is read as its tree
  pub sum_read : IsRead NoSum (IsSum Inner) (sum_at inner)
  sum_read t e is rest quiet =
      sum_is inner (t ++ rest)
      ∙ chain_read Sum _ _ (first_at inner) (product_at inner) NoProduct first_read product_read sum_quiet
      t e is rest (quiet.0, quiet.1) quiet.2

-- a closing bracket goes on no expression
pub behind_bracket : (rest : List ℕ) → NoSum (codes "]" ++ rest)
unfolding operator
behind_bracket rest = (refl, refl, refl)

-- an expression whose brackets nest less than so deep is read as its tree
pub within_read : (n : ℕ) → IsRead NoSum (IsWithin n) (expression_inside n)
unfolding expression_inside
within_read zero t e is rest quiet = absurd is
within_read (suc n) t e is rest quiet =
    sum_read (expression_inside n) (IsWithin n) (λ t e is rest. within_read n t e is (codes "]" ++ rest) (behind_bracket rest))
    t e is rest quiet
