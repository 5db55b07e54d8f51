-- What is read of a macro expression has its tree by the grammar. For StatementsSound.
use Rattle.std.proofs.Common.{◌≡◌, ℕ, zero, suc, ◌/◌, ◌==◌, Bool, true, false, cond, List, [], ◌++◌, Ok, Err, ℤ, unsigned_abs, refl, sym, subst, append_assoc}
use Rattle.std.specs.Prelude.{codes}
use Rattle.std.specs.Char.{is_ascii_digit}
use Rattle.std.specs.List.{list_all}
use Rattle.nc_number.specs.Literals.{is_literal, has_too_many_digits, literal_micro}
use Rattle.nc_number.specs.Results.{◌>>=◌}
use Rattle.macro_expr.specs.declared.stop.Stop.TheVariants as stop
use Rattle.macro_expr.specs.declared.words.Rank.TheVariants.{Product, Sum}
use Rattle.macro_expr.specs.Tree.{Tree, Number, Fixed, Computed, look, Signed, Applied}
use Rattle.macro_expr.specs.Words.{sign_words, function_words, sign, function_of, function_word, is_letter, is_number_byte, run, behind_run, begins}
use Rattle.macro_expr.specs.Reading.{Read, literal_of, number_at, digits_at, bracket_at, variable_behind, variable_at, function_reading, function_at, prim_at, signed_by, signed_at, product_at, sum_at, expression_inside}
use Rattle.macro_expr.specs.Grammar.{IsWhole, IsBracketed, closed, IsVariable, fixed, computed, IsPrim, number, variable, bracket, function, IsSigned, plain, signed, IsChain, IsProduct, IsSum, IsWithin}
use Rattle.macro_expr.proofs.Heads.{leading, meant, run_splits, run_all}
use Rattle.macro_expr.proofs.Steps.{Sound, found, stops, Reads, step, word_step, joins, turned}
use Rattle.macro_expr.proofs.ChainLaws.{chained_sound}
use Rattle.macro_expr.proofs.Complete.{valued, sum_is, first_at, looked}

-- what is shown after a literal is read, and of reading that stops there, holds of both steps
pub literal_step : {B : Type 0} (G : Read B → Type 0) (t : List ℕ) (f : ℤ → Read B)
    → (is_literal t ≡ true → has_too_many_digits t ≡ false → G (f (literal_micro t)))
    → G (Err stop.Expression) → G (literal_of t >>= f)
unfolding literal_of
literal_step {B} G t f next fails = go (is_literal t) refl (has_too_many_digits t) refl
  where
    go : (a : Bool) → is_literal t ≡ a → (b : Bool) → has_too_many_digits t ≡ b
        → G (cond a (cond b (Err stop.Expression) (Ok (literal_micro t))) (Err stop.Expression) >>= f)
    go true is true long = fails
    go true is false short = next is short
    go false is b long = fails

-- a run of bytes that is read as a number is such a number
run-sound : {A : Type 0} {Is : List ℕ → A → Type 0} (p : ℕ → Bool) (value : ℤ → A)
    → ((t : List ℕ) → list_all p t ≡ true → is_literal t ≡ true → has_too_many_digits t ≡ false
    → Is t (value (literal_micro t))) → Reads Is (λ text. literal_of (run p text) >>= valued p value text)
run-sound {Is} p value make text =
    literal_step (Sound Is text) (run p text) (valued p value text)
    (λ is short.
    found (run p text) (behind_run p text) _ (make (run p text) (run_all p text) is short) (run_splits p text))
    (stops stop.Expression)

-- a whole number that is read is one of the grammar
pub digits-sound : Reads IsWhole digits_at
unfolding digits_at
digits-sound =
    run-sound is_ascii_digit (λ m. unsigned_abs m / 1000000)
    (λ t all is short. record { bytes = all; literal = is; short = short; value = refl })

-- `Inner` says what may stand in brackets, and what `inner` reads is such a text.
module _ (inner : List ℕ → Read Tree) (Inner : List ℕ → Tree → Type 0) (inner-sound : Reads Inner inner) where
  -- what is read in brackets stands there by the grammar
  pub bracket-sound : Reads (IsBracketed Inner) (bracket_at inner)
  unfolding bracket_at
  bracket-sound text =
      word_step _ (codes "[") text (λ opened here.
      step _ (inner-sound opened) (λ t after e is stands.
      word_step _ (codes "]") after (λ rest ends.
      found _ rest e (closed t e is) (simp (here, stands, ends, append_assoc)))))

  -- a variable that is read is one of the grammar
  pub variable-sound : Reads (IsVariable Inner) (variable_at inner)
  unfolding variable_at variable_behind
  variable-sound text = word_step _ (codes "#") text (λ after here. go after here (begins is_ascii_digit after))
    where
      go : (after : List ℕ) → text ≡ codes "#" ++ after → (b : Bool) → Sound (IsVariable Inner) text
          (cond b (digits_at after >>= λ n. Ok (Fixed n.0, n.1))
          (bracket_at inner after >>= λ e. Ok (Computed e.0, e.1)))
      go after here true = joins (codes "#") Fixed fixed here (digits-sound after)
      go after here false = joins (codes "#") Computed computed here (bracket-sound after)

  -- a number that is read is an operand of the grammar
  number-sound : Reads (IsPrim Inner) number_at
  unfolding number_at
  number-sound =
      run-sound is_number_byte Number
      (λ t all is short. number t (literal_micro t) (record { bytes = all; literal = is; short = short; value = refl }))

  -- a function that is read is an operand of the grammar
  pub function-sound : Reads (IsPrim Inner) (function_at inner)
  unfolding function_at function_of function_word
  function-sound text =
      let name : List ℕ = run is_letter text in
      let after : List ℕ = behind_run is_letter text in
      meant (λ o. Sound (IsPrim Inner) text (function_reading inner o after)) function_words name
      (λ f is_name.
      joins name (Applied f) (λ t e is. function name t f e is_name is) (run_splits is_letter text)
      (bracket-sound after))
      (stops stop.Function)

  -- an operand that is read is one of the grammar
  pub prim-sound : Reads (IsPrim Inner) (prim_at inner)
  unfolding prim_at
  prim-sound text = go (begins (λ b. b == 35) text) (begins (λ b. b == 91) text) (begins is_letter text)
    where
      go : (a b c : Bool) → Sound (IsPrim Inner) text
          (cond a (variable_at inner text >>= looked)
          (cond b (bracket_at inner text) (cond c (function_at inner text) (number_at text))))
      go true b c = joins [] look variable refl (variable-sound text)
      go false true c = turned bracket (bracket-sound text)
      go false false true = function-sound text
      go false false false = number-sound text

  -- an operand that is read with its sign is one of the grammar
  pub signed-sound : Reads (IsSigned Inner) (signed_at inner)
  unfolding signed_at sign
  signed-sound text =
      leading (λ o. Sound (IsSigned Inner) text (signed_by inner o text)) sign_words text
      (λ word rest minus is_word here.
      joins word (Signed minus) (λ t e is. signed word t minus e is_word is) here (prim-sound rest))
      (turned plain (prim-sound text))

  -- a product that is read is one of the grammar
  pub product-sound : Reads (IsProduct Inner) (product_at inner)
  unfolding product_at
  product-sound = chained_sound Product _ _ _ _ prim-sound prim-sound

  -- the first product of a sum that is read is one of the grammar
  pub first-sound : Reads (IsChain Product (IsSigned Inner) (IsPrim Inner)) (first_at inner)
  first-sound = chained_sound Product _ _ _ _ signed-sound prim-sound

  -- a sum that is read is one of the grammar
  pub sum-sound : Reads (IsSum Inner) (sum_at inner)
  sum-sound text =
      subst (Sound (IsSum Inner) text) (sym (sum_is inner text))
      (chained_sound Sum _ _ _ _ first-sound product-sound text)

-- an expression that is read within so many brackets has its tree by the grammar
pub within-sound : (n : ℕ) → Reads (IsWithin n) (expression_inside n)
unfolding expression_inside
within-sound zero text = stops stop.Expression
within-sound (suc n) text = sum-sound (expression_inside n) (IsWithin n) (within-sound n) text
