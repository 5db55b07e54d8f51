-- One walk over the text of a macro expression sees both limits. Of what stands before a byte it
-- keeps the last byte and how many brackets are open. For Numbers and Grammar.
use Rattle.std.proofs.Common.{◌≡◌, ℕ, ◌+◌, ◌-◌, ◌==◌, ◌&&◌, ◌||◌, not, Bool, true, false, cond, List, [], ◌∷◌, ◌++◌, length, slice_index, nat_lt, refl, ◌∙◌, ap, arith, if◌then◌else◌}
use Rattle.std.specs.Char.{is_ascii_digit}
use Rattle.std.proofs.lemmas.Bool.{or_parts, or_from, lt-ltb}
use Rattle.std.proofs.lemmas.List.{get_or_push}
use Rattle.std.proofs.lemmas.Grind.{common_steps}
use Rattle.nc_number.specs.declared.limits.TheConstants.{MOST_BRACKETS}
use Rattle.nc_number.specs.Literals.{significant}
use Rattle.macro_expr.specs.Words.{run, begins}
use Rattle.macro_expr.specs.Limits.{ends, is_loop_head, begins_long, long_behind, has_long_number, open_behind, too_deep, has_deep_brackets}

-- whether the digits after this byte are more than a number may have: 6 after a point (46), else 8
abbrev pub too_many_behind : ℕ → List ℕ → Bool
too_many_behind last digits = if last == 46 then nat_lt 6 (length digits) else nat_lt 8 (length (significant digits))

-- whether a number that is too long begins here
abbrev pub long_at : ℕ → List ℕ → Bool
long_at last text =
    begins is_ascii_digit text && not (is_ascii_digit last) && too_many_behind last (run is_ascii_digit text)

-- whether a limit is passed in the text, which stands after this byte with so many brackets open
abbrev pub passes_limit : ℕ → ℕ → List ℕ → Bool
passes_limit opened last [] = nat_lt MOST_BRACKETS opened
passes_limit opened last (b ∷ text) =
    nat_lt MOST_BRACKETS opened || (long_at last (b ∷ text) || passes_limit (open_behind opened b) b text)

-- this is the last byte of what stands before, or, if nothing stands before, a byte that is no
-- digit and no point
record IsLast (before : List ℕ) (last : ℕ) : Type 0 where
  -- both are a digit, or neither is
  digit : ends is_ascii_digit before ≡ is_ascii_digit last
  -- both are a point, or neither is
  point : ends (λ b. b == 46) before ≡ (last == 46)

-- whether the last byte of a text passes, if that byte was put there
ends_push : (p : ℕ → Bool) (before : List ℕ) (b : ℕ) → ends p (before ++ b ∷ []) ≡ p b
ends_push p before b =
    let long : length (before ++ b ∷ []) ≡ length before + 1 = grind (arith, common_steps) in
    let some : nat_lt 0 (length (before ++ b ∷ [])) ≡ true = lt-ltb 0 (length (before ++ b ∷ [])) (omega arith) in
    let at : length (before ++ b ∷ []) - 1 ≡ length before = omega arith in
    ap (λ x. x && p (slice_index (before ++ b ∷ []) (length (before ++ b ∷ []) - 1))) some
    ∙ ap (λ i. p (slice_index (before ++ b ∷ []) i)) at ∙ ap p (get_or_push before b 0 (length before) refl)

-- the byte that was pushed is the last one
pushed : (before : List ℕ) (b : ℕ) → IsLast (before ++ b ∷ []) b
pushed before b = record { digit = ends_push is_ascii_digit before b; point = ends_push (λ b. b == 46) before b }

-- a number that is not too long by a test without loops is not too long by one that leaves out the
-- digits of a loop
fewer : (x y z head six eight : Bool) → (x && not y && cond z six eight) ≡ false
    → (x && not y && cond z six (cond head false eight)) ≡ false
fewer false y z head six eight none = refl
fewer true true z head six eight none = refl
fewer true false true head six eight none = none
fewer true false false true six eight none = refl
fewer true false false false six eight none = none

-- if by the walk no number that is too long begins here, none does by the definition
not_long : (before : List ℕ) (last : ℕ) (text : List ℕ) → IsLast before last → long_at last text ≡ false
    → begins_long before text ≡ false
not_long before last text is none =
    let digits = run is_ascii_digit text in
    let six = nat_lt 6 (length digits) in
    let eight = nat_lt 8 (length (significant digits)) in
    let starts = begins is_ascii_digit text in
    let whole = cond (is_loop_head before) false eight in
    ap (λ y. starts && not y && cond (ends (λ b. b == 46) before) six whole) is.digit
    ∙ ap (λ z. starts && not (is_ascii_digit last) && cond z six whole) is.point
    ∙ fewer starts (is_ascii_digit last) (last == 46) (is_loop_head before) six eight none

-- a text that passes no limit has no long number and is not too deep
within : (text before : List ℕ) (last opened : ℕ) → IsLast before last → passes_limit opened last text ≡ false
    → (long_behind before text ≡ false) × (too_deep opened text ≡ false)
within [] before last opened is none = (refl, none)
within (b ∷ text) before last opened is none =
    let shallow = or_parts _ _ none in
    let short = or_parts _ _ shallow.1 in
    let further = within text (before ++ b ∷ []) b (open_behind opened b) (pushed before b) short.1 in
    (or_from _ _ (not_long before last (b ∷ text) is short.0) further.0, or_from _ _ shallow.0 further.1)

-- a text in which the walk passes no limit has no long number and is not too deep
pub text_within : (text : List ℕ) → passes_limit 0 0 text ≡ false
    → (has_long_number text ≡ false) × (has_deep_brackets text ≡ false)
unfolding has_long_number has_deep_brackets
text_within text none = within text [] 0 0 (record { digit = refl; point = refl }) none
