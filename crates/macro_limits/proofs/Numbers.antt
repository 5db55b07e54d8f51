-- Words and numbers of macro expressions pass no limit, wherever they stand. A limit is too many
-- digits in a number, or a sixth open bracket. For Grammar.
use Rattle.std.proofs.Common.{◌≡◌, ℕ, suc, ◌+◌, ◌-◌, ◌<◌, ◌≤◌, ◌==◌, ◌&&◌, ◌||◌, not, Bool, true, false, cond, ℤ, List, [], ◌∷◌, ◌++◌, length, get_or, take, nat_lt, ◌⊎◌, inl, inr, refl, sym, ◌∙◌, ap, arith, append_assoc}
use Rattle.std.specs.Char.{is_ascii_digit}
use Rattle.std.specs.List.{list_all, position_or_len, before_first, after_first}
use Rattle.std.proofs.lemmas.Bool.{or_parts, or_from, and_parts, and_from, le-ltb, ltb-true, ltb-false, eqb-true}
use Rattle.std.proofs.lemmas.Bool.Decides.{nat_tests}
use Rattle.std.proofs.lemmas.Grind.{common_steps}
use Rattle.std.proofs.lemmas.List.Sums.{split_at_first, passes_at_first}
use Rattle.nc_number.specs.Literals.{is_literal, has_too_many_digits, significant, is_point, is_sign, behind_sign}
use Rattle.macro_expr.specs.Words.{run, begins, is_number_byte}
use Rattle.macro_expr.specs.Limits.{open_behind}
use Rattle.macro_expr.specs.Grammar.{IsNumber, IsWhole}
use Rattle.macro_expr.proofs.Heads.{run_whole}
use Rattle.macro_limits.proofs.Scan.{too_many_behind, long_at, passes_limit}

-- what may stand behind a word: it passes no limit behind any byte but a point, 46
abbrev pub Starts : ℕ → List ℕ → Type 0
Starts opened text = (last : ℕ) → (last == 46) ≡ false → passes_limit opened last text ≡ false

-- what may stand behind a number: it goes on with none, and passes no limit
abbrev pub Ends : ℕ → List ℕ → Type 0
Ends opened text = (begins is_number_byte text ≡ false) × ((last : ℕ) → passes_limit opened last text ≡ false)

-- a part of a text passes no limit itself, before all that may stand after a number
abbrev pub Passes : ℕ → List ℕ → Type 0
Passes opened t = (rest : List ℕ) → Ends opened rest → Starts opened (t ++ rest)

-- a part begins no number and passes no limit itself: it too may stand after a number
abbrev pub Opens : ℕ → List ℕ → Type 0
Opens opened t = (rest : List ℕ) → Ends opened rest → Ends opened (t ++ rest)

-- a part that begins no number passes no limit itself
pub opens_passes : (opened : ℕ) (t : List ℕ) → Opens opened t → Passes opened t
opens_passes opened t opens rest end last quiet = (opens rest end).1 last

-- whether a byte can stand in a word: no digit, no point and no bracket, 91 and 93
abbrev pub is_plain : ℕ → Bool
is_plain b = not (is_number_byte b) && (not (b == 91) && not (b == 93))

-- a plain byte is part of no number
no_number : (b : ℕ) → is_plain b ≡ true → is_number_byte b ≡ false
no_number b plain = grind (arith, nat_tests)

-- what begins no number begins with no digit
pub no_digit : (text : List ℕ) → begins is_number_byte text ≡ false → begins is_ascii_digit text ≡ false
no_digit [] quiet = refl
no_digit (b ∷ text) quiet = (or_parts (is_ascii_digit b) (b == 46) quiet).0

-- a byte that is no bracket leaves the number of open brackets
same_depth : (opened b : ℕ) → (b == 91) ≡ false → (b == 93) ≡ false → open_behind opened b ≡ opened
same_depth opened b no_open no_close = rw (no_open, no_close) refl

-- a byte that is no digit passes no limit, if the text after it does not
quiet_byte : (opened last b : ℕ) (text : List ℕ) → opened ≤ 5 → is_ascii_digit b ≡ false
    → passes_limit (open_behind opened b) b text ≡ false → passes_limit opened last (b ∷ text) ≡ false
quiet_byte opened last b text few other further =
    let many = too_many_behind last (run is_ascii_digit (b ∷ text)) in
    or_from _ _ (le-ltb 5 opened few) (or_from _ _ (ap (λ x. x && not (is_ascii_digit last) && many) other) further)

-- a digit passes no limit, if no number that is too long begins with it and the text after it
-- passes none
digit_byte : (opened last b : ℕ) (text : List ℕ) → opened ≤ 5 → is_ascii_digit b ≡ true
    → long_at last (b ∷ text) ≡ false → passes_limit opened b text ≡ false → passes_limit opened last (b ∷ text) ≡ false
digit_byte opened last b text few digit short further =
    let no_open : (b == 91) ≡ false = grind (arith, nat_tests) in
    let no_close : (b == 93) ≡ false = grind (arith, nat_tests) in
    or_from _ _ (le-ltb 5 opened few)
    (or_from _ _ short (ap (λ k. passes_limit k b text) (same_depth opened b no_open no_close) ∙ further))

-- whether a text is plain bytes, at least one
abbrev pub is_plain_word : List ℕ → Bool
is_plain_word word = begins is_plain word && list_all is_plain word

-- a plain byte passes no limit before what passes none
plain_byte : (b opened last : ℕ) (text : List ℕ) → opened ≤ 5 → is_plain b ≡ true → Starts opened text
    → passes_limit opened last (b ∷ text) ≡ false
plain_byte b opened last text few plain starts =
    let no : is_number_byte b ≡ false = grind (arith, nat_tests) in
    let no_open : (b == 91) ≡ false = grind (arith, nat_tests) in
    let no_close : (b == 93) ≡ false = grind (arith, nat_tests) in
    let parts = or_parts (is_ascii_digit b) (b == 46) no in
    quiet_byte opened last b text few parts.0
    (ap (λ k. passes_limit k b text) (same_depth opened b no_open no_close) ∙ starts b parts.1)

-- plain bytes may stand before what passes no limit
word_starts : (word rest : List ℕ) (opened : ℕ) → opened ≤ 5 → list_all is_plain word ≡ true → Starts opened rest
    → Starts opened (word ++ rest)
word_starts [] rest opened few plain starts last quiet = starts last quiet
word_starts (b ∷ word) rest opened few plain starts last quiet =
    let parts = and_parts (is_plain b) (list_all is_plain word) plain in
    plain_byte b opened last (word ++ rest) few parts.0 (word_starts word rest opened few parts.1 starts)

-- a word may stand behind a number, before what passes no limit
pub word_ends : (word rest : List ℕ) (opened : ℕ) → opened ≤ 5 → is_plain_word word ≡ true → Starts opened rest
    → Ends opened (word ++ rest)
word_ends [] rest opened few plain starts = absurd (let no : ⊥ = cc in no)
word_ends (b ∷ word) rest opened few plain starts =
    let parts = and_parts (is_plain b) (is_plain b && list_all is_plain word) plain in
    let all = and_parts (is_plain b) (list_all is_plain word) parts.1 in
    let further = word_starts word rest opened few all.1 starts in
    (no_number b parts.0, λ last. plain_byte b opened last (word ++ rest) few parts.0 further)

-- a bracket that opens, 91, may stand behind a number
pub open_ends : (rest : List ℕ) (opened : ℕ) → opened ≤ 5 → Starts (suc opened) rest → Ends opened (91 ∷ rest)
open_ends rest opened few starts = (refl, λ last. quiet_byte opened last 91 rest few refl (starts 91 refl))

-- a bracket that closes, 93, may stand behind a number
pub close_ends : (rest : List ℕ) (opened : ℕ) → suc opened ≤ 5 → Starts opened rest → Ends (suc opened) (93 ∷ rest)
close_ends rest opened few starts =
    let back : suc opened - 1 ≡ opened = omega arith in
    let further = ap (λ k. passes_limit k 93 rest) back ∙ starts 93 refl in
    (refl, λ last. quiet_byte (suc opened) last 93 rest few refl further)

-- digits after a digit pass no limit: no number begins with them
tail_digits : (digits rest : List ℕ) (opened last : ℕ) → opened ≤ 5 → list_all is_ascii_digit digits ≡ true
    → ((last : ℕ) → passes_limit opened last rest ≡ false) → is_ascii_digit last ≡ true
    → passes_limit opened last (digits ++ rest) ≡ false
tail_digits [] rest opened last few all further digit = further last
tail_digits (b ∷ digits) rest opened last few all further digit =
    let parts = and_parts (is_ascii_digit b) (list_all is_ascii_digit digits) all in
    let many = too_many_behind last (run is_ascii_digit (b ∷ (digits ++ rest))) in
    digit_byte opened last b (digits ++ rest) few parts.0
    (ap (λ x. is_ascii_digit b && not x && many) digit ∙ none (is_ascii_digit b) many)
    (tail_digits digits rest opened b few parts.1 further parts.0)
  where
    none : (x z : Bool) → (x && not true && z) ≡ false
    none true z = refl
    none false z = refl

-- digits that are few enough pass no limit
pub head_digits : (digits rest : List ℕ) (opened last : ℕ) → opened ≤ 5 → list_all is_ascii_digit digits ≡ true
    → ((last : ℕ) → passes_limit opened last rest ≡ false) → begins is_ascii_digit rest ≡ false
    → too_many_behind last digits ≡ false → passes_limit opened last (digits ++ rest) ≡ false
head_digits [] rest opened last few all further quiet short = further last
head_digits (b ∷ digits) rest opened last few all further quiet short =
    let parts = and_parts (is_ascii_digit b) (list_all is_ascii_digit digits) all in
    let first = not (is_ascii_digit last) in
    let these = run_whole is_ascii_digit (b ∷ digits) rest all quiet in
    digit_byte opened last b (digits ++ rest) few parts.0
    (ap (λ xs. is_ascii_digit b && first && too_many_behind last xs) these.0
    ∙ ap (λ z. is_ascii_digit b && first && z) short ∙ none (is_ascii_digit b) first)
    (tail_digits digits rest opened b few parts.1 further parts.0)
  where
    none : (x y : Bool) → (x && y && false) ≡ false
    none true true = refl
    none true false = refl
    none false y = refl

-- a number is its whole part, or that, its point and what stands after it
two_parts : (t : List ℕ)
    → (t ≡ before_first is_point t) ⊎ (t ≡ before_first is_point t ++ (46 ∷ after_first is_point t))
two_parts t = go (nat_lt (position_or_len is_point t) (length t)) refl
  where
    go : (inside : Bool) → nat_lt (position_or_len is_point t) (length t) ≡ inside
        → (t ≡ before_first is_point t) ⊎ (t ≡ before_first is_point t ++ (46 ∷ after_first is_point t))
    go true is =
        let at : position_or_len is_point t < length t = ltb-true (position_or_len is_point t) (length t) is in
        let point = eqb-true (get_or t (position_or_len is_point t) 0) 46 (passes_at_first is_point t 0 at) in
        inr (split_at_first is_point t 0 at ∙ ap (λ b. before_first is_point t ++ (b ∷ after_first is_point t)) point)
    go false is =
        let at : length t ≤ position_or_len is_point t = ltb-false (position_or_len is_point t) (length t) is in
        let all : take (position_or_len is_point t) t ≡ t = grind (arith, common_steps) in
        inl (sym all)

-- a number without a sign has no sign to take off
no_sign : (t : List ℕ) → list_all is_number_byte t ≡ true → behind_sign t ≡ t
no_sign [] bytes = refl
no_sign (b ∷ t) bytes =
    let digit = (and_parts (is_number_byte b) (list_all is_number_byte t) bytes).0 in
    let none : is_sign b ≡ false = grind (arith, nat_tests) in
    ap (λ x. cond x t (b ∷ t)) none

-- whether a number without a sign is a literal
abbrev unsigned_literal : List ℕ → Bool
unsigned_literal t =
    (list_all is_ascii_digit (before_first is_point t) && list_all is_ascii_digit (after_first is_point t))
    && nat_lt 0 (length (before_first is_point t) + length (after_first is_point t))

-- whether a number without a sign has too many digits: above 8 before the point, or 6 after it
abbrev unsigned_long : List ℕ → Bool
unsigned_long t =
    nat_lt 8 (length (significant (before_first is_point t))) || nat_lt 6 (length (after_first is_point t))

-- a number of few enough digits passes no limit
digits_pass : (t : List ℕ) (opened : ℕ) → opened ≤ 5 → list_all is_number_byte t ≡ true → is_literal t ≡ true
    → has_too_many_digits t ≡ false → Passes opened t
digits_pass t opened few bytes literal short rest end last quiet =
    let unsigned = no_sign t bytes in
    let whole = before_first is_point t in
    let fraction = after_first is_point t in
    let parts : unsigned_literal t ≡ true = ap unsigned_literal (sym unsigned) ∙ literal in
    let digits = and_parts (list_all is_ascii_digit whole) (list_all is_ascii_digit fraction) (and_parts _ _ parts).0 in
    let limits : unsigned_long t ≡ false = ap unsigned_long (sym unsigned) ∙ short in
    let few_each = or_parts (nat_lt 8 (length (significant whole))) (nat_lt 6 (length fraction)) limits in
    let whole_short : too_many_behind last whole ≡ false =
    ap (λ x. cond x (nat_lt 6 (length whole)) (nat_lt 8 (length (significant whole)))) quiet ∙ few_each.0 in
    elim (two_parts t) [
      | inl same ↦
          ap (λ xs. passes_limit opened last (xs ++ rest)) same
          ∙ head_digits whole rest opened last few digits.0 end.1 (no_digit rest end.0) whole_short
      | inr same ↦
          let apart : (whole ++ (46 ∷ fraction)) ++ rest ≡ whole ++ (46 ∷ (fraction ++ rest)) = simp append_assoc in
          ap (λ xs. passes_limit opened last (xs ++ rest)) same ∙ ap (passes_limit opened last) apart
          ∙ head_digits whole (46 ∷ (fraction ++ rest)) opened last few digits.0
          (λ last. quiet_byte opened last 46 (fraction ++ rest) few refl
          (head_digits fraction rest opened 46 few digits.1 end.1 (no_digit rest end.0) few_each.1))
          refl whole_short
    ]

-- a number of the grammar passes no limit
pub number_passes : (t : List ℕ) (micro : ℤ) (opened : ℕ) → opened ≤ 5 → IsNumber t micro → Passes opened t
number_passes t micro opened few is = digits_pass t opened few is.bytes is.literal is.short

-- digits are bytes of a number
number_bytes : (t : List ℕ) → list_all is_ascii_digit t ≡ true → list_all is_number_byte t ≡ true
number_bytes [] all = refl
number_bytes (b ∷ t) all =
    let parts = and_parts (is_ascii_digit b) (list_all is_ascii_digit t) all in
    and_from _ _ (ap (λ x. x || b == 46) parts.0) (number_bytes t parts.1)

-- a whole number of the grammar passes no limit
pub whole_passes : (t : List ℕ) (n opened : ℕ) → opened ≤ 5 → IsWhole t n → Passes opened t
whole_passes t n opened few is = digits_pass t opened few (number_bytes t is.bytes) is.literal is.short
