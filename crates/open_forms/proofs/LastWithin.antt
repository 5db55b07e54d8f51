-- In a block that is not refused the P and the L of a macro call, and the L alone of a call of a
-- subprogram, are at most 9,999. So they fit the 16 bits of a control. For `control_by`
-- (src/controls.rt).
use Rattle.std.proofs.Common.{◌≡◌, ℕ, ◌≤◌, Bool, true, false, cond, List, [], ◌∷◌, Option, Some, None, IfSome, unwrap_or, refl, sym, ◌∙◌, subst, arith}
use Rattle.std.specs.Prelude.{codes, if◌then◌else◌}
use Rattle.std.specs.List.{list_all}
use Rattle.std.proofs.lemmas.Bool.{and_parts}
use Rattle.std.proofs.lemmas.Bool.Decides.{nat_tests}
use Rattle.nc_number.specs.declared.cause.Cause.TheVariants.{TooManyDigits, NotFixed, UnknownCode, WaitNotAlone, WaitPaths, TwoM, BadCall, WordRange}
use Rattle.line_text.specs.declared.body.Word.{Word}
use Rattle.code_tables.specs.Codes.{last_of}
use Rattle.block_words.specs.declared.dialect.Dialect.{Dialect}
use Rattle.block_words.specs.Words.{is_one_of}
use Rattle.open_forms.specs.declared.role.Role.{Role}
use Rattle.open_forms.specs.declared.role.Role.TheVariants.{MacroCall, Subprogram}
use Rattle.open_forms.specs.Words.{words_of, whole_of_word, number_of_last, last_number}
use Rattle.open_forms.specs.Codes.{role_of}
use Rattle.open_forms.specs.Refusals.{is_long, is_not_fixed, is_unknown, is_wait_not_alone, is_wait_of_others, has_two_m, is_bad_call, is_within, is_in, are_in, is_in_range_by, is_out_of_range, refusal_of}
use Rattle.nc_number.proofs.Bools.{neither, not_false}
use Rattle.open_forms.proofs.AmongLetters.{AreAmong, one_among, same_among}

-- The number is at most so much, if there is one.
abbrev IsAtMost : ℕ → Option ℕ → Type 0
IsAtMost greatest n = IfSome n (λ n. n ≤ greatest)

-- A number in its range is at most the greatest of it.
at_most : (least greatest : ℕ) (n : Option ℕ) → is_within least greatest n ≡ true → IsAtMost greatest n
at_most least greatest None e = tt
at_most least greatest (Some n) e = grind (arith, nat_tests)

-- If the words of these letters are in a range, the number of the last word of some of the letters
-- is at most the greatest of it.
last_in : (least greatest : ℕ) (few letters : List ℕ) → AreAmong few letters → (words : List Word)
    → are_in least greatest letters words ≡ true → IsAtMost greatest (last_number few words)
last_in least greatest few letters among [] all = tt
last_in least greatest few letters among (w ∷ words) all =
    go (is_one_of few w.letter) (is_one_of letters w.letter) refl refl (λ rest. last_in least greatest few letters among words rest) all
  where
    choose : (later : Option Word) → IsAtMost greatest (whole_of_word w) → IsAtMost greatest (number_of_last later)
        → IsAtMost greatest (number_of_last (Some (unwrap_or later w)))
    choose None own rest = own
    choose (Some v) own rest = rest

    go : (a b : Bool) → is_one_of few w.letter ≡ a → is_one_of letters w.letter ≡ b
        → (are_in least greatest letters words ≡ true → IsAtMost greatest (last_number few words))
        → list_all (is_in least greatest) (cond b (w ∷ words_of letters words) (words_of letters words)) ≡ true
        → IsAtMost greatest (number_of_last (last_of (cond a (w ∷ words_of few words) (words_of few words))))
    go true true first second further all =
        let both = and_parts (is_in least greatest w) (are_in least greatest letters words) all in
        choose (last_of (words_of few words)) (at_most least greatest (whole_of_word w) both.0) (further both.1)
    go true false first second further all = let there : is_one_of letters w.letter ≡ true = among w.letter first in absurd (cc)
    go false true first second further all = further (and_parts (is_in least greatest w) (are_in least greatest letters words) all).1
    go false false first second further all = further all

-- A block that is not refused has no word out of its range.
in_range : (dialect : Dialect) (words : List Word) → refusal_of dialect words ≡ None → is_out_of_range dialect words ≡ false
in_range dialect words accepted =
    go (is_long dialect words) (is_not_fixed dialect words) (is_unknown dialect words) (is_wait_not_alone dialect words) (is_wait_of_others dialect words) (has_two_m words) (is_bad_call dialect words) (is_out_of_range dialect words) accepted
  where
    go : (a b c d e f g h : Bool) → (if a then Some TooManyDigits else if b then Some NotFixed else if c then Some UnknownCode else if d then Some WaitNotAlone
        else if e then Some WaitPaths else if f then Some TwoM else if g then Some BadCall else if h then Some WordRange else None) ≡ None → h ≡ false
    go true b c d e f g h is = absurd (cc)
    go false true c d e f g h is = absurd (cc)
    go false false true d e f g h is = absurd (cc)
    go false false false true e f g h is = absurd (cc)
    go false false false false true f g h is = absurd (cc)
    go false false false false false true g h is = absurd (cc)
    go false false false false false false true h is = absurd (cc)
    go false false false false false false false true is = absurd (cc)
    go false false false false false false false false is = refl

-- The P, L and Q of a block that is not refused are in the range of its role.
ranges_of : (dialect : Dialect) (words : List Word) (role kind : Role) → refusal_of dialect words ≡ None → role ≡ role_of dialect words → role ≡ kind
    → is_in_range_by kind words ≡ true
ranges_of dialect words role kind accepted is same =
    let own : is_in_range_by (role_of dialect words) words ≡ true = not_false _ (neither _ _ (in_range dialect words accepted)).0 in
    subst (λ r. is_in_range_by r words ≡ true) (sym is ∙ same) own

-- In a macro call that is not refused the number of the last word of the letter, which is P or L,
-- is at most 9,999.
pub macro_at_most : (dialect : Dialect) (words : List Word) (role : Role) (letter : ℕ) → refusal_of dialect words ≡ None → role ≡ role_of dialect words
    → role ≡ MacroCall → is_one_of (codes "PL") letter ≡ true → IfSome (last_number (letter ∷ []) words) (λ n. n ≤ 9999)
macro_at_most dialect words role letter accepted is same there =
    last_in 1 9999 (letter ∷ []) (codes "PL") (one_among letter (codes "PL") there) words (ranges_of dialect words role MacroCall accepted is same)

-- In a call of a subprogram that is not refused the number of the last L is at most 9,999. This is
-- of the L alone: the P may have repeats of its own, and up to eight digits.
pub repeats_at_most : (dialect : Dialect) (words : List Word) (role : Role) → refusal_of dialect words ≡ None → role ≡ role_of dialect words
    → role ≡ Subprogram → IfSome (last_number (codes "L") words) (λ n. n ≤ 9999)
repeats_at_most dialect words role accepted is same =
    last_in 1 9999 (codes "L") (codes "L") (same_among (codes "L")) words
    (and_parts (are_in 1 99999999 (codes "P") words) (are_in 1 9999 (codes "L") words) (ranges_of dialect words role Subprogram accepted is same)).1
