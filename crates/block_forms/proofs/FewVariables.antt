-- A block names no more variables than its text has signs of them. For src/reading.rt and
-- src/gathering.rt.
use Rattle.std.proofs.Common.{◌≡◌, ℕ, ◌+◌, ◌<◌, ◌≤◌, ◌==◌, ◌||◌, Bool, true, false, cond, not, List, [], ◌∷◌, ◌++◌, length, get_or, drop, sym, ◌∙◌, ap, arith}
use Rattle.std.specs.Char.{to_ascii_uppercase}
use Rattle.std.proofs.lemmas.Bool.Decides.{nat_tests}
use Rattle.std.proofs.lemmas.List.Sums.{sum_by-cons}
use Rattle.nc_number.specs.Literals.{is_sign, behind_sign}
use Rattle.line_text.specs.declared.body.Word.{Word}
use Rattle.macro_expr.specs.Limits.{clean_text, variable_signs}
use Rattle.block_words.specs.declared.word.FlowWord.{FlowWord}
use Rattle.block_forms.specs.Forms.{signs_in}
use Rattle.block_forms.specs.Variables.{variables_of_value, variables_of_words}
use Rattle.block_forms.proofs.WordByWord.{signs_at}

-- The words with one more name their own variables and its.
words_with : (words : List FlowWord) (word : FlowWord) → variables_of_words (words ++ word ∷ []) ≡ variables_of_words words + variables_of_value word.value
words_with [] word = omega arith
words_with (w ∷ words) word = omega (arith, words_with words word)

-- If one word more names at most so many variables as its text has signs, the words name at most so
-- many more.
pub one_more_named : (words : List FlowWord) (word : FlowWord) (signs : ℕ) → variables_of_value word.value ≤ signs → variables_of_words (words ++ word ∷ []) ≤ variables_of_words words + signs
one_more_named words word signs few = omega (arith, words_with words word)

-- 1 if the byte is the sign of a variable, `#` (35), else 0.
abbrev sign : ℕ → ℕ
sign b = cond (b == 35) 1 0

-- The signs of a text are those of its first byte and of the rest.
signs_at_head : (b : ℕ) (text : List ℕ) → variable_signs (b ∷ text) ≡ sign b + variable_signs text
signs_at_head b text = sum_by-cons _ b text

-- A letter that is made upper case is no new sign.
upper_sign : (b : ℕ) → sign (to_ascii_uppercase b) ≤ sign b
upper_sign b = grind (arith, nat_tests)

-- To leave out blanks and comments leaves no more signs of variables.
fewer_cleaned : (inside : Bool) (text : List ℕ) → variable_signs (clean_text inside text) ≤ variable_signs text
fewer_cleaned true [] = omega arith
fewer_cleaned false [] = omega arith
fewer_cleaned true (b ∷ text) = omega (arith, signs_at_head b text, fewer_cleaned (not (b == 41)) text)
fewer_cleaned false (b ∷ text) = go (b == 40) (b == 32 || b == 9) (fewer_cleaned true text) (fewer_cleaned false text)
  where
    go : (opens space : Bool) → variable_signs (clean_text true text) ≤ variable_signs text → variable_signs (clean_text false text) ≤ variable_signs text → variable_signs (cond opens (clean_text true text) (cond space (clean_text false text) (to_ascii_uppercase b ∷ clean_text false text))) ≤ variable_signs (b ∷ text)
    go true space inside outside = omega (arith, signs_at_head b text, inside)
    go false true inside outside = omega (arith, signs_at_head b text, outside)
    go false false inside outside =
        omega (arith, signs_at_head b text, signs_at_head (to_ascii_uppercase b) (clean_text false text), upper_sign b, outside)

-- To leave out a minus in front leaves no more signs of variables.
fewer_behind_sign : (text : List ℕ) → variable_signs (behind_sign text) ≤ variable_signs text
fewer_behind_sign [] = omega arith
fewer_behind_sign (b ∷ text) = go (is_sign b)
  where
    go : (is : Bool) → variable_signs (cond is text (b ∷ text)) ≤ variable_signs (b ∷ text)
    go true = omega (arith, signs_at_head b text)
    go false = omega arith

-- To leave out a minus in front, blanks and comments leaves no more signs of variables.
pub fewer_in_value : (text : List ℕ) → variable_signs (clean_text false (behind_sign text)) ≤ variable_signs text
fewer_in_value text = omega (arith, fewer_cleaned false (behind_sign text), fewer_behind_sign text)

-- In the loop over a block's words the variables so far and the signs of the words ahead are no
-- more than all signs, with one word more too.
pub more_named : (words : List Word) (i : ℕ) (word : Word) (before after : ℕ) → i < length words → word ≡ get_or words i word → after ≤ before + variable_signs word.text → before + signs_in (drop i words) ≤ signs_in words → after + signs_in (drop (i + 1) words) ≤ signs_in words
more_named words i word before after lt is more within =
    let here : signs_in (drop i words) ≡ variable_signs word.text + signs_in (drop (i + 1) words) =
    signs_at words i word lt ∙ ap (λ (w : Word). variable_signs w.text + signs_in (drop (i + 1) words)) (sym is) in
    omega (arith, here, more, within)
