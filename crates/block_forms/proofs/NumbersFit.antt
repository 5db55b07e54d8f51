-- Numbers of words that are in their range, so they fit the numbers that the code keeps. For
-- Accepted.
use Rattle.std.proofs.Common.{◌≡◌, ℕ, ◌≤◌, Bool, true, false, cond, not, List, [], ◌∷◌, Option, Some, None, IfSome, ℤ, pos, negsuc, refl, arith}
use Rattle.std.specs.List.{list_any, filter_map}
use Rattle.std.proofs.lemmas.Bool.Decides.{nat_tests}
use Rattle.nc_number.proofs.Bools.{neither, not_false}
use Rattle.code_tables.specs.Codes.{last_of}
use Rattle.block_words.specs.declared.purpose.Purpose.{Purpose}
use Rattle.block_words.specs.declared.range.Range.TheVariants.{Between}
use Rattle.block_words.specs.declared.word.FlowWord.{FlowWord}
use Rattle.block_words.specs.declared.word.WordValue.{WordValue}
use Rattle.block_words.specs.declared.word.WordValue.TheVariants.{Fixed, Computed}
use Rattle.block_words.specs.Words.{is_one_of, words_of, whole_value, value_of_last, whole_of_last, last_whole}
use Rattle.block_words.specs.Codes.{natural_number, first}
use Rattle.block_words.specs.Ranges.{is_between, range_of, fits_value, is_in_range}

-- The number lies between these, both included, if there is one.
abbrev pub IsWithin : ℕ → ℕ → Option ℕ → Type 0
IsWithin least greatest number = IfSome number (λ n. (least ≤ n) × (n ≤ greatest))

-- A whole number that passes the test of a range is in it.
number_within : (least greatest : ℕ) (z : Option ℤ) → is_between least greatest z ≡ true → IsWithin least greatest (natural_number z)
number_within least greatest None is = tt
number_within least greatest (Some (pos n)) is = (grind (arith, nat_tests), grind (arith, nat_tests))
number_within least greatest (Some (negsuc n)) is = tt

-- The number of a value that fits its range is in it.
value_within : (least greatest : ℕ) (value : WordValue) → fits_value (Between least greatest) value ≡ true → IsWithin least greatest (natural_number (whole_value value))
value_within least greatest (Fixed literal) is = number_within least greatest _ is
value_within least greatest (Computed minus tree) is = tt

-- A letter that is one of a single letter is that letter.
letter_is : (letter own : ℕ) → is_one_of (letter ∷ []) own ≡ true → own ≡ letter
letter_is letter own e = grind (arith, nat_tests)

-- The number of a word that is in its range lies within it.
word_within : (purpose : Purpose) (letter least greatest : ℕ) (word : FlowWord) → range_of purpose letter ≡ Between least greatest → is_one_of (letter ∷ []) word.letter ≡ true → is_in_range purpose word ≡ true → IsWithin least greatest (natural_number (whole_value word.value))
word_within purpose letter least greatest word range same fits =
    let own : word.letter ≡ letter = letter_is letter word.letter same in
    let there : fits_value (range_of purpose letter) word.value ≡ true = rw own at fits in
    let between : fits_value (Between least greatest) word.value ≡ true = rw range at there in
    value_within least greatest word.value between

-- If all words are in their ranges, the number of the last word of a letter lies in that of the
-- letter.
pub last_within : (purpose : Purpose) (letter least greatest : ℕ) (words : List FlowWord) → range_of purpose letter ≡ Between least greatest → list_any (λ word. not (is_in_range purpose word)) words ≡ false → IsWithin least greatest (natural_number (last_whole (letter ∷ []) words))
last_within purpose letter least greatest [] range all = tt
last_within purpose letter least greatest (w ∷ ws) range all =
    let both = neither _ _ all in
    go (is_one_of (letter ∷ []) w.letter) (words_of (letter ∷ []) ws) (last_of (words_of (letter ∷ []) ws)) refl
    (λ same. word_within purpose letter least greatest w range same (not_false _ both.0))
    (last_within purpose letter least greatest ws range both.1)
  where
    go : (b : Bool) (rest : List FlowWord) (later : Option FlowWord) → last_of rest ≡ later → (b ≡ true → IsWithin least greatest (natural_number (whole_value w.value))) → IsWithin least greatest (natural_number (whole_of_last (value_of_last (last_of rest)))) → IsWithin least greatest (natural_number (whole_of_last (value_of_last (last_of (cond b (w ∷ rest) rest)))))
    go true rest (Some v) e here there = rw e (rw e at there)
    go true rest None e here there = rw e (here refl)
    go false rest later e here there = there

-- If all words are in their ranges, the first number that a word of a letter writes out lies in
-- that of the letter.
pub first_within : (purpose : Purpose) (letter least greatest : ℕ) (words : List FlowWord) → range_of purpose letter ≡ Between least greatest → list_any (λ word. not (is_in_range purpose word)) words ≡ false → IsWithin least greatest (first (filter_map (λ word. natural_number (whole_value word.value)) (words_of (letter ∷ []) words)))
first_within purpose letter least greatest [] range all = tt
first_within purpose letter least greatest (w ∷ ws) range all =
    let both = neither _ _ all in
    go (is_one_of (letter ∷ []) w.letter) (natural_number (whole_value w.value)) (words_of (letter ∷ []) ws) refl
    (λ same. word_within purpose letter least greatest w range same (not_false _ both.0))
    (first_within purpose letter least greatest ws range both.1)
  where
    go : (b : Bool) (number : Option ℕ) (rest : List FlowWord) → natural_number (whole_value w.value) ≡ number → (b ≡ true → IsWithin least greatest number) → IsWithin least greatest (first (filter_map (λ word. natural_number (whole_value word.value)) rest)) → IsWithin least greatest (first (filter_map (λ word. natural_number (whole_value word.value)) (cond b (w ∷ rest) rest)))
    go true (Some n) rest e here there = rw e (here refl)
    go true None rest e here there = rw e there
    go false number rest e here there = there
