-- Words of some letters among those of more: what holds of the words of more letters holds of those
-- of fewer. For Accepts and LastWithin.
use Rattle.std.proofs.Common.{◌≡◌, ℕ, ◌==◌, Bool, true, false, cond, not, ◌&&◌, ◌||◌, List, [], ◌∷◌, ◌++◌, Option, Some, None, ℤ, pos, negsuc, refl, sym, ◌∙◌, ap, subst, arith, eqb-true}
use Rattle.std.specs.Prelude.{nat_le}
use Rattle.std.specs.List.{list_any, list_all, filter_map, cons_option}
use Rattle.std.proofs.lemmas.Bool.{and_parts}
use Rattle.std.proofs.lemmas.Bool.Decides.{nat_tests}
use Rattle.nc_number.specs.Arithmetic.{whole_of}
use Rattle.nc_number.proofs.Bools.{neither, not_false}
use Rattle.line_text.specs.declared.body.Word.{Word}
use Rattle.block_words.specs.declared.purpose.Purpose.{Purpose}
use Rattle.block_words.specs.declared.range.Range.TheVariants.{Between}
use Rattle.block_words.specs.declared.word.FlowWord.{FlowWord}
use Rattle.block_words.specs.declared.word.WordValue.{WordValue}
use Rattle.block_words.specs.declared.word.WordValue.TheVariants.{Fixed, Computed}
use Rattle.block_words.specs.Words.{is_one_of, words_of, has, is_computed, has_computed, whole_value}
use Rattle.block_words.specs.Codes.{natural_number}
use Rattle.block_words.specs.Ranges.{range_of, is_between, fits_value, is_in_range}
use Rattle.open_forms.specs.Words.{whole_of_word}
use Rattle.open_forms.specs.Refusals.{is_parameter, is_within, is_in}
use Rattle.open_forms.proofs.ReadWords.{AreSaid, none, one_more, same_number}

-- Each of the first letters is one of the second.
abbrev pub AreAmong : List ℕ → List ℕ → Type 0
AreAmong few many = (letter : ℕ) → is_one_of few letter ≡ true → is_one_of many letter ≡ true

-- A single letter is among these if it is one of them.
pub one_among : (own : ℕ) (many : List ℕ) → is_one_of many own ≡ true → AreAmong (own ∷ []) many
one_among own many there letter is = go (own == letter) refl is
  where
    go : (b : Bool) → (own == letter) ≡ b → (b || false) ≡ true → is_one_of many letter ≡ true
    go true e here = subst (λ l. is_one_of many l ≡ true) (eqb-true own letter e) there
    go false e here = absurd (cc)

-- Letters are among themselves.
pub same_among : (letters : List ℕ) → AreAmong letters letters
same_among letters letter is = is

-- Letters are among themselves with more behind them.
pub front_among : (few more : List ℕ) → AreAmong few (few ++ more)
front_among [] more letter is = absurd (cc)
front_among (l ∷ few) more letter is = go (l == letter) is (front_among few more letter)
  where
    go : (b : Bool) → (b || is_one_of few letter) ≡ true → (is_one_of few letter ≡ true → is_one_of (few ++ more) letter ≡ true)
        → (b || is_one_of (few ++ more) letter) ≡ true
    go true e further = refl
    go false e further = further e

-- If no word of more letters is computed, none of fewer is.
pub fewer_computed : (few many : List ℕ) → AreAmong few many → (words : List FlowWord) → has_computed many words ≡ false → has_computed few words ≡ false
fewer_computed few many among [] all = refl
fewer_computed few many among (w ∷ words) all =
    go (is_one_of few w.letter) (is_one_of many w.letter) refl refl (λ rest. fewer_computed few many among words rest) all
  where
    go : (a b : Bool) → is_one_of few w.letter ≡ a → is_one_of many w.letter ≡ b
        → (has_computed many words ≡ false → has_computed few words ≡ false)
        → list_any (λ (v : FlowWord). is_computed v.value) (cond b (w ∷ words_of many words) (words_of many words)) ≡ false
        → list_any (λ (v : FlowWord). is_computed v.value) (cond a (w ∷ words_of few words) (words_of few words)) ≡ false
    go true true first second further all = let both = neither (is_computed w.value) (has_computed many words) all in rw both.0 (further both.1)
    go true false first second further all = let there : is_one_of many w.letter ≡ true = among w.letter first in absurd (cc)
    go false true first second further all = further (neither _ _ all).1
    go false false first second further all = further all

-- If no word is of these letters, their list is empty.
pub none_of : (letters : List ℕ) (words : List FlowWord) → has letters words ≡ false → words_of letters words ≡ []
none_of letters [] all = refl
none_of letters (w ∷ words) all = let both = neither (is_one_of letters w.letter) (has letters words) all in rw both.0 (none_of letters words both.1)

-- If no word is of these letters, none of them is computed.
pub none_computed : (letters : List ℕ) (words : List FlowWord) → has letters words ≡ false → has_computed letters words ≡ false
none_computed letters words all = ap (list_any (λ (v : FlowWord). is_computed v.value)) (none_of letters words all)

-- Each of these letters has this range in a block of this purpose.
abbrev pub HaveRange : Purpose → ℕ → ℕ → List ℕ → Type 0
HaveRange purpose least greatest letters = (letter : ℕ) → is_one_of letters letter ≡ true → range_of purpose letter ≡ Between least greatest

-- If a letter has the range, the list of it alone has.
pub range_of_one : (purpose : Purpose) (least greatest own : ℕ) → range_of purpose own ≡ Between least greatest → HaveRange purpose least greatest (own ∷ [])
range_of_one purpose least greatest own range letter is = go (own == letter) refl is
  where
    go : (b : Bool) → (own == letter) ≡ b → (b || false) ≡ true → range_of purpose letter ≡ Between least greatest
    go true e here = subst (λ l. range_of purpose l ≡ Between least greatest) (eqb-true own letter e) range
    go false e here = absurd (cc)

-- If two letters have the range, the list of both has.
pub range_of_two : (purpose : Purpose) (least greatest own other : ℕ) → range_of purpose own ≡ Between least greatest
    → range_of purpose other ≡ Between least greatest → HaveRange purpose least greatest (own ∷ other ∷ [])
range_of_two purpose least greatest own other first second letter is = go (own == letter) refl is
  where
    go : (b : Bool) → (own == letter) ≡ b → (b || ((other == letter) || false)) ≡ true → range_of purpose letter ≡ Between least greatest
    go true e here = subst (λ l. range_of purpose l ≡ Between least greatest) (eqb-true own letter e) first
    go false e here = range_of_one purpose least greatest other second letter here

-- If no word is out of its range, each word of letters with this range fits it.
pub all_fit : (purpose : Purpose) (least greatest : ℕ) (letters : List ℕ) → HaveRange purpose least greatest letters
    → (words : List FlowWord) → list_any (λ (w : FlowWord). not (is_in_range purpose w)) words ≡ false
    → list_all (λ (w : FlowWord). fits_value (Between least greatest) w.value) (words_of letters words) ≡ true
all_fit purpose least greatest letters range [] all = refl
all_fit purpose least greatest letters range (w ∷ words) all =
    let both = neither _ _ all in
    go (is_one_of letters w.letter) refl (not_false _ both.0) (all_fit purpose least greatest letters range words both.1)
  where
    go : (b : Bool) → is_one_of letters w.letter ≡ b → is_in_range purpose w ≡ true
        → list_all (λ (w : FlowWord). fits_value (Between least greatest) w.value) (words_of letters words) ≡ true
        → list_all (λ (w : FlowWord). fits_value (Between least greatest) w.value) (cond b (w ∷ words_of letters words) (words_of letters words)) ≡ true
    go true e fits rest =
        let own : fits_value (Between least greatest) w.value ≡ true = subst (λ r. fits_value r w.value ≡ true) (range w.letter e) fits in
        rw own rest
    go false e fits rest = rest

-- The number of a value that fits a range, and is written out, lies within it.
value_within : (least greatest : ℕ) (value : WordValue) → fits_value (Between least greatest) value ≡ true → is_computed value ≡ false
    → is_within least greatest (natural_number (whole_value value)) ≡ true
value_within least greatest (Fixed literal) fits plain = go (whole_of literal.value) fits
  where
    go : (z : Option ℤ) → is_between least greatest z ≡ true → is_within least greatest (natural_number z) ≡ true
    go None e = absurd (cc)
    go (Some (pos n)) e = e
    go (Some (negsuc n)) e = absurd (cc)
value_within least greatest (Computed minus tree) fits plain = absurd (cc)

-- If the words fit a range and are written out, their texts write numbers within it.
pub all_within : (least greatest : ℕ) (texts : List Word) (words : List FlowWord) → AreSaid texts words
    → list_all (λ (w : FlowWord). fits_value (Between least greatest) w.value) words ≡ true
    → list_any (λ (w : FlowWord). is_computed w.value) words ≡ false → list_all (is_in least greatest) texts ≡ true
all_within least greatest _ _ none fit plain = refl
all_within least greatest _ _ (one_more text word texts words is others) fit plain =
    let fits = and_parts _ _ fit in
    let plains = neither _ _ plain in
    let own : is_in least greatest text ≡ true =
    ap (is_within least greatest) (same_number text word is) ∙ value_within least greatest word.value fits.0 plains.0 in
    rw own (all_within least greatest texts words others fits.1 plains.1)

-- Numbers within a range are within one with a greater end.
pub within_more : (least greatest more : ℕ) → nat_le greatest more ≡ true → (texts : List Word)
    → list_all (is_in least greatest) texts ≡ true → list_all (is_in least more) texts ≡ true
within_more least greatest more larger [] all = refl
within_more least greatest more larger (t ∷ texts) all =
    let both = and_parts _ _ all in
    rw (go (whole_of_word t) both.0) (within_more least greatest more larger texts both.1)
  where
    go : (n : Option ℕ) → is_within least greatest n ≡ true → is_within least more n ≡ true
    go None e = absurd (cc)
    go (Some n) e = grind (arith, nat_tests)

-- An L of 2 does not say 50 to 52.
no_parameter : (value : WordValue) → fits_value (Between 2 2) value ≡ true → (n : Option ℕ) → natural_number (whole_value value) ≡ n → list_any is_parameter (cons_option n []) ≡ false
no_parameter value fits None e = refl
no_parameter (Computed minus tree) fits (Some n) e = absurd (cc)
no_parameter (Fixed literal) fits (Some n) e = go (whole_of literal.value) fits e
  where
    go : (z : Option ℤ) → is_between 2 2 z ≡ true → natural_number z ≡ Some n → list_any is_parameter (n ∷ []) ≡ false
    go None fits e = absurd (cc)
    go (Some (negsuc m)) fits e = absurd (cc)
    go (Some (pos m)) fits e =
        let same : m ≡ n = cc in
        let two : n ≡ 2 = (let own : (nat_le 2 m && nat_le m 2) ≡ true = fits in grind (arith, nat_tests)) in
        rw two refl

-- If all L words are 2, none says 50 to 52.
pub no_parameters : (texts : List Word) (words : List FlowWord) → AreSaid texts words
    → list_all (λ (w : FlowWord). fits_value (Between 2 2) w.value) words ≡ true → list_any is_parameter (filter_map whole_of_word texts) ≡ false
no_parameters _ _ none fit = refl
no_parameters _ _ (one_more text word texts words is others) fit =
    let fits = and_parts _ _ fit in
    go (whole_of_word text) (no_parameter word.value fits.0 (whole_of_word text) (sym (same_number text word is))) (no_parameters texts words others fits.1)
  where
    go : (n : Option ℕ) → list_any is_parameter (cons_option n []) ≡ false → list_any is_parameter (filter_map whole_of_word texts) ≡ false
        → list_any is_parameter (cons_option n (filter_map whole_of_word texts)) ≡ false
    go None own rest = rest
    go (Some n) own rest = let no : is_parameter n ≡ false = (neither (is_parameter n) false own).0 in rw no rest
