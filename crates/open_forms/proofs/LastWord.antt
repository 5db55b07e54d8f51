-- The number of the last word of some letters, with one word more. For the loop of `last_number`
-- (src/letters.rt).
use Rattle.std.proofs.Common.{◌≡◌, ℕ, ◌+◌, ◌<◌, Bool, true, false, cond, List, [], ◌∷◌, ◌++◌, length, get_or, take, append-nil, refl, ap}
use Rattle.std.proofs.lemmas.List.Elements.{filter-append}
use Rattle.std.proofs.lemmas.List.{take_more}
use Rattle.code_tables.specs.Codes.{last_of}
use Rattle.line_text.specs.declared.body.Word.{Word}
use Rattle.block_words.specs.Words.{is_one_of}
use Rattle.code_tables.proofs.LastOfGroup.{last_of_push}
use Rattle.open_forms.specs.Words.{words_of, whole_of_word, number_of_last, last_number}

-- With one word more at the end the last number is that word's, if it is of these letters, else the
-- one from before.
last_number_push : (letters : List ℕ) (words : List Word) (word : Word) → last_number letters (words ++ word ∷ []) ≡ cond (is_one_of letters word.letter) (whole_of_word word) (last_number letters words)
last_number_push letters words word =
    rw (filter-append (λ (w : Word). is_one_of letters w.letter) words (word ∷ [])) (go (is_one_of letters word.letter) (words_of letters words))
  where
    go : (b : Bool) (before : List Word) → number_of_last (last_of (before ++ cond b (word ∷ []) [])) ≡ cond b (whole_of_word word) (number_of_last (last_of before))
    go true before = rw (last_of_push before word) refl
    go false before = ap (λ ws. number_of_last (last_of ws)) (append-nil before)

-- The last number among the first i + 1 words is that of the word i, if it is of these letters,
-- else that of the first i words.
pub last_number_more : (letters : List ℕ) (words : List Word) (i : ℕ) (d : Word) → i < length words → last_number letters (take (i + 1) words) ≡ cond (is_one_of letters (get_or words i d).letter) (whole_of_word (get_or words i d)) (last_number letters (take i words))
last_number_more letters words i d lt =
    rw (take_more words i d lt) (last_number_push letters (take i words) (get_or words i d))
