-- The number of the last word of some letters, with one word more. For the loop of `number_of`
-- (src/letters.rt).
use Rattle.std.proofs.Common.{◌≡◌, ℕ, ◌+◌, ◌<◌, Bool, true, false, cond, List, [], ◌∷◌, ◌++◌, length, get_or, take, append-nil, refl, ap}
use Rattle.std.proofs.lemmas.List.Elements.{filter-append}
use Rattle.std.proofs.lemmas.List.{take_more}
use Rattle.code_tables.specs.Codes.{last_of}
use Rattle.code_tables.proofs.LastOfGroup.{last_of_push}
use Rattle.block_words.specs.declared.word.FlowWord.{FlowWord}
use Rattle.block_words.specs.Words.{is_one_of, words_of, whole_value, value_of_last, whole_of_last, last_whole}
use Rattle.block_words.specs.Codes.{natural_number}

-- With one word more at the end the last number is that word's, if it is of these letters, else the
-- one from before.
last_whole_push : (letters : List ℕ) (words : List FlowWord) (word : FlowWord) → last_whole letters (words ++ word ∷ []) ≡ cond (is_one_of letters word.letter) (whole_value word.value) (last_whole letters words)
last_whole_push letters words word =
    rw (filter-append (λ (w : FlowWord). is_one_of letters w.letter) words (word ∷ [])) (go (is_one_of letters word.letter) (words_of letters words))
  where
    go : (b : Bool) (before : List FlowWord) → whole_of_last (value_of_last (last_of (before ++ cond b (word ∷ []) []))) ≡ cond b (whole_value word.value) (whole_of_last (value_of_last (last_of before)))
    go true before = rw (last_of_push before word) refl
    go false before = ap (λ ws. whole_of_last (value_of_last (last_of ws))) (append-nil before)

-- The last number among the first i + 1 words is that of the word i, if it is of these letters,
-- else that of the first i words.
pub last_number_more : (letters : List ℕ) (words : List FlowWord) (i : ℕ) (d : FlowWord) → i < length words → natural_number (last_whole letters (take (i + 1) words)) ≡ cond (is_one_of letters (get_or words i d).letter) (natural_number (whole_value (get_or words i d).value)) (natural_number (last_whole letters (take i words)))
last_number_more letters words i d lt =
    rw (take_more words i d lt, last_whole_push letters (take i words) (get_or words i d)) (go (is_one_of letters (get_or words i d).letter))
  where
    go : (b : Bool) → natural_number (cond b (whole_value (get_or words i d).value) (last_whole letters (take i words))) ≡ cond b (natural_number (whole_value (get_or words i d).value)) (natural_number (last_whole letters (take i words)))
    go true = refl
    go false = refl
