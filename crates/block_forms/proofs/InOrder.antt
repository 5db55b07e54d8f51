-- Whether the arguments I, J and K of a macro call rise, word by word. For `are_in_order`
-- (src/refusals.rt).
use Rattle.std.proofs.Common.{◌≡◌, ℕ, suc, ◌+◌, ◌<◌, Bool, true, false, cond, ◌&&◌, List, [], ◌∷◌, length, get_or, drop, Option, Some, None, codes, map, refl, ◌∙◌, arith}
use Rattle.std.proofs.Math.Seq.{drop-cons}
use Rattle.block_words.specs.declared.word.FlowWord.{FlowWord}
use Rattle.block_words.specs.Words.{is_one_of, words_of}
use Rattle.block_forms.specs.Refusals.{is_above, rises_behind}

-- I, J and K of these words rise, and the first of them is above this letter, if there is one.
unfoldable pub in_order_behind : Option ℕ → List FlowWord → Bool
in_order_behind before words = rises_behind before (map (λ word. word.letter) (words_of (codes "IJK") words))

-- Before the first word the loop's question is that of the definition.
pub in_order_start : (words : List FlowWord) → in_order_behind None (drop 0 words) ≡ rises_behind None (map (λ word. word.letter) (words_of (codes "IJK") words))
unfolding in_order_behind
in_order_start words = refl

-- Behind the last word I, J and K rise.
pub in_order_end : (before : Option ℕ) → in_order_behind before [] ≡ true
unfolding in_order_behind
in_order_end before = refl

-- Of one word and the others: if it is an I, J or K, it must be above the letter before, and the
-- others rise from it.
in_order_cons : (before : Option ℕ) (word : FlowWord) (words : List FlowWord) → in_order_behind before (word ∷ words) ≡ cond (is_one_of (codes "IJK") word.letter) (is_above before word.letter && in_order_behind (Some word.letter) words) (in_order_behind before words)
unfolding in_order_behind
in_order_cons before word words = go (is_one_of (codes "IJK") word.letter) (words_of (codes "IJK") words)
  where
    go : (b : Bool) (rest : List FlowWord) → rises_behind before (map (λ (w : FlowWord). w.letter) (cond b (word ∷ rest) rest)) ≡ cond b (is_above before word.letter && rises_behind (Some word.letter) (map (λ (w : FlowWord). w.letter) rest)) (rises_behind before (map (λ (w : FlowWord). w.letter) rest))
    go true rest = refl
    go false rest = refl

-- At the word i of the loop: if it is an I, J or K, it must be above the letter before, and the
-- words ahead rise from it.
in_order_next : (before : Option ℕ) (words : List FlowWord) (i : ℕ) (d : FlowWord) → i < length words → in_order_behind before (drop i words) ≡ cond (is_one_of (codes "IJK") (get_or words i d).letter) (is_above before (get_or words i d).letter && in_order_behind (Some (get_or words i d).letter) (drop (i + 1) words)) (in_order_behind before (drop (i + 1) words))
in_order_next before words i d lt =
    let e : i + 1 ≡ suc i = omega arith in
    rw (drop-cons words i d lt, e) (in_order_cons before (get_or words i d) (drop (suc i) words))

-- At an I, J or K that is not above the one before, the words don't rise.
pub in_order_ends : (before : Option ℕ) (words : List FlowWord) (i : ℕ) (word : FlowWord) → i < length words → word ≡ get_or words i word → is_one_of (codes "IJK") word.letter ≡ true → is_above before word.letter ≡ false → in_order_behind before (drop i words) ≡ false
in_order_ends before words i word lt is one above =
    in_order_next before words i word lt ∙ rw (← is, one, above) refl

-- At an I, J or K that is above the one before, the words ahead must rise from its letter.
pub in_order_goes : (before : Option ℕ) (words : List FlowWord) (i : ℕ) (word : FlowWord) → i < length words → word ≡ get_or words i word → is_one_of (codes "IJK") word.letter ≡ true → is_above before word.letter ≡ true → in_order_behind before (drop i words) ≡ in_order_behind (Some word.letter) (drop (i + 1) words)
in_order_goes before words i word lt is one above =
    in_order_next before words i word lt ∙ rw (← is, one, above) refl

-- A word of another letter changes nothing.
pub in_order_skips : (before : Option ℕ) (words : List FlowWord) (i : ℕ) (word : FlowWord) → i < length words → word ≡ get_or words i word → is_one_of (codes "IJK") word.letter ≡ false → in_order_behind before (drop i words) ≡ in_order_behind before (drop (i + 1) words)
in_order_skips before words i word lt is one =
    in_order_next before words i word lt ∙ rw (← is, one) refl
