-- In the text of a macro expression the code's prefix search finds what the specs say stands after
-- a word. For `text_behind` (src/words.rt).
use Rattle.std.proofs.Common.{◌≡◌, ℕ, ◌+◌, true, false, ◌==◌, ◌&&◌, nat_eq, List, [], ◌∷◌, length, take, drop, Option, None, Some, MatchOption, refl, cond, sym, ◌∙◌, ap, Bor}
use Rattle.std.specs.Option.{option_map}
use lib.Pointwise.{pointwise}
use Rattle.macro_expr.specs.Words.{text_behind}

-- what stands after a word, by comparing the front of the text
behind_is : (word text : List ℕ)
    → text_behind word text ≡ cond (pointwise nat_eq (take (length word) text) word) (Some (drop (length word) text)) None
behind_is [] text = refl
behind_is (w ∷ word) [] = refl
behind_is (w ∷ word) (b ∷ text) =
    elim (b == w) as (λ t. cond t (text_behind word text) None
    ≡ cond (t && pointwise nat_eq (take (length word) text) word) (Some (drop (length word) text)) None) [
      | true ↦ behind_is word text
      | false ↦ refl
    ]

-- the code's prefix search finds what stands behind the word
pub behind_prefix : (word text : List ℕ) (r : Option (Bor (List ℕ)))
    → MatchOption r (pointwise nat_eq (take (length word) text) word ≡ false)
    (λ x. (pointwise nat_eq (take (length word) text) word ≡ true) × (x.now ≡ drop (length word) text)
    × (length x.now + length word ≡ length text))
    → option_map (λ rest. rest.now) r ≡ text_behind word text
behind_prefix word text None other =
    sym (behind_is word text ∙ ap (λ t. cond t (Some (drop (length word) text)) None) other)
behind_prefix word text (Some x) found =
    ap Some found.1 ∙ sym (behind_is word text ∙ ap (λ t. cond t (Some (drop (length word) text)) None) found.0)
