-- Steps of the reading of a macro expression: what is read stands at the head of the text by the
-- grammar. For ChainLaws, Sound and StatementsSound.
use Rattle.std.proofs.Common.{◌≡◌, ℕ, List, ◌++◌, Ok, Err, append_assoc}
use Rattle.macro_expr.specs.declared.stop.Stop.{Stop}
use Rattle.macro_expr.specs.declared.stop.Stop.TheVariants as stop
use Rattle.nc_number.specs.Results.{◌>>=◌}
use Rattle.macro_expr.specs.Reading.{Read, text_after_word, word_at}
use Rattle.macro_expr.proofs.Heads.{behind_word}

-- what is read stands at the head of the text, or reading stops
pub data Sound {A : Type 0} (Is : List ℕ → A → Type 0) (text : List ℕ) : Read A → Type 0 where
  -- a value was read of the front of the text, and the rest is left
  found : (t rest : List ℕ) (x : A) → Is t x → text ≡ t ++ rest → Sound Is text (Ok (x, rest))
  -- reading stops
  stops : (s : Stop) → Sound Is text (Err s)

-- at each text, what this reader reads stands at the head by the grammar
abbrev pub Reads : {A : Type 0} → (List ℕ → A → Type 0) → (List ℕ → Read A) → Type 0
Reads Is reader = (text : List ℕ) → Sound Is text (reader text)

-- a step that is sound, and then one that is sound after it, are sound together
pub step : {A B : Type 0} {Is : List ℕ → A → Type 0} {Is' : List ℕ → B → Type 0} {at text : List ℕ} {r : Read A}
    (f : A × List ℕ → Read B) → Sound Is at r
    → ((t rest : List ℕ) (x : A) → Is t x → at ≡ t ++ rest → Sound Is' text (f (x, rest))) → Sound Is' text (r >>= f)
step f (found t rest x is stands) next = next t rest x is stands
step f (stops s) next = stops s

-- a word that must stand there, and then a step that is sound after it
pub word_step : {B : Type 0} {Is : List ℕ → B → Type 0} {text : List ℕ} (f : List ℕ → Read B) (word at : List ℕ)
    → ((rest : List ℕ) → at ≡ word ++ rest → Sound Is text (f rest)) → Sound Is text (word_at word at >>= f)
unfolding word_at
word_step {Is} {text} f word at next =
    behind_word (λ o. Sound Is text (text_after_word o >>= f)) word at next (stops stop.Expression)

-- a part after a front, and what both make, are sound together
pub joins : {A B : Type 0} {Is : List ℕ → A → Type 0} {Is' : List ℕ → B → Type 0} {at text : List ℕ} {r : Read A}
    (front : List ℕ) (mk : A → B) → ((t : List ℕ) (x : A) → Is t x → Is' (front ++ t) (mk x)) → text ≡ front ++ at
    → Sound Is at r → Sound Is' text (r >>= λ x. Ok (mk x.0, x.1))
joins front mk make here (found t rest x is stands) =
    found (front ++ t) rest (mk x) (make t x is) (simp (here, stands, append_assoc))
joins front mk make here (stops s) = stops s

-- a part that is the whole of another kind is sound as that kind
pub turned : {A : Type 0} {Is Is' : List ℕ → A → Type 0} {text : List ℕ} {r : Read A}
    → ((t : List ℕ) (x : A) → Is t x → Is' t x) → Sound Is text r → Sound Is' text r
turned make (found t rest x is stands) = found t rest x (make t x is) stands
turned make (stops s) = stops s
