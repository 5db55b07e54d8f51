-- What a search of the table of causes found has the words of the number, or no cause has it.
-- For the proof of `name_of` (src/naming.rt).
use Rattle.std.proofs.Common.{◌≡◌, ℕ, List, [], Option, Some, None, refl, sym, ap, ◌∙◌}
use Rattle.nc_number.specs.declared.cause.Cause.{Cause}
use Rattle.nc_number.specs.Causes.{cause_number}
use Rattle.cause_words.specs.Words.{AreWordsOf}

module _ (words_of : Cause → List ℕ) (number : ℕ) (found : Option Cause) (only : (cause : Cause) → cause_number cause ≡ number → found ≡ Some cause) where
  -- the words of the cause that was found
  pub found_words : (cause : Cause) → found ≡ Some cause → cause_number cause ≡ number → (words : List ℕ) → words ≡ words_of cause
      → AreWordsOf words_of number words
  found_words cause is has words are = record {
    known = λ it of_it. let both : ◌≡◌ {A = Option Cause} (Some cause) (Some it) = sym is ∙ only it of_it in let same : cause ≡ it = cc in are ∙ ap words_of same;
    unknown = λ none. absurd (none cause has);
  }

  -- no words, for nothing was found
  pub no_words : found ≡ None → AreWordsOf words_of number []
  no_words is = record {
    known = λ it of_it. let both : ◌≡◌ {A = Option Cause} None (Some it) = sym is ∙ only it of_it in absurd (cc);
    unknown = λ none. refl;
  }
