-- Which words go with a number: those of the cause that has it.
use Rattle.std.specs.Prelude.{◌≡◌, ◌<◌, ◌≤◌, ℕ, List, []}
use Rattle.nc_number.specs.declared.cause.Cause.{Cause}
use Rattle.nc_number.specs.Causes.{cause_name, cause_number}

-- these words are what `words_of` gives for the cause with this number; none if no cause has it
pub record AreWordsOf (words_of : Cause → List ℕ) (number : ℕ) (words : List ℕ) : Type 0 where
  -- a cause has the number: its words
  pub known : (cause : Cause) → cause_number cause ≡ number → words ≡ words_of cause
  -- no cause has it: no words
  pub unknown : ((cause : Cause) → cause_number cause ≡ number → ⊥) → words ≡ []

-- these bytes are the name of the number: that of its cause, or none; every cause has a number that
-- is less than 256
pub record IsNameOf (number : ℕ) (bytes : List ℕ) : Type 0 where
  -- a number that a cause may have
  pub small : number < 256 → AreWordsOf cause_name number bytes
  -- a larger one
  pub large : 256 ≤ number → bytes ≡ []
