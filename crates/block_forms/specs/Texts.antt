-- Which refusals hold of the text of a block of words, apart from any order among them. For this
-- crate's law `the_least_refusal_of_a_text_is_answered` (src/laws.rt).
use Rattle.std.specs.Prelude.{◌≡◌, ◌≤◌, ℕ, true, List, ◌∷◌, ◌++◌, Ok, Err}
use Rattle.nc_number.specs.Causes.{cause_number}
use Rattle.nc_number.specs.declared.cause.Cause.{Cause}
use Rattle.nc_number.specs.declared.cause.Cause.TheVariants.{TooManyVariables}
use Rattle.line_text.specs.declared.body.Word.{Word}
use Rattle.block_words.specs.declared.dialect.Dialect.{Dialect}
use Rattle.block_words.specs.declared.word.FlowWord.{FlowWord}
use Rattle.block_forms.specs.Refusals.{Refuses}
use Rattle.block_forms.specs.Forms.{word_of, all_words, has_many_variables}

-- A refusal of this number holds of the text of a block.
pub data RefusesText (dialect : Dialect) (texts : List Word) : ℕ → Type 0 where
  -- A word, which stands between those before it and those behind, does not read: it is refused by
  -- this number.
  unread : (before behind : List Word) (word : Word) (number : ℕ) → texts ≡ before ++ word ∷ behind
      → word_of word ≡ Err number → RefusesText dialect texts number
  -- The words name more than 32 variables.
  many : has_many_variables texts ≡ true → RefusesText dialect texts (cause_number TooManyVariables)
  -- Each word reads, and what the words say is refused.
  said : (words : List FlowWord) (cause : Cause) → all_words texts ≡ Ok words → Refuses dialect words cause
      → RefusesText dialect texts (cause_number cause)

-- A refusal of this number holds of the text, and none of a smaller number does.
pub record IsLeastOfText (dialect : Dialect) (texts : List Word) (number : ℕ) : Type 0 where
  -- The refusal holds of the text.
  pub holds : RefusesText dialect texts number
  -- Each refusal that holds has this number or a greater one.
  pub least : (other : ℕ) → RefusesText dialect texts other → number ≤ other
