-- The answer to a block of words that read: they are the block's, or the first refusal that holds
-- is answered. For `read_words` (src/reading.rt).
use Rattle.std.proofs.Common.{◌≡◌, ℕ, false, List, Some, None, Ok, Err, refl, sym}
use Rattle.nc_number.specs.declared.cause.Cause.{Cause}
use Rattle.nc_number.specs.Causes.{cause_number}
use Rattle.line_text.specs.declared.body.Word.{Word}
use Rattle.block_words.specs.declared.dialect.Dialect.{Dialect}
use Rattle.block_words.specs.declared.word.FlowWord.{FlowWord}
use Rattle.block_forms.specs.Refusals.{refusal_of}
use Rattle.block_forms.specs.Forms.{all_words, has_many_variables, words_or_refusal}

-- Words that read and are few enough, and of which a refusal holds, are refused by its number.
pub refused_words : (dialect own : Dialect) (texts : List Word) (words read : List FlowWord) (cause : Cause) (number : ℕ) → all_words texts ≡ Ok words → has_many_variables texts ≡ false → own ≡ dialect → read ≡ words → Some cause ≡ refusal_of own read → number ≡ cause_number cause → words_or_refusal dialect texts ≡ Err number
refused_words dialect own texts words read cause number all few same_dialect same_words refused is =
    let at : refusal_of dialect words ≡ Some cause = rw (← same_dialect, ← same_words) (sym refused) in
    rw (all, few, at, is) refl

-- Words that read and are few enough, and of which no refusal holds, are the answer.
pub accepted_words : (dialect own : Dialect) (texts : List Word) (words read : List FlowWord) → all_words texts ≡ Ok words → has_many_variables texts ≡ false → own ≡ dialect → read ≡ words → None ≡ refusal_of own read → words_or_refusal dialect texts ≡ Ok read
accepted_words dialect own texts words read all few same_dialect same_words accepted =
    let at : refusal_of dialect words ≡ None = rw (← same_dialect, ← same_words) (sym accepted) in
    rw (all, few, at, same_words) refl
