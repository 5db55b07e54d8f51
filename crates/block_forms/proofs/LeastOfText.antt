-- Of the refusals that hold of the text of a block of words the least is answered. For the law
-- `the_least_refusal_of_a_text_is_answered` (src/laws.rt).
use Rattle.std.proofs.Common.{◌≡◌, ℕ, ◌≤◌, nat_le, Bool, true, false, if◌then◌else◌, List, [], ◌∷◌, ◌++◌, Option, Some, None, Result, Ok, Err, ◌↔◌, refl, sym, ◌∙◌, ap, arith}
use Rattle.std.proofs.lemmas.Bool.Decides.{nat_tests}
use Rattle.nc_number.specs.Causes.{cause_number}
use Rattle.nc_number.specs.declared.cause.Cause.{Cause}
use Rattle.nc_number.specs.declared.cause.Cause.TheVariants.{TooManyVariables}
use Rattle.line_text.specs.declared.body.Word.{Word}
use Rattle.block_words.specs.declared.dialect.Dialect.{Dialect}
use Rattle.block_words.specs.declared.word.FlowWord.{FlowWord}
use Rattle.block_forms.specs.Refusals.{IsLeast, refusal_of}
use Rattle.block_forms.specs.Forms.{word_of, word_and_rest, all_words, has_many_variables, with_refusal, words_or_number, words_or_refusal}
use Rattle.block_forms.specs.Texts.{RefusesText, unread, many, said, IsLeastOfText}
use Rattle.block_forms.proofs.LeastRefusal.{least_refusal, no_refusal, refusal_above_25}
use Rattle.block_forms.proofs.WordNumbers.{Stops, word_number}

-- If one word and those behind it read, those behind it do.
rest_reads : (word : Result FlowWord ℕ) (rest : Result (List FlowWord) ℕ) (words : List FlowWord) → word_and_rest word rest ≡ Ok words → (behind : List FlowWord) × (rest ≡ Ok behind)
rest_reads (Ok w) (Ok ws) words e = (ws, refl)
rest_reads (Ok w) (Err n) words e = absurd (cc)
rest_reads (Err n) (Ok ws) words e = absurd (cc)
rest_reads (Err n) (Err m) words e = absurd (cc)

-- If all words read, there is no word that does not.
all_read : (before behind : List Word) (word : Word) (words : List FlowWord) (number : ℕ) → all_words (before ++ word ∷ behind) ≡ Ok words → word_of word ≡ Err number → ⊥
all_read [] behind word words number all fails = go (word_of word) (all_words behind) fails all
  where
    go : (w : Result FlowWord ℕ) (rest : Result (List FlowWord) ℕ) → w ≡ Err number → word_and_rest w rest ≡ Ok words → ⊥
    go (Ok w) rest e all = absurd (cc)
    go (Err n) (Ok ws) e all = absurd (cc)
    go (Err n) (Err m) e all = absurd (cc)
all_read (b ∷ before) behind word words number all fails =
    let rest = rest_reads (word_of b) (all_words (before ++ word ∷ behind)) words all in
    all_read before behind word rest.0 number rest.1 fails

-- The lesser of a word's number and that of the words behind it is at most each of them.
first_or_rest : (own rest number : ℕ) → ◌≡◌ {A = Result (List FlowWord) ℕ} (Err (if nat_le own rest then own else rest)) (Err number) → (number ≤ own) × (number ≤ rest)
first_or_rest own rest number e = let same : (if nat_le own rest then own else rest) ≡ number = cc in (grind (arith, nat_tests), grind (arith, nat_tests))

-- The number that is answered is at most that of each word that doesn't read.
is_least : (before behind : List Word) (word : Word) (number own : ℕ) → all_words (before ++ word ∷ behind) ≡ Err number → word_of word ≡ Err own → number ≤ own
is_least [] behind word number own all fails = go (word_of word) (all_words behind) fails all
  where
    go : (w : Result FlowWord ℕ) (rest : Result (List FlowWord) ℕ) → w ≡ Err own → word_and_rest w rest ≡ Err number → number ≤ own
    go (Ok w) rest e all = absurd (cc)
    go (Err n) (Ok ws) e all = let a : n ≡ own = cc in let b : n ≡ number = cc in omega arith
    go (Err n) (Err m) e all = let a : n ≡ own = cc in let b : number ≤ n = (first_or_rest n m number all).0 in omega arith
is_least (b ∷ before) behind word number own all fails =
    go (word_of b) (all_words (before ++ word ∷ behind)) refl all (λ n rest. is_least before behind word n own rest fails)
    (λ words rest. all_read before behind word words own rest fails)
  where
    go : (w : Result FlowWord ℕ) (rest : Result (List FlowWord) ℕ) → all_words (before ++ word ∷ behind) ≡ rest → word_and_rest w rest ≡ Err number → ((n : ℕ) → all_words (before ++ word ∷ behind) ≡ Err n → n ≤ own) → ((words : List FlowWord) → all_words (before ++ word ∷ behind) ≡ Ok words → ⊥) → number ≤ own
    go w (Ok ws) at all later never = absurd (never ws at)
    go (Ok w) (Err m) at all later never = let a : m ≡ number = cc in let b : m ≤ own = later m at in omega arith
    go (Err n) (Err m) at all later never = let a : number ≤ m = (first_or_rest n m number all).1 in let b : m ≤ own = later m at in omega arith

-- A word of the block that doesn't read, and is refused by this number.
pub record Unread (texts : List Word) (number : ℕ) : Type 0 where
  -- The words before it.
  pub before : List Word
  -- The words behind it.
  pub behind : List Word
  -- The word itself.
  pub word : Word
  -- Together they are the block's words.
  pub stands : texts ≡ before ++ word ∷ behind
  -- It is refused by this number.
  pub fails : word_of word ≡ Err number

-- The number that is answered for words that don't all read is that of one of them.
there : (texts : List Word) (number : ℕ) → all_words texts ≡ Err number → Unread texts number
there [] number all = absurd (cc)
there (t ∷ ts) number all = go (word_of t) (all_words ts) refl refl all (λ n rest. there ts n rest)
  where
    here : (n : ℕ) → word_of t ≡ Err n → n ≡ number → Unread (t ∷ ts) number
    here n at same = record { before = []; behind = ts; word = t; stands = refl; fails = at ∙ ap Err same }

    later : (n : ℕ) → Unread ts n → n ≡ number → Unread (t ∷ ts) number
    later n it same = record {
      before = t ∷ it.before;
      behind = it.behind;
      word = it.word;
      stands = ap (λ rest. t ∷ rest) it.stands;
      fails = it.fails ∙ ap Err same;
    }

    either : (first : Bool) (n m : ℕ) → word_of t ≡ Err n → Unread ts m → (if first then n else m) ≡ number → Unread (t ∷ ts) number
    either true n m at it same = here n at same
    either false n m at it same = later m it same

    go : (w : Result FlowWord ℕ) (rest : Result (List FlowWord) ℕ) → word_of t ≡ w → all_words ts ≡ rest → word_and_rest w rest ≡ Err number → ((n : ℕ) → all_words ts ≡ Err n → Unread ts n) → Unread (t ∷ ts) number
    go (Ok w) (Ok ws) at rest e behind = absurd (cc)
    go (Ok w) (Err m) at rest e behind = let same : m ≡ number = cc in later m (behind m rest) same
    go (Err n) (Ok ws) at rest e behind = let same : n ≡ number = cc in here n at same
    go (Err n) (Err m) at rest e behind =
        let same : (if nat_le n m then n else m) ≡ number = cc in
        either (nat_le n m) n m at (behind m rest) same

-- If a word doesn't read, the number that is answered is the least of a refusal of the text.
unread_is_least : Stops → (dialect : Dialect) (texts : List Word) (number : ℕ) → all_words texts ≡ Err number → IsLeastOfText dialect texts number
unread_is_least stops dialect texts number all =
    let it = there texts number all in
    record {
      holds = unread it.before it.behind it.word number it.stands it.fails;
      least = λ other refuses. go other refuses (word_number stops it.word number it.fails);
    }
  where
    go : (other : ℕ) → RefusesText dialect texts other → number ≤ 25 → number ≤ other
    go _ (unread before behind word other stands fails) small =
        is_least before behind word number other (sym (ap all_words stands) ∙ all) fails
    go _ (many is) small = small
    go _ (said words cause read refuses) small =
        let never : ◌≡◌ {A = Result (List FlowWord) ℕ} (Ok words) (Err number) = sym read ∙ all in absurd (cc)

-- If all words read and are few enough, the least refusal of what they say is the least of the
-- text.
said_is_least : (dialect : Dialect) (texts : List Word) (words : List FlowWord) (cause : Cause) → all_words texts ≡ Ok words → has_many_variables texts ≡ false → refusal_of dialect words ≡ Some cause → IsLeastOfText dialect texts (cause_number cause)
said_is_least dialect texts words cause all few refused =
    let is = (least_refusal dialect words cause).0 refused in
    record {
      holds = said words cause all is.holds;
      least = λ other refuses. go other refuses is;
    }
  where
    go : (other : ℕ) → RefusesText dialect texts other → IsLeast dialect words cause → cause_number cause ≤ other
    go _ (unread before behind word other stands fails) is =
        absurd (all_read before behind word words other (sym (ap all_words stands) ∙ all) fails)
    go _ (many are) is = let never : true ≡ false = sym are ∙ few in absurd (cc)
    go _ (said own other read refuses) is =
        let both : ◌≡◌ {A = Result (List FlowWord) ℕ} (Ok own) (Ok words) = sym read ∙ all in
        let same : own ≡ words = cc in
        is.least other (rw (← same) refuses)

-- If all words read but name more than 32 variables, that is the least refusal of the text.
many_is_least : (dialect : Dialect) (texts : List Word) (words : List FlowWord) → all_words texts ≡ Ok words → has_many_variables texts ≡ true → IsLeastOfText dialect texts (cause_number TooManyVariables)
many_is_least dialect texts words all are =
    record { holds = many are; least = λ other refuses. go other refuses }
  where
    go : (other : ℕ) → RefusesText dialect texts other → cause_number TooManyVariables ≤ other
    go _ (unread before behind word other stands fails) =
        absurd (all_read before behind word words other (sym (ap all_words stands) ∙ all) fails)
    go _ (many is) = omega arith
    go _ (said own other read refuses) = refusal_above_25 dialect own other refuses

-- If a number is the least of a refusal of the text, an equal number is.
along : (dialect : Dialect) (texts : List Word) (a b : ℕ) → a ≡ b → IsLeastOfText dialect texts a → IsLeastOfText dialect texts b
along dialect texts a b same is = rw (← same) is

-- The number that is answered is the least of a refusal of the text.
answered_is_least : Stops → (dialect : Dialect) (texts : List Word) (number : ℕ) → words_or_refusal dialect texts ≡ Err number → IsLeastOfText dialect texts number
answered_is_least stops dialect texts number answered =
    go (all_words texts) refl (has_many_variables texts) refl answered
  where
    told : (words : List FlowWord) → all_words texts ≡ Ok words → has_many_variables texts ≡ false → (refused : Option Cause) → refusal_of dialect words ≡ refused → with_refusal refused words ≡ Err number → IsLeastOfText dialect texts number
    told words all few None at e = absurd (cc)
    told words all few (Some cause) at e =
        let same : cause_number cause ≡ number = cc in
        along dialect texts (cause_number cause) number same (said_is_least dialect texts words cause all few at)

    go : (read : Result (List FlowWord) ℕ) → all_words texts ≡ read → (are : Bool) → has_many_variables texts ≡ are → words_or_number dialect are read ≡ Err number → IsLeastOfText dialect texts number
    go (Ok words) all true are e =
        let same : cause_number TooManyVariables ≡ number = cc in
        along dialect texts (cause_number TooManyVariables) number same (many_is_least dialect texts words all are)
    go (Ok words) all false few e = told words all few (refusal_of dialect words) refl e
    go (Err n) all are is e =
        let same : n ≡ number = cc in
        along dialect texts n number same (unread_is_least stops dialect texts n all)

-- If a block is accepted, all its words read, and no refusal holds of its text.
pub accepted_has_none : (dialect : Dialect) (texts : List Word) (words : List FlowWord) → words_or_refusal dialect texts ≡ Ok words → (all_words texts ≡ Ok words) × ((number : ℕ) → ¬ (RefusesText dialect texts number))
accepted_has_none dialect texts words accepted =
    go (all_words texts) refl (has_many_variables texts) refl accepted
  where
    none : (own : List FlowWord) → all_words texts ≡ Ok own → has_many_variables texts ≡ false → refusal_of dialect own ≡ None → (number : ℕ) → RefusesText dialect texts number → ⊥
    none own all few at _ (unread before behind word other stands fails) =
        all_read before behind word own other (sym (ap all_words stands) ∙ all) fails
    none own all few at _ (many are) = let never : true ≡ false = sym are ∙ few in absurd (cc)
    none own all few at _ (said read cause reads refuses) =
        let both : ◌≡◌ {A = Result (List FlowWord) ℕ} (Ok read) (Ok own) = sym reads ∙ all in
        let same : read ≡ own = cc in
        (no_refusal dialect own).0 at cause (rw (← same) refuses)

    told : (own : List FlowWord) → all_words texts ≡ Ok own → has_many_variables texts ≡ false → (refused : Option Cause) → refusal_of dialect own ≡ refused → with_refusal refused own ≡ Ok words → (all_words texts ≡ Ok words) × ((number : ℕ) → ¬ (RefusesText dialect texts number))
    told own all few None at e = (all ∙ e, λ number refuses. none own all few at number refuses)
    told own all few (Some cause) at e = absurd (cc)

    go : (read : Result (List FlowWord) ℕ) → all_words texts ≡ read → (are : Bool) → has_many_variables texts ≡ are → words_or_number dialect are read ≡ Ok words → (all_words texts ≡ Ok words) × ((number : ℕ) → ¬ (RefusesText dialect texts number))
    go (Ok own) all true are e = absurd (cc)
    go (Ok own) all false few e = told own all few (refusal_of dialect own) refl e
    go (Err n) all are is e = absurd (cc)

-- The least number of a refusal of the text is answered.
least_is_answered : Stops → (dialect : Dialect) (texts : List Word) (number : ℕ) → IsLeastOfText dialect texts number → words_or_refusal dialect texts ≡ Err number
least_is_answered stops dialect texts number is = go (words_or_refusal dialect texts) refl
  where
    go : (answer : Result (List FlowWord) ℕ) → words_or_refusal dialect texts ≡ answer → answer ≡ Err number
    go (Ok words) e = absurd ((accepted_has_none dialect texts words e).1 number is.holds)
    go (Err n) e =
        let own = answered_is_least stops dialect texts n e in
        let below : n ≤ number = own.least number is.holds in
        let above : number ≤ n = is.least n own.holds in
        let same : n ≡ number = omega arith in
        ap Err same

-- A number is answered exactly if it is the least of a refusal of the text.
pub least_of_text : Stops → (dialect : Dialect) (texts : List Word) (number : ℕ) → (words_or_refusal dialect texts ≡ Err number) ↔ IsLeastOfText dialect texts number
least_of_text stops dialect texts number = (answered_is_least stops dialect texts number, least_is_answered stops dialect texts number)
