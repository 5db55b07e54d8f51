-- Words that are gathered one by one: each step of a loop over words (src/reading.rt,
-- src/gathering.rt) is one word more.
use Rattle.std.proofs.Common.{◌≡◌, ℕ, suc, ◌+◌, ◌-◌, ◌<◌, false, List, [], ◌∷◌, ◌++◌, length, get_or, drop, Option, Some, None, Result, Ok, Err, OnOk, append_assoc, refl, sym, ◌∙◌, ap, arith}
use Rattle.std.proofs.Math.Seq.{drop-cons}
use Rattle.std.proofs.lemmas.Bool.Decides.{nat_tests}
use Rattle.std.specs.Result.{is_err}
use Rattle.line_text.specs.declared.body.Word.{Word}
use Rattle.macro_expr.specs.Limits.{variable_signs}
use Rattle.block_words.specs.declared.word.FlowWord.{FlowWord}
use Rattle.block_forms.specs.Forms.{word_and_rest, all_words, word_of, lesser, answer_so_far, signs_in}

-- A word that reads joins those before it.
pub one_that_reads : (done : List FlowWord) (word : FlowWord) (least : Option ℕ) (rest : Result (List FlowWord) ℕ) → answer_so_far (done ++ word ∷ []) least rest ≡ answer_so_far done least (word_and_rest (Ok word) rest)
one_that_reads done word None (Ok words) = ap Ok (append_assoc done (word ∷ []) words)
one_that_reads done word None (Err number) = refl
one_that_reads done word (Some least) (Ok words) = refl
one_that_reads done word (Some least) (Err number) = refl

-- Of three numbers the least is the same in either grouping.
three_numbers : (a b c : ℕ) → lesser (Some (lesser (Some a) b)) c ≡ lesser (Some a) (lesser (Some b) c)
three_numbers a b c = grind (arith, nat_tests)

-- A word that doesn't read leaves the lesser number.
pub one_that_does_not : (done : List FlowWord) (number : ℕ) (least : Option ℕ) (rest : Result (List FlowWord) ℕ) → answer_so_far done (Some (lesser least number)) rest ≡ answer_so_far done least (word_and_rest (Err number) rest)
one_that_does_not done number None (Ok words) = refl
one_that_does_not done number None (Err other) = refl
one_that_does_not done number (Some least) (Ok words) = refl
one_that_does_not done number (Some least) (Err other) = ap Err (three_numbers least number other)

-- The words from i on are the word i and those behind it.
all_words_at : (words : List Word) (i : ℕ) (d : Word) → i < length words → all_words (drop i words) ≡ word_and_rest (word_of (get_or words i d)) (all_words (drop (i + 1) words))
all_words_at words i d lt =
    let e : i + 1 ≡ suc i = omega arith in
    rw (drop-cons words i d lt, e) refl

-- The words from i on are the given word, which stands at i, and those behind it.
pub all_words_here : (words : List Word) (i : ℕ) (word : Word) → i < length words → word ≡ get_or words i word → all_words (drop i words) ≡ word_and_rest (word_of word) (all_words (drop (i + 1) words))
all_words_here words i word lt is =
    all_words_at words i word lt ∙ ap (λ (w : Word). word_and_rest (word_of w) (all_words (drop (i + 1) words))) (sym is)

-- What holds of an answer unless it is an error holds if it is none.
pub where_ok : {X E P : Type 0} (result : Result X E) → is_err result ≡ false → OnOk result P → P
where_ok (Ok x) no_error holds = holds
where_ok (Err e) no_error holds = absurd (cc)

-- The signs of variables from the word i on are its own and those behind it.
pub signs_at : (words : List Word) (i : ℕ) (d : Word) → i < length words → signs_in (drop i words) ≡ variable_signs (get_or words i d).text + signs_in (drop (i + 1) words)
signs_at words i d lt =
    let e : i + 1 ≡ suc i = omega arith in
    rw (drop-cons words i d lt, e) refl
