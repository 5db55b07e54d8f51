-- Words and runs at the head of the text of a macro expression or statement: what a search in a
-- table of words finds. For the other lemmas of this crate.
use Rattle.std.proofs.Common.{◌≡◌, ℕ, suc, ◌+◌, ◌==◌, ◌&&◌, not, Bool, true, false, cond, List, [], ◌∷◌, ◌++◌, length, take, drop, Option, None, Some, refl, sym, ◌∙◌, ap, subst, arith, inl, inr, eqb-true}
use Rattle.std.specs.Prelude.{nat_le}
use Rattle.std.specs.Option.{option_or, option_map}
use Rattle.std.specs.List.{list_all, prefix_len, position_or_len}
use Rattle.std.proofs.lemmas.Bool.{and_parts}
use Rattle.std.proofs.lemmas.Bool.Decides.{nat_tests}
use Rattle.std.proofs.lemmas.List.{take-append-drop, append-nil}
use Rattle.std.proofs.Math.Seq.{take-append_seam, drop-append_seam}
use Rattle.macro_expr.specs.declared.tree.Op.{Op}
use Rattle.macro_expr.specs.declared.words.Rank.{Rank}
use Rattle.macro_expr.specs.declared.words.Rank.TheVariants.{Product, Sum}
use Rattle.macro_expr.specs.Words.{text_behind, first_word, all_of, operator_words, operator, run, behind_run, begins}
use Rattle.macro_expr.specs.Grammar.{IsWord}

-- what is shown of the text after a word, whether or not the text begins with it, holds of the
-- search
pub behind_word : (G : Option (List ℕ) → Type 0) (word text : List ℕ)
    → ((rest : List ℕ) → text ≡ word ++ rest → G (Some rest)) → G None → G (text_behind word text)
behind_word G [] text some none = some text refl
behind_word G (w ∷ word) [] some none = none
behind_word G (w ∷ word) (b ∷ text) some none =
    go (b == w) refl (λ same.
    behind_word G word text (λ rest stands. some rest (let e : b ≡ w = eqb-true b w same in cc)) none)
  where
    go : (t : Bool) → (b == w) ≡ t → ((b == w) ≡ true → G (text_behind word text)) → G (cond t (text_behind word text) None)
    go true same further = further same
    go false other further = none

-- what is shown of each word of a table that begins the text, and of a text with none, holds of the
-- search
pub leading : {A : Type 0} (G : Option (A × List ℕ) → Type 0) (words : List (List ℕ × A)) (text : List ℕ)
    → ((w rest : List ℕ) (m : A) → IsWord words w m → text ≡ w ++ rest → G (Some (m, rest)))
    → G None → G (first_word words text)
leading G [] text found none = none
leading G (w ∷ words) text found none =
    let further = leading G words text (λ t rest m is. found t rest m (inr is)) none in
    behind_word (λ o. G (option_or (option_map (λ rest. (w.1, rest)) o) (first_word words text))) w.0 text
    (λ rest stands. found w.0 rest w.1 (inl (refl, refl)) stands) further

-- what is shown of each word of a table that is all of the text, and of a text that is none, holds
-- of the search
pub meant : {A : Type 0} (G : Option A → Type 0) (words : List (List ℕ × A)) (name : List ℕ)
    → ((m : A) → IsWord words name m → G (Some m)) → G None → G (all_of (first_word words name))
meant {A} G words name found none = leading (λ o. G (all_of o)) words name go none
  where
    go : (w rest : List ℕ) (m : A) → IsWord words w m → name ≡ w ++ rest → G (all_of (Some (m, rest)))
    go w [] m is stands = found m (subst (λ t. IsWord words t m) (sym (stands ∙ append-nil w)) is)
    go w (b ∷ rest) m is stands =
        let some : (length (b ∷ rest) == 0) ≡ false = grind (arith, nat_tests) in
        subst (λ t. G (cond t (Some m) None)) (sym some) none

-- the statement holds of each word of the table with its meaning, word by word
abbrev pub Each : {A : Type 0} → List (List ℕ × A) → (List ℕ → A → Type 0) → Type 0
Each [] P = Unit {0}
Each (w ∷ words) P = P w.0 w.1 × Each words P

-- what holds of the first word, and what of those behind it
infixr 5 ◌also◌
-- one proof for each word of a table, in a row
abbrev pub ◌also◌ : {A B : Type 0} → A → B → A × B
first also others = (first, others)

-- what is proved of each word of a table holds of the word that was found
pub each : {A : Type 0} (words : List (List ℕ × A)) (P : List ℕ → A → Type 0) → Each words P
    → (word : List ℕ) (m : A) → IsWord words word m → P word m
each [] P all word m is = absurd is
each (w ∷ words) P all word m (inl same) = subst (λ x. P x m) (sym same.0) (subst (P w.0) (sym same.1) all.0)
each (w ∷ words) P all word m (inr later) = each words P all.1 word m later

-- how an operator begins a text
abbrev pub Leads : Rank → List ℕ → Op → Type 0
Leads rank word op = (rest : List ℕ) → ◌≡◌ {A = Option (Op × List ℕ) × Bool}
    (operator rank (word ++ rest), nat_le 1 (length word)) (Some (op, rest), true)

-- a word of a rank leads to that operator
pub leads : (rank : Rank) (word : List ℕ) (op : Op) → IsWord (operator_words rank) word op → Leads rank word op
unfolding operator
leads Product word op is =
    each (operator_words Product) (Leads Product)
    ((λ _. refl) also (λ _. refl) also (λ _. refl) also (λ _. refl) also tt) word op is
leads Sum word op is =
    each (operator_words Sum) (Leads Sum)
    ((λ _. refl) also (λ _. refl) also (λ _. refl) also (λ _. refl) also tt) word op is

-- a run that no such byte follows ends where the other text begins
count_run : (p : ℕ → Bool) (t rest : List ℕ) → list_all p t ≡ true → begins p rest ≡ false
    → position_or_len (λ b. not (p b)) (t ++ rest) ≡ length t
count_run p [] [] all quiet = refl
count_run p [] (b ∷ rest) all quiet = ap (λ x. cond (not (not x)) (1 + prefix_len (λ b. not (not (p b))) rest) 0) quiet
count_run p (b ∷ t) rest all quiet =
    let parts = and_parts (p b) (list_all p t) all in
    let further : position_or_len (λ b. not (p b)) (t ++ rest) ≡ length t = count_run p t rest parts.1 quiet in
    ap (λ x. cond (not (not x)) (1 + prefix_len (λ b. not (not (p b))) (t ++ rest)) 0) parts.0
    ∙ (let e : 1 + prefix_len (λ b. not (not (p b))) (t ++ rest) ≡ suc (length t) = omega (arith, further) in e)

-- a run that no further such byte follows is the text's run, and the rest stands after it
pub run_whole : (p : ℕ → Bool) (t rest : List ℕ) → list_all p t ≡ true → begins p rest ≡ false
    → (run p (t ++ rest) ≡ t) × (behind_run p (t ++ rest) ≡ rest)
run_whole p t rest all quiet =
    let count = count_run p t rest all quiet in (
      ap (λ n. take n (t ++ rest)) count ∙ take-append_seam t rest,
      ap (λ n. drop n (t ++ rest)) count ∙ drop-append_seam t rest,
    )

-- a text is its longest run and what stands after it
pub run_splits : (p : ℕ → Bool) (text : List ℕ) → text ≡ run p text ++ behind_run p text
run_splits p text = sym (take-append-drop (position_or_len (λ b. not (p b)) text) text)

-- all bytes of the run pass the test
pub run_all : (p : ℕ → Bool) (text : List ℕ) → list_all p (run p text) ≡ true
run_all p [] = refl
run_all p (b ∷ text) = go (run_all p text) (p b) refl
  where
    go : list_all p (run p text) ≡ true → (t : Bool) → p b ≡ t
        → list_all p (take (cond (not (not t)) (1 + prefix_len (λ b. not (not (p b))) text) 0) (b ∷ text)) ≡ true
    go further true passes =
        let count : ℕ = prefix_len (λ b. not (not (p b))) text in
        let e : 1 + count ≡ suc count = omega arith in
        ap (λ n. list_all p (take n (b ∷ text))) e
        ∙ ap (λ x. x && list_all p (run p text)) passes ∙ further
    go further false stops = refl
