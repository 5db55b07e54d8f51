-- Which texts of a tape's lines are statements, and that no list of words is one. For Heads, Found,
-- Sentences and LongNumbers.
use Rattle.std.proofs.Common.{◌≡◌, ◌==◌, ℕ, Bool, true, false, not, ◌||◌, List, [], ◌∷◌, ◌++◌, length, take, inl, inr, refl, sym, ap, subst, ◌∙◌, append-nil, arith}
use Rattle.std.specs.Prelude.{nat_eq, codes}
use Rattle.std.specs.Char.{is_ascii_uppercase}
use Rattle.std.specs.List.{list_any, starts_with}
use Rattle.std.specs.Cmp.Lexicographic.{pointwise}
use Rattle.std.proofs.lemmas.Bool.{eqb-true, eq-eqb}
use Rattle.std.proofs.lemmas.Bool.Decides.{nat_tests}
use Rattle.std.proofs.Math.Seq.{take-append_seam}
use Rattle.nc_number.proofs.Bools.{both, or_left, or_right}
use Rattle.line_text.specs.declared.sign.Sign.{Sign}
use Rattle.line_text.specs.declared.piece.Piece.{Piece}
use Rattle.line_text.specs.Pieces.{Cut, is_comment, bytes_of, add_to_cut, cut_at, depth_behind}
use Rattle.line_text.specs.Front.{is_statement, sentence_of}
use Rattle.line_text.specs.Values.{is_value}
use Rattle.tape_relation.specs.Words.{AreWords}
use Rattle.tape_relation.specs.LineGrammar.{Begins, IsStatement}
use Rattle.tape_relation.proofs.Values.{is_a_value}
use Rattle.tape_relation.proofs.Cuts.{pass_value}

-- What begins with a word.

-- The next three: a text begins with a word by the grammar exactly if it does to the reader.
same_word : (word : List ℕ) → pointwise nat_eq word word ≡ true
same_word [] = refl
same_word (b ∷ word) = rw (eq-eqb b b refl) (same_word word)

begins_read : (word text : List ℕ) → Begins word text → starts_with nat_eq text word ≡ true
begins_read word text (rest, is) = ap (λ (t : List ℕ). starts_with nat_eq t word) is ∙ ap (pointwise nat_eq word) (take-append_seam word rest) ∙ same_word word

begins_found : (word text : List ℕ) → starts_with nat_eq text word ≡ true → Begins word text
begins_found [] text e = (text, refl)
begins_found (b ∷ word) [] e = absurd cc
begins_found (b ∷ word) (c ∷ text) e =
    let p = both (nat_eq b c) (pointwise nat_eq word (take (length word) text)) e in
    let later = begins_found word text p.1 in (later.0, ap (λ (k : ℕ). k ∷ text) (sym (eqb-true b c p.0)) ∙ ap (λ (t : List ℕ). b ∷ t) later.1)

-- a statement of the grammar is one to the reader
pub statement_read : (text : List ℕ) → IsStatement text → is_statement text ≡ true
statement_read text is = go is
  where
    go : IsStatement text → is_statement text ≡ true
    go (inl h) = rw (begins_read (codes "#") text h) refl
    go (inr (inl h)) = or_left (starts_with nat_eq text (codes "#") || starts_with nat_eq text (codes "IF") || starts_with nat_eq text (codes "WHILE")) _ (or_left (starts_with nat_eq text (codes "#") || starts_with nat_eq text (codes "IF")) _ (or_right (starts_with nat_eq text (codes "#")) _ (begins_read (codes "IF") text h)))
    go (inr (inr (inl h))) = or_left (starts_with nat_eq text (codes "#") || starts_with nat_eq text (codes "IF") || starts_with nat_eq text (codes "WHILE")) _ (or_right (starts_with nat_eq text (codes "#") || starts_with nat_eq text (codes "IF")) _ (begins_read (codes "WHILE") text h))
    go (inr (inr (inr (inl h)))) = or_right (starts_with nat_eq text (codes "#") || starts_with nat_eq text (codes "IF") || starts_with nat_eq text (codes "WHILE")) _ (or_left (starts_with nat_eq text (codes "GOTO") || starts_with nat_eq text (codes "DO")) _ (or_left (starts_with nat_eq text (codes "GOTO")) _ (begins_read (codes "GOTO") text h)))
    go (inr (inr (inr (inr (inl h))))) = or_right (starts_with nat_eq text (codes "#") || starts_with nat_eq text (codes "IF") || starts_with nat_eq text (codes "WHILE")) _ (or_left (starts_with nat_eq text (codes "GOTO") || starts_with nat_eq text (codes "DO")) _ (or_right (starts_with nat_eq text (codes "GOTO")) _ (begins_read (codes "DO") text h)))
    go (inr (inr (inr (inr (inr h))))) = or_right (starts_with nat_eq text (codes "#") || starts_with nat_eq text (codes "IF") || starts_with nat_eq text (codes "WHILE")) _ (or_right (starts_with nat_eq text (codes "GOTO") || starts_with nat_eq text (codes "DO")) _ (begins_read (codes "END") text h))

-- a statement to the reader is one of the grammar
pub statement_found : (text : List ℕ) → is_statement text ≡ true → IsStatement text
statement_found text e = go (starts_with nat_eq text (codes "#")) refl (starts_with nat_eq text (codes "IF")) refl (starts_with nat_eq text (codes "WHILE")) refl (starts_with nat_eq text (codes "GOTO")) refl (starts_with nat_eq text (codes "DO")) refl (starts_with nat_eq text (codes "END")) refl e
  where
    go : (a : Bool) → starts_with nat_eq text (codes "#") ≡ a → (b : Bool) → starts_with nat_eq text (codes "IF") ≡ b → (c : Bool) → starts_with nat_eq text (codes "WHILE") ≡ c → (d : Bool) → starts_with nat_eq text (codes "GOTO") ≡ d
        → (f : Bool) → starts_with nat_eq text (codes "DO") ≡ f → (g : Bool) → starts_with nat_eq text (codes "END") ≡ g → ((a || b || c) || (d || f || g)) ≡ true → IsStatement text
    go true ea b eb c ec d ed f ef g eg h = inl (begins_found (codes "#") text ea)
    go false ea true eb c ec d ed f ef g eg h = inr (inl (begins_found (codes "IF") text eb))
    go false ea false eb true ec d ed f ef g eg h = inr (inr (inl (begins_found (codes "WHILE") text ec)))
    go false ea false eb false ec true ed f ef g eg h = inr (inr (inr (inl (begins_found (codes "GOTO") text ed))))
    go false ea false eb false ec false ed true ef g eg h = inr (inr (inr (inr (inl (begins_found (codes "DO") text ef)))))
    go false ea false eb false ec false ed false ef true eg h = inr (inr (inr (inr (inr (begins_found (codes "END") text eg)))))
    go false ea false eb false ec false ed false ef false eg h = absurd cc

-- what holds of `#`, I, W, G, D and E holds of the first byte of a statement
pub first_is : (P : ℕ → Type 0) (b : ℕ) (text : List ℕ) → P 35 → P 73 → P 87 → P 71 → P 68 → P 69 → IsStatement (b ∷ text) → P b
first_is P b text hash i w g d e is = go is
  where
    go : IsStatement (b ∷ text) → P b
    go (inl (rest, is)) = let same : b ≡ 35 = cc in subst P (sym same) hash
    go (inr (inl (rest, is))) = let same : b ≡ 73 = cc in subst P (sym same) i
    go (inr (inr (inl (rest, is)))) = let same : b ≡ 87 = cc in subst P (sym same) w
    go (inr (inr (inr (inl (rest, is))))) = let same : b ≡ 71 = cc in subst P (sym same) g
    go (inr (inr (inr (inr (inl (rest, is)))))) = let same : b ≡ 68 = cc in subst P (sym same) d
    go (inr (inr (inr (inr (inr (rest, is)))))) = let same : b ≡ 69 = cc in subst P (sym same) e

-- the empty text is no statement
pub no_statement : IsStatement [] → ⊥
no_statement (inl (rest, is)) = absurd cc
no_statement (inr (inl (rest, is))) = absurd cc
no_statement (inr (inr (inl (rest, is)))) = absurd cc
no_statement (inr (inr (inr (inl (rest, is))))) = absurd cc
no_statement (inr (inr (inr (inr (inl (rest, is)))))) = absurd cc
no_statement (inr (inr (inr (inr (inr (rest, is)))))) = absurd cc

-- whether the first byte is no letter, or the second one is a letter too
abbrev letter_or : ℕ → ℕ → Bool
letter_or first second = not (is_ascii_uppercase first) || is_ascii_uppercase second

-- a letter and then a byte that is no letter begin no statement
second_letter : (first second : ℕ) (text : List ℕ) → IsStatement (first ∷ (second ∷ text)) → letter_or first second ≡ true
second_letter first second text (inl (rest, is)) = let same : first ≡ 35 = cc in let P : ℕ → Type 0 = λ b. letter_or b second ≡ true in subst P (sym same) refl
second_letter first second text (inr (inl (rest, is))) = let same : second ≡ 70 = cc in let P : ℕ → Type 0 = λ b. letter_or first b ≡ true in subst P (sym same) (or_right (not (is_ascii_uppercase first)) true refl)
second_letter first second text (inr (inr (inl (rest, is)))) = let same : second ≡ 72 = cc in let P : ℕ → Type 0 = λ b. letter_or first b ≡ true in subst P (sym same) (or_right (not (is_ascii_uppercase first)) true refl)
second_letter first second text (inr (inr (inr (inl (rest, is))))) = let same : second ≡ 79 = cc in let P : ℕ → Type 0 = λ b. letter_or first b ≡ true in subst P (sym same) (or_right (not (is_ascii_uppercase first)) true refl)
second_letter first second text (inr (inr (inr (inr (inl (rest, is)))))) = let same : second ≡ 79 = cc in let P : ℕ → Type 0 = λ b. letter_or first b ≡ true in subst P (sym same) (or_right (not (is_ascii_uppercase first)) true refl)
second_letter first second text (inr (inr (inr (inr (inr (rest, is)))))) = let same : second ≡ 78 = cc in let P : ℕ → Type 0 = λ b. letter_or first b ≡ true in subst P (sym same) (or_right (not (is_ascii_uppercase first)) true refl)

-- Words are no statement.

-- the first sign of a value is no letter
value_first : (sign : Sign) (value : List Sign) → is_value (bytes_of (sign ∷ value)) ≡ true → is_ascii_uppercase sign.byte ≡ false
value_first sign value e = go (is_ascii_uppercase sign.byte) refl (ap (λ (c : Cut). c.lead) (pass_value (sign ∷ value) [] e))
  where
    go : (t : Bool) → is_ascii_uppercase sign.byte ≡ t → (add_to_cut (is_ascii_uppercase sign.byte) sign (cut_at (value ++ []) (depth_behind 0 sign.byte))).lead ≡ (sign ∷ value) ++ (cut_at [] 0).lead → is_ascii_uppercase sign.byte ≡ false
    go true u h = let bad : ◌≡◌ {A = List Sign} [] (sign ∷ (value ++ [])) = rw u at h in absurd cc
    go false u h = u

-- a letter opens no comment
pub letter_no_comment : (b : ℕ) → is_ascii_uppercase b ≡ true → (b == 40) ≡ false
letter_no_comment b is = grind (arith, nat_tests)

-- a text that is no statement of the grammar is none to the reader
pub not_statement : (text : List ℕ) → (IsStatement text → ⊥) → is_statement text ≡ false
not_statement text no-one = go (is_statement text) refl
  where
    go : (t : Bool) → is_statement text ≡ t → is_statement text ≡ false
    go true e = absurd (no-one (statement_found text e))
    go false e = e

-- words before signs that are no statement are no statement
pub words_before : (signs tail : List Sign) (words : List Piece) → AreWords signs words → is_statement (sentence_of tail) ≡ false → is_statement (sentence_of (signs ++ tail)) ≡ false
words_before signs tail [] is off = ap (λ (ss : List Sign). is_statement (sentence_of (ss ++ tail))) is ∙ off
words_before signs tail (word ∷ words) (letter, [], comments, others, is, up, val, none, all, word-is, rest) off = let bad : false ≡ true = is_a_value [] val in absurd cc
words_before signs tail (word ∷ words) (letter, v ∷ value, comments, others, is, up, val, none, all, word-is, rest) off =
    ap (λ (ss : List Sign). is_statement (sentence_of (ss ++ tail))) is ∙ not_statement (sentence_of (letter ∷ (v ∷ ((value ++ (comments ++ others)) ++ tail)))) wrong
  where
    wrong : IsStatement (sentence_of (letter ∷ (v ∷ ((value ++ (comments ++ others)) ++ tail)))) → ⊥
    wrong h = go (is_comment v) refl none
      where
        go : (t : Bool) → is_comment v ≡ t → (is_comment v || list_any is_comment value) ≡ false → ⊥
        go true e n = let bad : true ≡ false = rw e at n in absurd cc
        go false e n =
            let P : List ℕ → Type 0 = IsStatement in
            let text : sentence_of (letter ∷ (v ∷ ((value ++ (comments ++ others)) ++ tail))) ≡ letter.byte ∷ (v.byte ∷ sentence_of ((value ++ (comments ++ others)) ++ tail)) = rw (letter_no_comment letter.byte up, e) refl in
            let second = second_letter letter.byte v.byte (sentence_of ((value ++ (comments ++ others)) ++ tail)) (subst P text h) in
            let bad : letter_or letter.byte v.byte ≡ false = rw (up, value_first v value (is_a_value (bytes_of (v ∷ value)) val)) refl in
            let worse : true ≡ false = sym second ∙ bad in absurd cc

-- words are no statement
pub words_unlike : (signs : List Sign) (words : List Piece) → AreWords signs words → is_statement (sentence_of signs) ≡ false
words_unlike signs words are = ap (λ (ss : List Sign). is_statement (sentence_of ss)) (sym (append-nil signs)) ∙ words_before signs [] words are refl
