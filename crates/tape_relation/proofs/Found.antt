-- A line of a tape that the reader takes is a sentence of the grammar. Each lemma in `_found` makes
-- the sentence from one step of the reader. For LineSays; LongNumbers takes `digit_is`.
use Rattle.std.proofs.Common.{◌≡◌, ◌==◌, ℕ, suc, ◌+◌, ◌-◌, ◌<◌, ◌≤◌, Bool, true, false, cond, not, ◌&&◌, ◌||◌, List, [], ◌∷◌, ◌++◌, length, Option, Some, None, refl, sym, subst, append-nil, arith}
use Rattle.std.specs.Prelude.{nat_lt, nat_le, is_some}
use Rattle.std.specs.List.{list_all, prefix_len}
use Rattle.std.proofs.lemmas.Bool.{eqb-true, or_parts}
use Rattle.std.proofs.lemmas.Bool.Decides.{nat_tests}
use Rattle.nc_number.specs.Literals.{is_literal}
use Rattle.nc_number.proofs.Bools.{both, not_false}
use Rattle.line_text.specs.declared.sign.Sign.{Sign}
use Rattle.line_text.specs.declared.piece.Piece.{Piece}
use Rattle.line_text.specs.Pieces.{is_comment, bytes_of, pieces_of, value_len}
use Rattle.line_text.specs.Front.{is_switch, behind_digit, switch_of, behind_switch, behind_comments, is_statement, sentence_of, is_number_sign, number_part, behind_number, is_numbered}
use Rattle.line_text.specs.Said.{is_sound, stands_alone, read_pieces, broken_reading, read_words, read_block, read_head}
use Rattle.tape_relation.specs.Words.{AreWords}
use Rattle.tape_relation.specs.Cut.{IsCut}
use Rattle.tape_relation.specs.LineGrammar.{Sentence, NoBlock, ProgramNumber, WordBlock, StatementBlock, IsSkip, none, alone, named, text_of, has_program_word, IsBlock, program, computed, worded, stated, numbered, IsSentence, blank, block}
use Rattle.tape_relation.proofs.LiteralParts.{literal_found, no_literal_found}
use Rattle.tape_relation.proofs.Cuts.{cut_words, split_at}
use Rattle.tape_relation.proofs.Statements.{statement_found}
use Rattle.tape_relation.proofs.Heads.{behind_first, comments_before, comments_split, comments_all}
use Rattle.tape_relation.proofs.Sentences.{all_prefix}

-- by this grammar, the signs are some sentence
abbrev Found : (List Sign → Sentence → Type 0) → List Sign → Type 0
Found Is signs = (sentence : Sentence) × Is signs sentence

-- a statement with a sequence number is a block of the grammar
numbered_found : (skip : Option ℕ) (signs : List Sign) → is_numbered signs ≡ true → Found (IsBlock skip) signs
numbered_found skip [] e = absurd cc
numbered_found skip (letter ∷ signs) e =
    let p = both (letter.byte == 78 && is_literal (bytes_of (number_part signs))) (is_statement (sentence_of (behind_number signs))) e in
    let q = both (letter.byte == 78) (is_literal (bytes_of (number_part signs))) p.0 in
    let all : signs ≡ number_part signs ++ behind_number signs = split_at (prefix_len is_number_sign signs) signs in
    let sentence : Sentence = StatementBlock (Some (bytes_of (number_part signs))) (text_of (behind_number signs)) in
    let P : List Sign → Type 0 = λ ss. IsBlock skip (letter ∷ ss) sentence in
    (sentence, subst P (sym all) (numbered skip letter (number_part signs) (behind_number signs) q.0 (literal_found (bytes_of (number_part signs)) q.1) (statement_found (text_of (behind_number signs)) p.1)))

-- if the words have an O word and it stands alone, it is the only one and no skip sign stands
-- before it
o_word : (slash : Bool) (words : List Piece) → stands_alone slash words ≡ true → has_program_word words ≡ true → (slash ≡ false) × ((word : Piece) × (words ≡ word ∷ []) × ((word.letter == 79) ≡ true))
o_word slash [] is-alone has = absurd cc
o_word slash (word ∷ []) is-alone has = go slash (word.letter == 79) refl is-alone has
  where
    go : (s t : Bool) → (word.letter == 79) ≡ t → (not (t || false) || (not s && true)) ≡ true → (t || false) ≡ true → (s ≡ false) × ((w : Piece) × (word ∷ [] ≡ w ∷ []) × ((w.letter == 79) ≡ true))
    go true true e h has = absurd cc
    go false true e h has = (refl, (word, refl, e))
    go s false e h has = absurd cc
o_word slash (word ∷ (other ∷ words)) is-alone has = let bad : (not true || (not slash && (length (word ∷ (other ∷ words)) == 1))) ≡ true = subst (λ (t : Bool). (not t || (not slash && (length (word ∷ (other ∷ words)) == 1))) ≡ true) has is-alone in absurd (several slash (length words) bad)
  where
    several : (s : Bool) (n : ℕ) → (not s && (suc (suc n) == 1)) ≡ true → ⊥
    several s n h = let e : suc (suc n) ≡ 1 = eqb-true (suc (suc n)) 1 (both (not s) (suc (suc n) == 1) h).1 in absurd (omega arith)

-- a switch that is not given is none
no_skip : (skip : Option ℕ) → is_some skip ≡ false → skip ≡ None
no_skip None e = refl
no_skip (Some n) e = absurd cc

-- words that the reader takes are a block of the grammar
words_found : (skip : Option ℕ) (signs : List Sign) (words : List Piece) → AreWords signs words → stands_alone (is_some skip) words ≡ true → Found (IsBlock skip) signs
words_found skip signs words are is-alone = go (has_program_word words) refl
  where
    go : (t : Bool) → has_program_word words ≡ t → Found (IsBlock skip) signs
    go false off = (WordBlock words, worded skip signs words are off)
    go true has =
        let p = o_word (is_some skip) words is-alone has in
        let word : Piece = p.1.0 in
        let P : List Piece → Type 0 = AreWords signs in
        let Q : Option ℕ → Type 0 = λ s. Found (IsBlock s) signs in
        subst Q (sym (no_skip skip p.0)) (literal word (subst P p.1.1 are) p.1.2 (is_literal word.text) refl)
      where
        literal : (word : Piece) → AreWords signs (word ∷ []) → (word.letter == 79) ≡ true → (t : Bool) → is_literal word.text ≡ t → Found (IsBlock None) signs
        literal word are o true lit = (ProgramNumber word.text, program signs word are o (literal_found word.text lit))
        literal word are o false lit = (WordBlock (word ∷ []), computed signs word are o (no_literal_found word.text lit))

-- signs that the reader cuts into whole words are a block of the grammar
cut_found : (skip : Option ℕ) (signs : List Sign) → (cond (value_len signs 0 == 0) (read_pieces (is_some skip) (pieces_of signs)) broken_reading).broken ≡ false → Found (IsBlock skip) signs
cut_found skip signs e = go (value_len signs 0 == 0) refl e
  where
    go : (t : Bool) → (value_len signs 0 == 0) ≡ t → (cond t (read_pieces (is_some skip) (pieces_of signs)) broken_reading).broken ≡ false → Found (IsBlock skip) signs
    go true z h =
        let p = or_parts (nat_lt (prefix_len is_sound (pieces_of signs)) (length (pieces_of signs))) (not (stands_alone (is_some skip) (pieces_of signs))) h in
        let cut : IsCut signs (pieces_of signs) = record { at_letter = eqb-true (value_len signs 0) 0 z; words_are = refl; whole = all_prefix (pieces_of signs) p.0 } in
        words_found skip signs (pieces_of signs) (cut_words signs (pieces_of signs) cut) (not_false (stands_alone (is_some skip) (pieces_of signs)) p.1)
    go false z h = absurd cc

-- each block that the reader takes is a block of the grammar
block_found : (skip : Option ℕ) (signs : List Sign) → (read_block (is_some skip) signs).broken ≡ false → Found (IsBlock skip) signs
unfolding read_block read_words
block_found skip signs e = go (is_numbered signs) refl (is_statement (sentence_of signs)) refl e
  where
    go : (n : Bool) → is_numbered signs ≡ n → (s : Bool) → is_statement (sentence_of signs) ≡ s → (read_block (is_some skip) signs).broken ≡ false → Found (IsBlock skip) signs
    go true n s f h = numbered_found skip signs n
    go false n true f h = (StatementBlock None (text_of signs), stated skip signs (statement_found (text_of signs) f))
    go false n false f h = cut_found skip signs (rw (n, f) at h)

-- With what stands before the block.

-- the signs are some sentence, behind a skip sign or none
abbrev pub IsFound : List Sign → Type 0
IsFound signs = (skip : Option ℕ) × (sentence : Sentence) × IsSentence signs skip sentence

-- comments, a skip sign or none, and a block that the reader takes are a sentence
behind_head : (before head signs : List Sign) (skip : Option ℕ) → list_all is_comment before ≡ true → IsSkip head skip → 0 < length (head ++ behind_comments signs) → (read_block (is_some skip) (behind_comments signs)).broken ≡ false → IsFound (before ++ (head ++ signs))
behind_head before head signs skip all is-skip some e =
    let found = block_found skip (behind_comments signs) e in
    let P : List Sign → Type 0 = λ ss. IsSentence (before ++ (head ++ ss)) skip found.0 in
    (skip, found.0, subst P (sym (comments_split signs)) (block before head (comments_before signs) (behind_comments signs) skip found.0 all is-skip (comments_all signs) some found.1))

-- a switch is a digit from 1 to 9; 48 is the digit 0
pub digit_is : (b : ℕ) → is_switch b ≡ true → (b ≡ 48 + (b - 48)) × ((1 ≤ b - 48) × (b - 48 ≤ 9))
digit_is b is =
    let p = both (nat_le 49 b) (nat_le b 57) is in
    let low : 49 ≤ b = from p.0 in
    let high : b ≤ 57 = to p.1 in (omega arith, (omega arith, omega arith))
  where
    from : nat_le 49 b ≡ true → 49 ≤ b
    from h = grind (arith, nat_tests)

    to : nat_le b 57 ≡ true → b ≤ 57
    to h = grind (arith, nat_tests)

-- comments and then signs that the reader takes are a sentence
found_behind : (before behind : List Sign) → list_all is_comment before ≡ true → ((sign : Sign) (rest : List Sign) → behind ≡ sign ∷ rest → is_comment sign ≡ false) → (read_head behind).broken ≡ false → IsFound (before ++ behind)
unfolding read_head
found_behind before [] all first e = let P : List Sign → Type 0 = λ ss. IsSentence ss None NoBlock in (None, NoBlock, subst P (sym (append-nil before)) (blank before all))
found_behind before (sign ∷ rest) all first e = go (sign.byte == 47) refl e
  where
    go : (t : Bool) → (sign.byte == 47) ≡ t → (read_block (is_some (switch_of (sign ∷ rest))) (behind_comments (behind_switch (sign ∷ rest)))).broken ≡ false → IsFound (before ++ (sign ∷ rest))
    go false s h =
        let other = first sign rest refl in
        let some : 0 < length ([] ++ behind_comments (sign ∷ rest)) = rw other (omega arith) in
        behind_head before [] (sign ∷ rest) None all none some (rw s at h)
    go true s h = digit rest (rw s at h)
      where
        digit : (more : List Sign) → (read_block true (behind_comments (behind_digit more))).broken ≡ false → IsFound (before ++ (sign ∷ more))
        digit [] h = behind_head before (sign ∷ []) [] (Some 1) all (alone sign (eqb-true sign.byte 47 s)) (omega arith) h
        digit (d ∷ more) h = at (is_switch d.byte) refl h
          where
            at : (t : Bool) → is_switch d.byte ≡ t → (read_block true (behind_comments (cond t more (d ∷ more)))).broken ≡ false → IsFound (before ++ (sign ∷ (d ∷ more)))
            at true f h = let p = digit_is d.byte f in behind_head before (sign ∷ (d ∷ [])) more (Some (d.byte - 48)) all (named sign d (d.byte - 48) (eqb-true sign.byte 47 s) p.0 p.1.0 p.1.1) (omega arith) h
            at false f h = behind_head before (sign ∷ []) (d ∷ more) (Some 1) all (alone sign (eqb-true sign.byte 47 s)) (omega arith) h

-- signs that the reader takes are a sentence of the grammar
pub sentence_found : (signs : List Sign) → (read_head (behind_comments signs)).broken ≡ false → IsFound signs
sentence_found signs e =
    let P : List Sign → Type 0 = IsFound in
    subst P (sym (comments_split signs)) (found_behind (comments_before signs) (behind_comments signs) (comments_all signs) (behind_first signs) e)
