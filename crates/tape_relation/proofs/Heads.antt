-- The head of a block of a tape, as the reader and the grammar see it: comments, and N with a
-- literal before a statement. For Found, Sentences and LongNumbers.
use Rattle.std.proofs.Common.{◌≡◌, ◌==◌, ℕ, suc, ◌+◌, Bool, true, false, cond, ◌&&◌, ◌||◌, List, [], ◌∷◌, ◌++◌, length, take, drop, refl, sym, ap, subst, ◌∙◌, append-nil, append_assoc, arith}
use Rattle.std.specs.Char.{is_ascii_digit, is_ascii_uppercase}
use Rattle.std.specs.List.{list_all, prefix_len}
use Rattle.std.proofs.lemmas.Bool.{eqb-true}
use Rattle.std.proofs.lemmas.Bool.Decides.{nat_tests}
use Rattle.std.proofs.Math.Seq.{take-append_seam}
use Rattle.nc_number.specs.Literals.{is_literal, is_sign, is_point, behind_sign}
use Rattle.nc_number.proofs.Bools.{and_false, both}
use Rattle.line_text.specs.declared.sign.Sign.{Sign}
use Rattle.line_text.specs.declared.piece.Piece.{Piece}
use Rattle.line_text.specs.Pieces.{is_comment, bytes_of}
use Rattle.line_text.specs.Front.{behind_comments, is_statement, sentence_of, is_number_sign, number_part, behind_number, is_numbered}
use Rattle.line_text.specs.Values.{is_variable, is_reference, closes}
use Rattle.tape_relation.specs.Words.{AreWords}
use Rattle.tape_relation.specs.LineGrammar.{text_of, IsStatement}
use Rattle.tape_relation.proofs.Values.{is_a_value}
use Rattle.tape_relation.proofs.LiteralBytes.{literal_pass}
use Rattle.tape_relation.proofs.Cuts.{drop_seam, split_at}
use Rattle.tape_relation.proofs.Statements.{first_is, no_statement, words_before, statement_read}

-- Comments.

-- a comment at the front is passed
behind_comment : (sign : Sign) (signs : List Sign) → is_comment sign ≡ true → behind_comments (sign ∷ signs) ≡ behind_comments signs
behind_comment sign signs is = let one : 1 + prefix_len is_comment signs ≡ suc (prefix_len is_comment signs) = omega arith in rw (is, one) refl

-- a sign that is no comment is not passed
pub behind_other : (sign : Sign) (signs : List Sign) → is_comment sign ≡ false → behind_comments (sign ∷ signs) ≡ sign ∷ signs
behind_other sign signs is = rw is refl

-- several comments at the front are passed
pub behind_more : (comments signs : List Sign) → list_all is_comment comments ≡ true → behind_comments (comments ++ signs) ≡ behind_comments signs
behind_more [] signs all = refl
behind_more (sign ∷ comments) signs all = let p = both (is_comment sign) (list_all is_comment comments) all in behind_comment sign (comments ++ signs) p.0 ∙ behind_more comments signs p.1

-- the comments that signs begin with
abbrev pub comments_before : List Sign → List Sign
comments_before signs = take (prefix_len is_comment signs) signs

-- signs are their first comments, and what stands after these
pub comments_split : (signs : List Sign) → signs ≡ comments_before signs ++ behind_comments signs
comments_split signs = split_at (prefix_len is_comment signs) signs

-- what stands before the first other sign are comments
pub comments_all : (signs : List Sign) → list_all is_comment (comments_before signs) ≡ true
comments_all [] = refl
comments_all (sign ∷ signs) = go (is_comment sign) refl (comments_all signs)
  where
    go : (t : Bool) → is_comment sign ≡ t → list_all is_comment (comments_before signs) ≡ true → list_all is_comment (take (cond t (1 + prefix_len is_comment signs) 0) (sign ∷ signs)) ≡ true
    go true e later = let one : 1 + prefix_len is_comment signs ≡ suc (prefix_len is_comment signs) = omega arith in rw one (rw e later)
    go false e later = refl

-- what stands after the first comments begins with no comment
pub behind_first : (signs : List Sign) (sign : Sign) (rest : List Sign) → behind_comments signs ≡ sign ∷ rest → is_comment sign ≡ false
behind_first [] sign rest e = absurd cc
behind_first (s ∷ signs) sign rest e = go (is_comment s) refl (behind_first signs sign rest)
  where
    go : (t : Bool) → is_comment s ≡ t → (behind_comments signs ≡ sign ∷ rest → is_comment sign ≡ false) → is_comment sign ≡ false
    go true f later = later (sym (behind_comment s signs f) ∙ e)
    go false f later = let same : s ∷ signs ≡ sign ∷ rest = sym (behind_other s signs f) ∙ e in let head : s ≡ sign = cc in sym (ap is_comment head) ∙ f

-- comments before a sentence leave its text as it is
sentence_comments : (comments signs : List Sign) → list_all is_comment comments ≡ true → sentence_of (comments ++ signs) ≡ sentence_of signs
sentence_comments [] signs all = refl
sentence_comments (sign ∷ comments) signs all = let p = both (is_comment sign) (list_all is_comment comments) all in rw p.0 (sentence_comments comments signs p.1)

-- the text of signs is that of what stands after their first comments
pub sentence_behind : (signs : List Sign) → sentence_of (behind_comments signs) ≡ sentence_of signs
sentence_behind signs = sym (ap sentence_of (comments_split signs) ∙ sentence_comments (comments_before signs) (behind_comments signs) (comments_all signs))

-- What goes on a number, and what ends it.

-- whether a byte may stand in a literal: a digit, the point or a sign
abbrev pub number_byte : ℕ → Bool
number_byte b = is_ascii_digit b || b == 46 || b == 43 || b == 45

-- These three: digits, the point and the signs may stand in a literal.
digit_byte : (b : ℕ) → is_ascii_digit b ≡ true → number_byte b ≡ true
digit_byte b is = rw is refl

point_byte : (b : ℕ) → is_point b ≡ true → number_byte b ≡ true
point_byte b is = let P : ℕ → Type 0 = λ c. number_byte c ≡ true in subst P (sym (eqb-true b 46 is)) refl

sign_byte : (b : ℕ) → is_sign b ≡ true → number_byte b ≡ true
sign_byte b is = grind (arith, nat_tests)

-- a literal has no other bytes
pub literal_bytes : (text : List ℕ) → is_literal text ≡ true → list_all number_byte text ≡ true
literal_bytes text is = literal_pass number_byte digit_byte point_byte sign_byte text is

-- signs whose bytes may all stand in a literal are signs that may
all_signs : (number : List Sign) → list_all number_byte (bytes_of number) ≡ true → list_all is_number_sign number ≡ true
all_signs [] all = refl
all_signs (sign ∷ number) all = let p = both (number_byte sign.byte) (list_all number_byte (bytes_of number)) all in rw p.0 (all_signs number p.1)

-- the signs begin with none that could go on a literal
abbrev pub Stops : List Sign → Type 0
Stops [] = Unit {0}
Stops (sign ∷ signs) = is_number_sign sign ≡ false

-- such signs, before one that may not, are as many as the reader counts
number_len : (number signs : List Sign) → list_all is_number_sign number ≡ true → Stops signs → prefix_len is_number_sign (number ++ signs) ≡ length number
number_len [] [] all stops = refl
number_len [] (sign ∷ signs) all stops = rw stops refl
number_len (digit ∷ number) signs all stops =
    let p = both (is_number_sign digit) (list_all is_number_sign number) all in
    let later = number_len number signs p.1 stops in
    rw p.0 (let z : 1 + prefix_len is_number_sign (number ++ signs) ≡ length (digit ∷ number) = omega arith in z)

-- before signs that cannot go on it, the literal after N is what the reader takes for it
pub part_is : (number signs : List Sign) → list_all is_number_sign number ≡ true → Stops signs → number_part (number ++ signs) ≡ number
part_is number signs all stops = ap (λ (n : ℕ). take n (number ++ signs)) (number_len number signs all stops) ∙ take-append_seam number signs

-- before signs that cannot go on it, the reader goes on right after the literal
pub behind_is : (number signs : List Sign) → list_all is_number_sign number ≡ true → Stops signs → behind_number (number ++ signs) ≡ signs
behind_is number signs all stops = ap (λ (n : ℕ). drop n (number ++ signs)) (number_len number signs all stops) ∙ drop_seam number signs

-- each sign of a literal may stand in one
pub literal_signs : (number : List Sign) → is_literal (bytes_of number) ≡ true → list_all is_number_sign number ≡ true
literal_signs number is = all_signs number (literal_bytes (bytes_of number) is)

-- a comment ends a literal
pub comment_stops : (sign : Sign) → is_comment sign ≡ true → is_number_sign sign ≡ false
comment_stops sign is = let P : ℕ → Type 0 = λ b. number_byte b ≡ false in subst P (sym (eqb-true sign.byte 40 is)) refl

-- a letter ends a literal
pub letter_byte : (b : ℕ) → is_ascii_uppercase b ≡ true → number_byte b ≡ false
letter_byte b is = grind (arith, nat_tests)

-- a statement ends a literal
pub statement_stops : (signs : List Sign) → IsStatement (text_of signs) → Stops signs
statement_stops [] is = absurd (no_statement is)
statement_stops (sign ∷ signs) is = go (is_comment sign) refl
  where
    go : (t : Bool) → is_comment sign ≡ t → is_number_sign sign ≡ false
    go true e = comment_stops sign e
    go false e =
        let P : List ℕ → Type 0 = IsStatement in
        let text : text_of (sign ∷ signs) ≡ sign.byte ∷ text_of signs = rw e refl in
        let N : ℕ → Type 0 = λ b. number_byte b ≡ false in first_is N sign.byte (text_of signs) refl refl refl refl refl refl (subst P text is)

-- comments, words and signs that end a literal end a literal
words_stop : (comments signs tail : List Sign) (words : List Piece) → list_all is_comment comments ≡ true → AreWords signs words → Stops tail → Stops (comments ++ (signs ++ tail))
words_stop [] signs tail [] all is stops = let P : List Sign → Type 0 = λ ss. Stops (ss ++ tail) in subst P (sym is) stops
words_stop [] signs tail (word ∷ words) all (letter, value, more, others, is, up, val, none, every, word-is, rest) stops = let P : List Sign → Type 0 = λ ss. Stops (ss ++ tail) in subst P (sym is) (letter_byte letter.byte up)
words_stop (sign ∷ comments) signs tail words all are stops = comment_stops sign (both (is_comment sign) (list_all is_comment comments) all).0

-- Words are no numbered statement.

-- a variable or an expression begins with a byte that no literal has
reference_byte : (b : ℕ) (text : List ℕ) → is_reference (b ∷ text) ≡ true → number_byte b ≡ false
reference_byte b text e = go (b == 35) refl e
  where
    go : (t : Bool) → (b == 35) ≡ t → cond t (is_variable text) (b == 91 && closes text 1) ≡ true → number_byte b ≡ false
    go true is h = let P : ℕ → Type 0 = λ c. number_byte c ≡ false in subst P (sym (eqb-true b 35 is)) refl
    go false is h = let P : ℕ → Type 0 = λ c. number_byte c ≡ false in subst P (sym (eqb-true b 91 (both (b == 91) (closes text 1) h).0)) refl

-- the front of a variable or an expression with a sign or without is no literal
reference_part : (value signs : List Sign) → is_reference (behind_sign (bytes_of value)) ≡ true → is_literal (bytes_of (number_part (value ++ signs))) ≡ false
reference_part [] signs e = absurd cc
reference_part (sign ∷ value) signs e = go (is_sign sign.byte) refl e
  where
    go : (t : Bool) → is_sign sign.byte ≡ t → is_reference (cond t (bytes_of value) (bytes_of (sign ∷ value))) ≡ true → is_literal (bytes_of (number_part (sign ∷ (value ++ signs)))) ≡ false
    go true is h = after value h
      where
        after : (more : List Sign) → is_reference (bytes_of more) ≡ true → is_literal (bytes_of (number_part (sign ∷ (more ++ signs)))) ≡ false
        after [] h = absurd cc
        after (next ∷ more) h = rw (sign_byte sign.byte is, reference_byte next.byte (bytes_of more) h) (rw is refl)
    go false is h = rw (reference_byte sign.byte (bytes_of value) h) refl

-- if one of two holds and the first does not, the second does
or_right_true : (a b : Bool) → a ≡ false → (a || b) ≡ true → b ≡ true
or_right_true true b e h = absurd cc
or_right_true false b e h = h

-- words before signs that are no statement and go on no number are no statement with a sequence
-- number
pub numbered_before : (signs tail : List Sign) (word : Piece) (words : List Piece) → AreWords signs (word ∷ words) → is_statement (sentence_of tail) ≡ false → Stops tail → is_numbered (signs ++ tail) ≡ false
numbered_before signs tail word words (letter, value, comments, others, is, up, val, none, all, word-is, rest) off stops = ap is_numbered whole ∙ go (is_literal (bytes_of value)) refl
  where
    whole : signs ++ tail ≡ letter ∷ (value ++ (comments ++ (others ++ tail)))
    whole = ap (λ (ss : List Sign). ss ++ tail) is ∙ ap (λ (ss : List Sign). letter ∷ ss) (append_assoc value (comments ++ others) tail ∙ ap (λ (ss : List Sign). value ++ ss) (append_assoc comments others tail))

    go : (t : Bool) → is_literal (bytes_of value) ≡ t → is_numbered (letter ∷ (value ++ (comments ++ (others ++ tail)))) ≡ false
    go true lit =
        let rest-is : behind_number (value ++ (comments ++ (others ++ tail))) ≡ comments ++ (others ++ tail) = behind_is value (comments ++ (others ++ tail)) (literal_signs value lit) (words_stop comments others tail words all rest stops) in
        and_false (letter.byte == 78 && is_literal (bytes_of (number_part (value ++ (comments ++ (others ++ tail)))))) (is_statement (sentence_of (behind_number (value ++ (comments ++ (others ++ tail))))))
        (ap (λ (ss : List Sign). is_statement (sentence_of ss)) rest-is ∙ ap is_statement (sentence_comments comments (others ++ tail) all) ∙ words_before others tail words rest off)
    go false lit =
        let reference : is_reference (behind_sign (bytes_of value)) ≡ true = or_right_true (is_literal (bytes_of value)) (is_reference (behind_sign (bytes_of value))) lit (is_a_value (bytes_of value) val) in
        ap (λ (t : Bool). t && is_statement (sentence_of (behind_number (value ++ (comments ++ (others ++ tail))))))
        (and_false (letter.byte == 78) (is_literal (bytes_of (number_part (value ++ (comments ++ (others ++ tail)))))) (reference_part value (comments ++ (others ++ tail)) reference))

-- words are no statement with a sequence number
pub numbered_unlike : (signs : List Sign) (words : List Piece) → AreWords signs words → is_numbered signs ≡ false
numbered_unlike signs [] is = ap is_numbered is
numbered_unlike signs (word ∷ words) are = ap is_numbered (sym (append-nil signs)) ∙ numbered_before signs [] word words are refl tt

-- N, a literal and a statement are a statement with a sequence number to the reader
pub numbered_read : (letter : Sign) (number signs : List Sign) → (letter.byte == 78) ≡ true → is_literal (bytes_of number) ≡ true → IsStatement (text_of signs) → is_numbered (letter ∷ (number ++ signs)) ≡ true
numbered_read letter number signs n lit is =
    let all = literal_signs number lit in
    let stops = statement_stops signs is in rw (part_is number signs all stops, behind_is number signs all stops, n, lit) (statement_read (text_of signs) is)

-- a statement of the grammar has no sequence number to the reader
pub stated_read : (signs : List Sign) → IsStatement (text_of signs) → is_numbered (behind_comments signs) ≡ false
stated_read signs is = go (behind_comments signs) refl
  where
    go : (behind : List Sign) → behind_comments signs ≡ behind → is_numbered behind ≡ false
    go [] e = refl
    go (sign ∷ rest) e =
        let other = behind_first signs sign rest e in
        let P : List ℕ → Type 0 = IsStatement in
        let text : text_of signs ≡ sign.byte ∷ text_of rest = sym (sentence_behind signs) ∙ ap sentence_of e ∙ rw other refl in
        let N : ℕ → Type 0 = λ b. (b == 78) ≡ false in
        let first : (sign.byte == 78) ≡ false = first_is N sign.byte (text_of rest) refl refl refl refl refl refl (subst P text is) in
        rw first refl
