-- The words into which the reader cuts a line of a tape are the words that the grammar says it
-- spells, and the other way round. For the law `a_line_is_cut_into_its_words` (src/law.rt), and for
-- the files on sentences and numbers (Heads, Found, Sentences, Statements, LongNumbers).
use Rattle.std.proofs.Common.{◌≡◌, ℕ, zero, suc, ◌+◌, ◌-◌, ◌<◌, ◌==◌, Bool, true, false, cond, not, ◌&&◌, ◌||◌, List, [], ◌∷◌, ◌++◌, length, take, drop, map, refl, ap, sym, subst, ◌∙◌, arith, append_assoc}
use Rattle.std.specs.Char.{is_ascii_digit, is_ascii_uppercase}
use Rattle.std.specs.List.{list_all, list_any, position_or_len}
use Rattle.std.proofs.lemmas.Bool.{eqb-true, or_parts}
use Rattle.std.proofs.lemmas.Bool.Decides.{nat_tests}
use Rattle.std.proofs.lemmas.List.{nil_from_length, append-nil}
use Rattle.std.proofs.Math.Seq.{take-append_seam}
use Rattle.nc_number.specs.Literals.{is_literal, is_sign, behind_sign, is_point}
use Rattle.nc_number.proofs.Bools.{both, not_true}
use Rattle.line_text.specs.declared.sign.Sign.{Sign}
use Rattle.line_text.specs.declared.piece.Piece.{Piece}
use Rattle.line_text.specs.Pieces.{Group, Cut, is_comment, depth_behind, begins_word, add_to_cut, cut_at, bytes_of, value_part, piece_of, pieces_of, value_len, end_of}
use Rattle.line_text.specs.Values.{closes, is_variable, is_reference, is_value}
use Rattle.line_text.specs.Said.{is_sound}
use Rattle.line_text.proofs.Cutting.{depth_stays}
use Rattle.tape_relation.specs.Words.{IsWord, AreWords}
use Rattle.tape_relation.specs.Cut.{IsCut}
use Rattle.tape_relation.proofs.Values.{value_is, is_a_value}
use Rattle.tape_relation.proofs.LiteralBytes.{digits_pass, literal_pass}

-- The signs of a value begin no word.

-- the byte begins no word and opens and closes no bracket: no letter, no `[` (91), no `]` (93)
abbrev is_plain : ℕ → Bool
is_plain b = not (is_ascii_uppercase b) && (not (b == 91) && not (b == 93))

-- a cut with these signs more before its first word
abbrev pub onto : List Sign → Cut → Cut
onto value cut = record { lead = value ++ cut.lead; groups = cut.groups }

-- no word begins in the signs of `value`: the cut of them and the rest is the cut of the rest, with
-- these signs before its first word
abbrev Passes : List Sign → List Sign → Type 0
Passes value rest = cut_at (value ++ rest) 0 ≡ onto value (cut_at rest 0)

-- The lemmas in `pass_` say of which signs no word begins: plain bytes, what stands in brackets,
-- variables and expressions with a sign or without.
pass_one : (sign : Sign) (value rest : List Sign) → is_plain sign.byte ≡ true → Passes value rest → Passes (sign ∷ value) rest
pass_one sign value rest plain later =
    let p = both (not (is_ascii_uppercase sign.byte)) (not (sign.byte == 91) && not (sign.byte == 93)) plain in
    let q = both (not (sign.byte == 91)) (not (sign.byte == 93)) p.1 in
    rw (not_true (is_ascii_uppercase sign.byte) p.0, not_true (sign.byte == 91) q.0, not_true (sign.byte == 93) q.1) (ap (add_to_cut false sign) later)

pass_plain : (value rest : List Sign) → list_all is_plain (bytes_of value) ≡ true → Passes value rest
pass_plain [] rest e = refl
pass_plain (sign ∷ value) rest e = let p = both (is_plain sign.byte) (list_all is_plain (bytes_of value)) e in pass_one sign value rest p.0 (pass_plain value rest p.1)

-- no word begins in signs whose text closes all open brackets at its very end
pass_closing : (value rest : List Sign) (depth : ℕ) → 0 < depth → closes (bytes_of value) depth ≡ true → cut_at (value ++ rest) depth ≡ onto value (cut_at rest 0)
pass_closing [] rest depth some e = absurd cc
pass_closing (sign ∷ value) rest depth some e = go (sign.byte == 91) refl (sign.byte == 93) refl (depth == 1) refl (depth == 0) refl e (pass_closing value rest (depth + 1)) (pass_closing value rest (depth - 1)) (pass_closing value rest depth)
  where
    nothing_left : (v : List Sign) (d : ℕ) → length (bytes_of v) ≡ 0 → d ≡ 0 → cut_at (v ++ rest) d ≡ onto v (cut_at rest 0)
    nothing_left [] d e z = ap (cut_at rest) z
    nothing_left (s ∷ v) d e z = absurd (omega arith)

    go : (u : Bool) → (sign.byte == 91) ≡ u → (v : Bool) → (sign.byte == 93) ≡ v → (one : Bool) → (depth == 1) ≡ one → (zero_depth : Bool) → (depth == 0) ≡ zero_depth
        → cond (v && one) (length (bytes_of value) == 0) (closes (bytes_of value) (cond u (depth + 1) (cond v (depth - 1) depth))) ≡ true
        → (0 < depth + 1 → closes (bytes_of value) (depth + 1) ≡ true → cut_at (value ++ rest) (depth + 1) ≡ onto value (cut_at rest 0))
        → (0 < depth - 1 → closes (bytes_of value) (depth - 1) ≡ true → cut_at (value ++ rest) (depth - 1) ≡ onto value (cut_at rest 0))
        → (0 < depth → closes (bytes_of value) depth ≡ true → cut_at (value ++ rest) depth ≡ onto value (cut_at rest 0))
        → add_to_cut (zero_depth && is_ascii_uppercase sign.byte) sign (cut_at (value ++ rest) (cond u (depth + 1) (cond v (depth - 1) depth))) ≡ onto (sign ∷ value) (cut_at rest 0)
    go u e91 v e93 one e1 true e0 h more less same = let z : depth ≡ 0 = eqb-true depth 0 e0 in absurd (omega arith)
    go true e91 true e93 one e1 false e0 h more less same = let x : sign.byte ≡ 91 = eqb-true sign.byte 91 e91 in let y : sign.byte ≡ 93 = eqb-true sign.byte 93 e93 in absurd (omega arith)
    go true e91 false e93 one e1 false e0 h more less same = ap (add_to_cut false sign) (more (omega arith) h)
    go false e91 true e93 true e1 false e0 h more less same =
        let d : depth ≡ 1 = eqb-true depth 1 e1 in
        let z : depth - 1 ≡ 0 = omega arith in ap (add_to_cut false sign) (nothing_left value (depth - 1) (eqb-true (length (bytes_of value)) 0 h) z)
    go false e91 true e93 false e1 false e0 h more less same = ap (add_to_cut false sign) (less (several depth some e1) h)
      where
        several : (d : ℕ) → 0 < d → (d == 1) ≡ false → 0 < d - 1
        several d some off = grind arith
    go false e91 false e93 one e1 false e0 h more less same = ap (add_to_cut false sign) (same some h)

-- no word begins in a text in square brackets
pass_bracket : (sign : Sign) (value rest : List Sign) → sign.byte ≡ 91 → closes (bytes_of value) 1 ≡ true → Passes (sign ∷ value) rest
pass_bracket sign value rest e h =
    let P : ℕ → Type 0 = λ b. add_to_cut (begins_word 0 b) sign (cut_at (value ++ rest) (depth_behind 0 b)) ≡ onto (sign ∷ value) (cut_at rest 0) in
    let here : add_to_cut false sign (cut_at (value ++ rest) 1) ≡ onto (sign ∷ value) (cut_at rest 0) = ap (add_to_cut false sign) (pass_closing value rest 1 (omega arith) h) in
    subst P (sym e) here

-- These four: a digit, a sign, the point and a text of digits are plain.
digit_plain : (b : ℕ) → is_ascii_digit b ≡ true → is_plain b ≡ true
digit_plain b digit = grind (arith, nat_tests)

sign_plain : (b : ℕ) → is_sign b ≡ true → is_plain b ≡ true
sign_plain b is = grind (arith, nat_tests)

point_plain : (b : ℕ) → is_point b ≡ true → is_plain b ≡ true
point_plain b is = grind (arith, nat_tests)

digits_plain : (text : List ℕ) → list_all is_ascii_digit text ≡ true → list_all is_plain text ≡ true
digits_plain text e = digits_pass is_plain digit_plain point_plain sign_plain text e

-- These three: no word begins in what follows the `#` of a variable, in a variable or an expression
-- in brackets, nor in one of these with a sign or without.
pass_variable : (value rest : List Sign) → is_variable (bytes_of value) ≡ true → Passes value rest
pass_variable [] rest e = absurd cc
pass_variable (sign ∷ value) rest e = go (sign.byte == 91) refl e
  where
    go : (t : Bool) → (sign.byte == 91) ≡ t → cond t (closes (bytes_of value) 1) (list_all is_ascii_digit (bytes_of (sign ∷ value))) ≡ true → Passes (sign ∷ value) rest
    go true is h = pass_bracket sign value rest (eqb-true sign.byte 91 is) h
    go false is h = pass_plain (sign ∷ value) rest (digits_plain (bytes_of (sign ∷ value)) h)

pass_reference : (value rest : List Sign) → is_reference (bytes_of value) ≡ true → Passes value rest
pass_reference [] rest e = absurd cc
pass_reference (sign ∷ value) rest e = go (sign.byte == 35) refl e
  where
    go : (t : Bool) → (sign.byte == 35) ≡ t → cond t (is_variable (bytes_of value)) (sign.byte == 91 && closes (bytes_of value) 1) ≡ true → Passes (sign ∷ value) rest
    go true is h =
        let P : ℕ → Type 0 = λ b. is_plain b ≡ true in
        pass_one sign value rest (subst P (sym (eqb-true sign.byte 35 is)) refl) (pass_variable value rest h)
    go false is h = let p = both (sign.byte == 91) (closes (bytes_of value) 1) h in pass_bracket sign value rest (eqb-true sign.byte 91 p.0) p.1

pass_signed : (value rest : List Sign) → is_reference (behind_sign (bytes_of value)) ≡ true → Passes value rest
pass_signed [] rest e = absurd cc
pass_signed (sign ∷ value) rest e = go (is_sign sign.byte) refl e
  where
    go : (t : Bool) → is_sign sign.byte ≡ t → is_reference (cond t (bytes_of value) (bytes_of (sign ∷ value))) ≡ true → Passes (sign ∷ value) rest
    go true is h = pass_one sign value rest (sign_plain sign.byte is) (pass_reference value rest h)
    go false is h = pass_reference (sign ∷ value) rest h

-- A value as a whole.

-- the signs of a value begin no word
pub pass_value : (value rest : List Sign) → is_value (bytes_of value) ≡ true → Passes value rest
pass_value value rest e = go (is_literal (bytes_of value)) refl e
  where
    go : (t : Bool) → is_literal (bytes_of value) ≡ t → (t || is_reference (behind_sign (bytes_of value))) ≡ true → Passes value rest
    go true is h = pass_plain value rest (literal_pass is_plain digit_plain point_plain sign_plain (bytes_of value) is)
    go false is h = pass_signed value rest h

-- Comments and letters.

-- comments begin no word
pass_comments : (comments rest : List Sign) → list_all is_comment comments ≡ true → Passes comments rest
pass_comments [] rest e = refl
pass_comments (sign ∷ comments) rest e =
    let p = both (is_comment sign) (list_all is_comment comments) e in
    let P : ℕ → Type 0 = λ b. is_plain b ≡ true in
    pass_one sign comments rest (subst P (sym (eqb-true sign.byte 40 p.0)) refl) (pass_comments comments rest p.1)

-- a letter outside brackets begins a group
pub at_letter : (letter : Sign) (rest : List Sign) → is_ascii_uppercase letter.byte ≡ true → cut_at (letter ∷ rest) 0 ≡ add_to_cut true letter (cut_at rest 0)
at_letter letter rest is = rw (depth_stays letter.byte is, is) refl

-- in a value with comments after it, the first comment stands after the value
before_comments : (value comments : List Sign) → list_any is_comment value ≡ false → list_all is_comment comments ≡ true → position_or_len is_comment (value ++ comments) ≡ length value
before_comments [] [] none all = refl
before_comments [] (sign ∷ comments) none all = rw (both (is_comment sign) (list_all is_comment comments) all).0 refl
before_comments (sign ∷ value) comments none all =
    let p = or_parts (is_comment sign) (list_any is_comment value) none in
    let later = before_comments value comments p.1 all in rw p.0 (let z : 1 + position_or_len is_comment (value ++ comments) ≡ length (sign ∷ value) = omega arith in z)

-- the value of a group is what stands before its comments
value_before : (value comments : List Sign) → list_any is_comment value ≡ false → list_all is_comment comments ≡ true → value_part (value ++ comments) ≡ value
value_before value comments none all = ap (λ (n : ℕ). take n (value ++ comments)) (before_comments value comments none all) ∙ take-append_seam value comments

-- after the value, its comments are left
pub drop_seam : (value comments : List Sign) → drop (length value) (value ++ comments) ≡ comments
drop_seam [] comments = refl
drop_seam (sign ∷ value) comments = drop_seam value comments

-- the piece of this letter with the first signs as its value, if these signs stand after it
abbrev piece_with : Sign → List Sign → List Sign → Piece
piece_with letter value part = record { letter = letter.byte; start = letter.place + 1; end = end_of (letter.place + 1) part; text = bytes_of part; whole = list_all is_comment (drop (length part) value) }

-- a letter and its whole value as a piece
abbrev word_cut : Sign → List Sign → Piece
word_cut letter value = record { letter = letter.byte; start = letter.place + 1; end = end_of (letter.place + 1) value; text = bytes_of value; whole = true }

-- a value ends after its last sign
end_last : (place : ℕ) (front : List Sign) (last : Sign) → end_of place (front ++ last ∷ []) ≡ last.place + 1
end_last place [] last = refl
end_last place (sign ∷ front) last = end_last (sign.place + 1) front last

-- a word of the grammar is the piece that the reader cuts
word_same : (letter : Sign) (value : List Sign) (word : Piece) → IsWord letter value word → word ≡ word_cut letter value
word_same letter value word is =
    let end : is.last.place + 1 ≡ end_of (letter.place + 1) value = sym (ap (end_of (letter.place + 1)) is.value_is ∙ end_last (letter.place + 1) is.front is.last) in
    is.word_is ∙ ap (λ (n : ℕ). record { letter = letter.byte; start = letter.place + 1; end = n; text = bytes_of value; whole = true }) end

-- the signs are some signs and a last one
abbrev HasEnd : List Sign → Type 0
HasEnd value = (front : List Sign) × (last : Sign) × (value ≡ front ++ last ∷ [])

-- each list with a sign has a last one
has_end : (sign : Sign) (value : List Sign) → HasEnd (sign ∷ value)
has_end sign [] = ([], sign, refl)
has_end sign (next ∷ value) = let (front, last, is) = has_end next value in (sign ∷ front, last, ap (λ (ss : List Sign). sign ∷ ss) is)

-- a value that the reader takes makes a word of the grammar
is_word : (letter : Sign) (value : List Sign) → is_value (bytes_of value) ≡ true → IsWord letter value (word_cut letter value)
is_word letter [] e = absurd cc
is_word letter (sign ∷ value) e =
    let (front, last, is) = has_end sign value in
    let end : end_of (letter.place + 1) (sign ∷ value) ≡ last.place + 1 = ap (end_of (letter.place + 1)) is ∙ end_last (letter.place + 1) front last in record {
      front = front;
      last = last;
      value_is = is;
      word_is = ap (λ (n : ℕ). record { letter = letter.byte; start = letter.place + 1; end = n; text = bytes_of (sign ∷ value); whole = true }) end;
    }

-- a group is the piece of its letter and value, whatever comments stand after the value
piece_is : (letter : Sign) (value comments : List Sign) → list_any is_comment value ≡ false → list_all is_comment comments ≡ true → piece_of (record { letter = letter; value = value ++ comments }) ≡ word_cut letter value
piece_is letter value comments none all =
    ap (piece_with letter (value ++ comments)) (value_before value comments none all)
    ∙ ap (λ (whole : Bool). record { letter = letter.byte; start = letter.place + 1; end = end_of (letter.place + 1) value; text = bytes_of value; whole = whole }) (ap (list_all is_comment) (drop_seam value comments) ∙ all)

-- From the grammar to the cut.

-- signs that spell words, with a tail after them: they are cut into these words, and then as the
-- tail is
pub record Spelled (signs tail : List Sign) (words : List Piece) : Type 0 where
  -- nothing stands before the first word
  pub lead_is : (cut_at (signs ++ tail) 0).lead ≡ []
  -- the words, and then those of the tail
  pub words_are : map piece_of (cut_at (signs ++ tail) 0).groups ≡ words ++ map piece_of (cut_at tail 0).groups
  -- each of the words has a whole value
  pub whole : list_all is_sound words ≡ true

-- signs that spell words by the grammar are cut into these words, if the tail begins with a word
pub spelled : (words : List Piece) (signs tail : List Sign) → AreWords signs words → (cut_at tail 0).lead ≡ [] → Spelled signs tail words
spelled [] signs tail are none = record { lead_is = ap (λ (ss : List Sign). (cut_at (ss ++ tail) 0).lead) are ∙ none; words_are = ap (λ (ss : List Sign). map piece_of (cut_at (ss ++ tail) 0).groups) are; whole = refl }
spelled (word ∷ words) signs tail (letter, value, comments, others, is, up, val, none, all, word-is, rest) no_lead =
    let s = spelled words others tail rest no_lead in
    let behind : List Sign = others ++ tail in
    let sound : is_value (bytes_of value) ≡ true = is_a_value (bytes_of value) val in
    let signs-are : signs ++ tail ≡ letter ∷ (value ++ (comments ++ behind)) =
    ap (λ (ss : List Sign). ss ++ tail) is ∙ ap (λ (ss : List Sign). letter ∷ ss) (append_assoc value (comments ++ others) tail ∙ ap (λ (ss : List Sign). value ++ ss) (append_assoc comments others tail))
    in
    let cut : cut_at (signs ++ tail) 0 ≡ add_to_cut true letter (onto value (onto comments (cut_at behind 0))) =
    ap (λ (ss : List Sign). cut_at ss 0) signs-are ∙ at_letter letter (value ++ (comments ++ behind)) up
    ∙ ap (add_to_cut true letter) (pass_value value (comments ++ behind) sound ∙ ap (onto value) (pass_comments comments behind all))
    in
    let group : value ++ (comments ++ (cut_at behind 0).lead) ≡ value ++ comments = ap (λ (ss : List Sign). value ++ (comments ++ ss)) s.lead_is ∙ ap (λ (ss : List Sign). value ++ ss) (append-nil comments) in
    let first : piece_of (record { letter = letter; value = value ++ (comments ++ (cut_at behind 0).lead) }) ≡ word = ap (λ (ss : List Sign). piece_of (record { letter = letter; value = ss })) group ∙ piece_is letter value comments none all ∙ sym (word_same letter value word word-is) in
    let P : Piece → Type 0 = λ w. is_sound w ≡ true in
    let good : is_sound word ≡ true = subst P (sym (word_same letter value word word-is)) sound in record {
      lead_is = ap (λ (c : Cut). c.lead) cut;
      words_are = ap (λ (c : Cut). map piece_of c.groups) cut ∙ ap (λ (w : Piece). w ∷ map piece_of (cut_at behind 0).groups) first ∙ ap (λ (ws : List Piece). word ∷ ws) s.words_are;
      whole = rw good s.whole;
    }

-- From the cut to the grammar.

-- the signs of groups, one behind the other
abbrev pub flat : List Group → List Sign
flat [] = []
flat (group ∷ groups) = group.letter ∷ (group.value ++ flat groups)

-- each of the groups begins with a capital letter
abbrev pub Letters : List Group → Type 0
Letters [] = Unit {0}
Letters (group ∷ groups) = (is_ascii_uppercase group.letter.byte ≡ true) × Letters groups

-- each group of a cut begins with a capital letter
pub cut_letters : (signs : List Sign) (depth : ℕ) → Letters (cut_at signs depth).groups
cut_letters [] depth = tt
cut_letters (sign ∷ signs) depth = go (begins_word depth sign.byte) refl (cut_letters signs (depth_behind depth sign.byte))
  where
    go : (t : Bool) → begins_word depth sign.byte ≡ t → Letters (cut_at signs (depth_behind depth sign.byte)).groups → Letters (add_to_cut t sign (cut_at signs (depth_behind depth sign.byte))).groups
    go true e later = ((both (depth == 0) (is_ascii_uppercase sign.byte) e).1, later)
    go false e later = later

-- a cut with one sign more in front still leaves out no sign
added_flat : (t : Bool) (sign : Sign) (signs : List Sign) (cut : Cut) → signs ≡ cut.lead ++ flat cut.groups → sign ∷ signs ≡ (add_to_cut t sign cut).lead ++ flat (add_to_cut t sign cut).groups
added_flat true sign signs cut e = ap (λ (ss : List Sign). sign ∷ ss) e
added_flat false sign signs cut e = ap (λ (ss : List Sign). sign ∷ ss) e

-- a cut leaves out no sign
pub cut_flat : (signs : List Sign) (depth : ℕ) → signs ≡ (cut_at signs depth).lead ++ flat (cut_at signs depth).groups
cut_flat [] depth = refl
cut_flat (sign ∷ signs) depth = added_flat (begins_word depth sign.byte) sign signs (cut_at signs (depth_behind depth sign.byte)) (cut_flat signs (depth_behind depth sign.byte))

-- a list is its front and its rest
pub split_at : (n : ℕ) (value : List Sign) → value ≡ take n value ++ drop n value
split_at zero value = refl
split_at (suc n) [] = refl
split_at (suc n) (sign ∷ value) = ap (λ (ss : List Sign). sign ∷ ss) (split_at n value)

-- The next two: no comment stands in a value up to its first comment, and what is dropped after the
-- first signs is what stands after them.
no_comment : (value : List Sign) → list_any is_comment (value_part value) ≡ false
no_comment [] = refl
no_comment (sign ∷ value) = go (position_or_len is_comment value) (is_comment sign) refl (no_comment value)
  where
    go : (n : ℕ) (t : Bool) → is_comment sign ≡ t → list_any is_comment (take n value) ≡ false → list_any is_comment (take (cond (not t) (1 + n) 0) (sign ∷ value)) ≡ false
    go n true e later = refl
    go n false e later = let one : 1 + n ≡ suc n = omega arith in rw one (rw e later)

take_len : (n : ℕ) (value : List Sign) → drop (length (take n value)) value ≡ drop n value
take_len zero value = refl
take_len (suc n) [] = refl
take_len (suc n) (sign ∷ value) = take_len n value

-- groups whose words are whole spell these words
pub spells : (groups : List Group) → Letters groups → list_all is_sound (map piece_of groups) ≡ true → AreWords (flat groups) (map piece_of groups)
spells [] letters sound = refl
spells (group ∷ groups) letters sound =
    let p = both (is_sound (piece_of group)) (list_all is_sound (map piece_of groups)) sound in
    let q = both (piece_of group).whole (is_value (piece_of group).text) p.0 in
    let part : List Sign = value_part group.value in
    let n : ℕ = position_or_len is_comment group.value in
    let comments : List Sign = drop (length part) group.value in
    let W : Piece → Type 0 = IsWord group.letter part in
    let value : group.value ≡ part ++ comments = split_at n group.value ∙ ap (λ (ss : List Sign). part ++ ss) (sym (take_len n group.value)) in
    let all : flat (group ∷ groups) ≡ group.letter ∷ (part ++ (comments ++ flat groups)) = ap (λ (ss : List Sign). group.letter ∷ (ss ++ flat groups)) value ∙ ap (λ (ss : List Sign). group.letter ∷ ss) (append_assoc part comments (flat groups)) in (
      group.letter,
      part,
      comments,
      flat groups,
      all,
      letters.0,
      value_is (bytes_of part) q.1,
      no_comment group.value,
      q.0,
      subst W (ap (λ (whole : Bool). record { letter = group.letter.byte; start = group.letter.place + 1; end = end_of (group.letter.place + 1) part; text = bytes_of part; whole = whole }) (sym q.0)) (is_word group.letter part q.1),
      spells groups letters.1 p.1,
    )

-- the reader counts as many signs before the first letter as the cut has there
pub lead_len : (signs : List Sign) (depth : ℕ) → value_len signs depth ≡ length (cut_at signs depth).lead
lead_len [] depth = refl
lead_len (sign ∷ signs) depth = go (begins_word depth sign.byte) (lead_len signs (depth_behind depth sign.byte))
  where
    go : (t : Bool) → value_len signs (depth_behind depth sign.byte) ≡ length (cut_at signs (depth_behind depth sign.byte)).lead
        → cond t 0 (1 + value_len signs (depth_behind depth sign.byte)) ≡ length (add_to_cut t sign (cut_at signs (depth_behind depth sign.byte))).lead
    go true later = refl
    go false later = omega arith

-- words that a line spells are those into which the reader cuts it
pub words_cut : (signs : List Sign) (words : List Piece) → AreWords signs words → IsCut signs words
words_cut signs words are =
    let s = spelled words signs [] are refl in
    let signs-are : signs ≡ signs ++ [] = sym (append-nil signs) in
    record { at_letter = lead_len signs 0 ∙ ap (λ (ss : List Sign). length (cut_at ss 0).lead) signs-are ∙ ap length s.lead_is; words_are = ap pieces_of signs-are ∙ s.words_are ∙ append-nil words; whole = s.whole }

-- words into which the reader cuts a line are words that it spells
pub cut_words : (signs : List Sign) (words : List Piece) → IsCut signs words → AreWords signs words
cut_words signs words is =
    let lead : (cut_at signs 0).lead ≡ [] = nil_from_length (cut_at signs 0).lead (sym (lead_len signs 0) ∙ is.at_letter) in
    let all : flat (cut_at signs 0).groups ≡ signs = sym (cut_flat signs 0 ∙ ap (λ (ss : List Sign). ss ++ flat (cut_at signs 0).groups) lead) in
    let P : List Piece → Type 0 = λ ws. list_all is_sound ws ≡ true in
    let Q : List Piece → Type 0 = AreWords signs in
    let R : List Sign → Type 0 = λ ss. AreWords ss (pieces_of signs) in
    subst Q is.words_are (subst R all (spells (cut_at signs 0).groups (cut_letters signs 0) (subst P (sym is.words_are) is.whole)))
