-- A line of a tape has a sequence number or an O number of too many digits by the grammar exactly
-- if it has one to the reader. Lemmas in `_read` go from the grammar to the reader, those in
-- `_found` from the reader to the grammar. For Steps, the condition of refusal 5.
use Rattle.std.proofs.Common.{◌≡◌, ◌==◌, ℕ, suc, ◌+◌, ◌-◌, Bool, true, false, cond, ◌&&◌, ◌||◌, List, [], ◌∷◌, ◌++◌, length, map, take, drop, Option, Some, None, ◌⊎◌, inl, inr, refl, sym, ap, subst, ◌∙◌, append-nil, append_assoc, arith}
use Rattle.std.specs.Prelude.{is_some}
use Rattle.std.specs.Char.{is_ascii_uppercase}
use Rattle.std.specs.List.{list_all, list_any, prefix_len, position_or_len}
use Rattle.std.proofs.lemmas.Bool.{eqb-true}
use Rattle.std.proofs.lemmas.List.{nil_from_length}
use Rattle.nc_number.specs.Literals.{is_literal, whole_part, fraction_part}
use Rattle.nc_number.proofs.Bools.{both}
use Rattle.line_text.specs.declared.sign.Sign.{Sign}
use Rattle.line_text.specs.declared.piece.Piece.{Piece}
use Rattle.line_text.specs.declared.said.Reading.{Reading}
use Rattle.nc_text.specs.Lines.{Line}
use Rattle.line_text.specs.Pieces.{Group, Cut, is_comment, bytes_of, value_part, piece_of, pieces_of, value_len, cut_at, add_to_cut}
use Rattle.line_text.specs.Values.{has_long_front}
use Rattle.line_text.specs.Front.{is_switch, switch_behind, behind_digit, switch_of, behind_switch, behind_comments, is_statement, sentence_of, is_number_sign, number_part, behind_number, is_numbered}
use Rattle.line_text.specs.Said.{is_sound, is_long, is_skipped, read_pieces, broken_reading, read_words, read_numbered, read_statement, read_block, read_head}
use Rattle.tape_relation.specs.Numbers.{BeginsLong}
use Rattle.tape_relation.specs.Words.{AreWords}
use Rattle.tape_relation.specs.LineGrammar.{IsSkip, none, alone, named}
use Rattle.tape_relation.specs.LineAlone as own
use Rattle.tape_relation.specs.LineAlone.{IsLong, HasLongNumber}
use Rattle.tape_relation.proofs.LiteralParts.{written, literal_read, many_found}
use Rattle.tape_relation.proofs.Cuts.{at_letter, flat, Letters, cut_letters, cut_flat, spells, lead_len, split_at, spelled}
use Rattle.tape_relation.proofs.Remarks.{the_signs, signs_same}
use Rattle.tape_relation.proofs.Statements.{not_statement, first_is, letter_no_comment, words_before}
use Rattle.tape_relation.proofs.Heads.{behind_more, behind_other, comments_before, comments_split, comments_all, number_byte, literal_bytes, Stops, comment_stops, letter_byte, numbered_before}
use Rattle.tape_relation.proofs.Sentences.{First, first_letter, NoDigit, letter_no_switch, head_read}
use Rattle.tape_relation.proofs.Found.{digit_is}
use Rattle.tape_relation.proofs.LongFronts.{front_read, front_found, literal_long}
use Rattle.tape_relation.proofs.LineSays.{same_off}
use Rattle.tape_relation.proofs.LineRead.{scan, reading, is_off}

-- A number does not go on where none can.

-- the bytes of two lists of signs, one after the other
bytes_both : (a b : List Sign) → bytes_of (a ++ b) ≡ bytes_of a ++ bytes_of b
bytes_both [] b = refl
bytes_both (sign ∷ a) b = ap (λ (bs : List ℕ). sign.byte ∷ bs) (bytes_both a b)

-- what stands in front of these signs begins with the number that the whole begins with
number_in_front : (front tail : List Sign) (number rest : List ℕ) → bytes_of front ++ bytes_of tail ≡ number ++ rest → list_all number_byte number ≡ true → Stops tail → (more : List ℕ) × (bytes_of front ≡ number ++ more)
number_in_front front tail [] rest is all stops = (bytes_of front, refl)
number_in_front [] [] (n ∷ number) rest is all stops = absurd cc
number_in_front [] (sign ∷ tail) (n ∷ number) rest is all stops =
    let same : sign.byte ≡ n = cc in
    let bad : false ≡ true = sym stops ∙ ap number_byte same ∙ (both (number_byte n) (list_all number_byte number) all).0 in absurd cc
number_in_front (sign ∷ front) tail (n ∷ number) rest is all stops =
    let same : sign.byte ≡ n = cc in
    let behind : bytes_of front ++ bytes_of tail ≡ number ++ rest = cc in
    let later = number_in_front front tail number rest behind (both (number_byte n) (list_all number_byte number) all).1 stops in
    (later.0, ap (λ (b : ℕ). b ∷ bytes_of front) same ∙ ap (λ (bs : List ℕ). n ∷ bs) later.1)

-- The next five: a number of too many digits stands whole before signs that no literal goes on
-- into, and words and comments are such signs.
long_in_front : (front tail : List Sign) → Stops tail → BeginsLong (bytes_of (front ++ tail)) → BeginsLong (bytes_of front)
long_in_front front tail stops (number, rest, is, (sign, whole, fraction, written, many)) =
    let p = number_in_front front tail number rest (sym (bytes_both front tail) ∙ is) (literal_bytes number (literal_read number (sign, whole, fraction, written))) stops in
    (number, p.0, p.1, (sign, whole, fraction, written, many))

long_with_more : (front tail : List Sign) → BeginsLong (bytes_of front) → BeginsLong (bytes_of (front ++ tail))
long_with_more front tail (number, rest, is, over) = (number, rest ++ bytes_of tail, bytes_both front tail ∙ ap (λ (bs : List ℕ). bs ++ bytes_of tail) is ∙ append_assoc number rest (bytes_of tail), over)

flat_stops : (groups : List Group) → Letters groups → Stops (flat groups)
flat_stops [] letters = tt
flat_stops (group ∷ groups) letters = letter_byte group.letter.byte letters.0

value_stops : (value others : List Sign) → Stops others → Stops (drop (position_or_len is_comment value) value ++ others)
value_stops [] others stops = stops
value_stops (sign ∷ value) others stops = go (is_comment sign) refl (value_stops value others stops)
  where
    go : (t : Bool) → is_comment sign ≡ t → Stops (drop (position_or_len is_comment value) value ++ others) → Stops (drop (position_or_len is_comment (sign ∷ value)) (sign ∷ value) ++ others)
    go true e later = rw e (comment_stops sign e)
    go false e later = let one : 1 + position_or_len is_comment value ≡ suc (position_or_len is_comment value) = omega arith in rw (e, one) later

number_run : (signs : List Sign) → Stops (behind_number signs)
number_run [] = tt
number_run (sign ∷ signs) = go (is_number_sign sign) refl (number_run signs)
  where
    go : (t : Bool) → is_number_sign sign ≡ t → Stops (behind_number signs) → Stops (behind_number (sign ∷ signs))
    go true e later = let one : 1 + prefix_len is_number_sign signs ≡ suc (prefix_len is_number_sign signs) = omega arith in rw (e, one) later
    go false e later = rw e e

-- From the grammar to the reader.

-- the letter is N (78) or O (79)
abbrev IsNumbering : ℕ → Type 0
IsNumbering b = (b ≡ 78) ⊎ (b ≡ 79)

-- The next two: what holds of N and of O holds of such a letter, and no statement begins with one.
numbering_is : (P : ℕ → Type 0) (b : ℕ) → P 78 → P 79 → IsNumbering b → P b
numbering_is P b n o (inl e) = subst P (sym e) n
numbering_is P b n o (inr e) = subst P (sym e) o

no_statement_here : (letter : Sign) (rest : List Sign) → IsNumbering letter.byte → is_statement (sentence_of (letter ∷ rest)) ≡ false
no_statement_here letter rest is =
    let C : ℕ → Type 0 = λ b. (b == 40) ≡ false in
    let other : (letter.byte == 40) ≡ false = numbering_is C letter.byte refl refl is in
    let text : sentence_of (letter ∷ rest) ≡ letter.byte ∷ sentence_of rest = rw other refl in
    let N : ℕ → Type 0 = λ b. ((b == 78) || (b == 79)) ≡ false in
    let O : ℕ → Type 0 = λ b. ((b == 78) || (b == 79)) ≡ true in
    ap is_statement text ∙ not_statement (letter.byte ∷ sentence_of rest)
    (λ s. let wrong : true ≡ false = sym (numbering_is O letter.byte refl refl is) ∙ first_is N letter.byte (sentence_of rest) refl refl refl refl refl refl s in absurd cc)

-- whether one of the words, up to and with the first broken one, is a number of too many digits
abbrev long_pieces : List Piece → Bool
long_pieces pieces = list_any is_long (take (prefix_len is_sound pieces + 1) pieces)

-- The next four: an N or O with too many digits after words makes the pieces, the words and the
-- block long to the reader; `stops_behind` says that N or O ends a literal.
long_behind : (words : List Piece) (piece : Piece) (others : List Piece) → list_all is_sound words ≡ true → is_long piece ≡ true → long_pieces (words ++ piece ∷ others) ≡ true
long_behind [] piece others all long = go (prefix_len is_sound (piece ∷ others))
  where
    go : (n : ℕ) → list_any is_long (take (n + 1) (piece ∷ others)) ≡ true
    go n = let one : n + 1 ≡ suc n = omega arith in rw one (rw long refl)
long_behind (word ∷ words) piece others all long =
    let p = both (is_sound word) (list_all is_sound words) all in
    let n : ℕ = prefix_len is_sound (words ++ piece ∷ others) in
    let one : 1 + n + 1 ≡ suc (n + 1) = omega arith in
    rw p.0 (rw one (right (is_long word) (long_pieces (words ++ piece ∷ others)) (long_behind words piece others p.1 long)))
  where
    right : (a b : Bool) → b ≡ true → (a || b) ≡ true
    right true b e = refl
    right false b e = e

pieces_long : (slash : Bool) (front : List Sign) (words : List Piece) (letter : Sign) (rest : List Sign) → AreWords front words → IsNumbering letter.byte → BeginsLong (bytes_of rest) → (read_words slash (front ++ letter ∷ rest)).long ≡ true
unfolding read_words
pieces_long slash front words letter rest are is begins =
    let U : ℕ → Type 0 = λ b. is_ascii_uppercase b ≡ true in
    let up : is_ascii_uppercase letter.byte ≡ true = numbering_is U letter.byte refl refl is in
    let tail : cut_at (letter ∷ rest) 0 ≡ add_to_cut true letter (cut_at rest 0) = at_letter letter rest up in
    let s = spelled words front (letter ∷ rest) are (ap (λ (c : Cut). c.lead) tail) in
    let lead : List Sign = (cut_at rest 0).lead in
    let groups : List Group = (cut_at rest 0).groups in
    let piece : Piece = piece_of (record { letter = letter; value = lead }) in
    let pieces : pieces_of (front ++ letter ∷ rest) ≡ words ++ piece ∷ map piece_of groups = s.words_are ∙ ap (λ (c : Cut). words ++ map piece_of c.groups) tail in
    let n : ℕ = position_or_len is_comment lead in
    let whole : rest ≡ value_part lead ++ (drop n lead ++ flat groups) =
    cut_flat rest 0 ∙ ap (λ (ss : List Sign). ss ++ flat groups) (split_at n lead) ∙ append_assoc (value_part lead) (drop n lead) (flat groups)
    in
    let B : List Sign → Type 0 = λ ss. BeginsLong (bytes_of ss) in
    let long-value : BeginsLong (bytes_of (value_part lead)) = long_in_front (value_part lead) (drop n lead ++ flat groups) (value_stops lead (flat groups) (flat_stops groups (cut_letters rest 0))) (subst B whole begins) in
    let L : ℕ → Type 0 = λ b. (b == 78 || b == 79) ≡ true in
    let long : is_long piece ≡ true = rw (numbering_is L letter.byte refl refl is, front_read (bytes_of (value_part lead)) long-value) refl in
    let start : value_len (front ++ letter ∷ rest) 0 ≡ 0 = lead_len (front ++ letter ∷ rest) 0 ∙ ap length s.lead_is in
    rw start (ap long_pieces pieces ∙ long_behind words piece (map piece_of groups) s.whole long)

stops_behind : (letter : Sign) (rest : List Sign) → IsNumbering letter.byte → Stops (letter ∷ rest)
stops_behind letter rest is = let S : ℕ → Type 0 = λ b. number_byte b ≡ false in numbering_is S letter.byte refl refl is

block_long : (slash : Bool) (front : List Sign) (words : List Piece) (letter : Sign) (rest : List Sign) → AreWords front words → IsNumbering letter.byte → BeginsLong (bytes_of rest) → (read_block slash (front ++ letter ∷ rest)).long ≡ true
unfolding read_block read_numbered
block_long slash front (word ∷ words) letter rest are is begins =
    let off = no_statement_here letter rest is in
    rw (numbered_before front (letter ∷ rest) word words are off (stops_behind letter rest is), words_before front (letter ∷ rest) (word ∷ words) are off) (pieces_long slash front (word ∷ words) letter rest are is begins)
block_long slash front [] letter rest are is begins =
    let P : List Sign → Type 0 = λ ss. (read_block slash (ss ++ letter ∷ rest)).long ≡ true in subst P (sym are) (go (is_numbered (letter ∷ rest)) refl)
  where
    go : (t : Bool) → is_numbered (letter ∷ rest) ≡ t → (read_block slash (letter ∷ rest)).long ≡ true
    go true e =
        let p = both (letter.byte == 78 && is_literal (bytes_of (number_part rest))) (is_statement (sentence_of (behind_number rest))) e in
        let lit = (both (letter.byte == 78) (is_literal (bytes_of (number_part rest))) p.0).1 in
        let B : List Sign → Type 0 = λ ss. BeginsLong (bytes_of ss) in
        let number : BeginsLong (bytes_of (number_part rest)) = long_in_front (number_part rest) (behind_number rest) (number_run rest) (subst B (split_at (prefix_len is_number_sign rest) rest) begins) in
        rw e (literal_long (bytes_of (number_part rest)) lit number)
    go false e = rw (e, no_statement_here letter rest is) (pieces_long slash [] [] letter rest refl is begins)

-- the first sign of words, or of the letter if there are none, is a capital letter
front_first : (front : List Sign) (words : List Piece) (letter : Sign) (rest : List Sign) → AreWords front words → IsNumbering letter.byte → (first : Sign) × (more : List Sign) × (front ++ letter ∷ rest ≡ first ∷ more) × (is_ascii_uppercase first.byte ≡ true)
front_first front [] letter rest are is =
    let U : ℕ → Type 0 = λ b. is_ascii_uppercase b ≡ true in (letter, rest, ap (λ (ss : List Sign). ss ++ letter ∷ rest) are, numbering_is U letter.byte refl refl is)
front_first front (word ∷ words) letter rest (first, value, comments, others, front-is, up, val, no_remark, all, word-is, more) is =
    (first, (value ++ (comments ++ others)) ++ letter ∷ rest, ap (λ (ss : List Sign). ss ++ letter ∷ rest) front-is, up)

-- signs with such a number are long to the reader, and their block is not skipped
long_signs : (skips : ℕ) (signs : List Sign) → IsLong skips signs → ((read_head (behind_comments signs)).long ≡ true) × (is_skipped skips (switch_of (behind_comments signs)) ≡ false)
long_signs skips signs l =
    let block : List Sign = l.front ++ l.letter ∷ l.rest in
    let f = front_first l.front l.words l.letter l.rest l.words_are l.letter_is in
    let first : First (f.0 ∷ f.1) = first_letter f.0 f.1 f.3 in
    let plain : behind_comments block ≡ block = ap behind_comments f.2 ∙ behind_other f.0 f.1 (letter_no_comment f.0.byte f.3) ∙ sym f.2 in
    let F : List Sign → Type 0 = First in
    let G : List Sign → Type 0 = NoDigit in
    let p = head_read l.head l.between block l.skip l.head_is l.between_are (λ e. subst F (sym (plain ∙ f.2)) first) (subst G (sym f.2) (letter_no_switch f.0.byte f.3)) in
    let whole : behind_comments signs ≡ behind_comments (l.head ++ (l.between ++ block)) = ap behind_comments l.signs_are ∙ behind_more l.before (l.head ++ (l.between ++ block)) l.before_are in (
      ap (λ (ss : List Sign). (read_head ss).long) whole ∙ ap (λ (r : Reading). r.long) (p.1 ∙ ap (read_block (is_some l.skip)) plain) ∙ block_long (is_some l.skip) l.front l.words l.letter l.rest l.words_are l.letter_is l.long,
      ap (λ (ss : List Sign). is_skipped skips (switch_of ss)) whole ∙ ap (is_skipped skips) p.0 ∙ same_off skips l.skip ∙ l.on,
    )

-- a line with such a number by the grammar is long to the reader, and its block is not skipped
pub long_read : (skips : ℕ) (line : Line) → HasLongNumber skips line → ((reading line).long ≡ true) × (is_off skips line ≡ false)
long_read skips line (signs, are, is) =
    let P : List Sign → Type 0 = λ ss. ((read_head (behind_comments ss)).long ≡ true) × (is_skipped skips (switch_of (behind_comments ss)) ≡ false) in
    subst P (sym (signs_same line signs are)) (long_signs skips signs is)

-- From the reader to the grammar.

-- words, and then N or O with a literal of too many digits
abbrev LongBehind : List Sign → Type 0
LongBehind signs = (front : List Sign) × (letter : Sign) × (rest : List Sign) × (words : List Piece) × (signs ≡ front ++ letter ∷ rest) × AreWords front words × IsNumbering letter.byte × BeginsLong (bytes_of rest)

-- groups that are whole words, and then one with a number of too many digits
abbrev LongGroup : List Group → Type 0
LongGroup groups = (front : List Group) × (group : Group) × (back : List Group) × (groups ≡ front ++ group ∷ back) × (list_all is_sound (map piece_of front) ≡ true) × (is_long (piece_of group) ≡ true)

-- The lemmas from here on go back: pieces, words and blocks that are long to the reader have such a
-- number after words.
long_group : (groups : List Group) → long_pieces (map piece_of groups) ≡ true → LongGroup groups
long_group [] e = absurd cc
long_group (group ∷ groups) e = go (is_sound (piece_of group)) refl e (long_group groups)
  where
    go : (t : Bool) → is_sound (piece_of group) ≡ t → list_any is_long (take (cond t (1 + prefix_len is_sound (map piece_of groups)) 0 + 1) (piece_of group ∷ map piece_of groups)) ≡ true → (long_pieces (map piece_of groups) ≡ true → LongGroup groups) → LongGroup (group ∷ groups)
    go true s h later = at (is_long (piece_of group)) refl (let one : 1 + prefix_len is_sound (map piece_of groups) + 1 ≡ suc (prefix_len is_sound (map piece_of groups) + 1) = omega arith in rw one at h)
      where
        at : (l : Bool) → is_long (piece_of group) ≡ l → (is_long (piece_of group) || long_pieces (map piece_of groups)) ≡ true → LongGroup (group ∷ groups)
        at true l h = ([], group, groups, refl, refl, l)
        at false l h = let (front, other, back, is, all, long) = later (rw l at h) in (group ∷ front, other, back, ap (λ (gs : List Group). group ∷ gs) is, rw s all, long)
    go false s h later = ([], group, groups, refl, refl, only (is_long (piece_of group)) h)
      where
        only : (l : Bool) → (l || false) ≡ true → l ≡ true
        only true h = refl
        only false h = absurd cc

flat_both : (front back : List Group) → flat (front ++ back) ≡ flat front ++ flat back
flat_both [] back = refl
flat_both (group ∷ front) back = ap (λ (ss : List Sign). group.letter ∷ (group.value ++ ss)) (flat_both front back) ∙ ap (λ (ss : List Sign). group.letter ∷ ss) (sym (append_assoc group.value (flat front) (flat back)))

letters_front : (front back : List Group) → Letters (front ++ back) → Letters front
letters_front [] back letters = tt
letters_front (group ∷ front) back letters = (letters.0, letters_front front back letters.1)

long_letter : (b : ℕ) → (b == 78 || b == 79) ≡ true → IsNumbering b
long_letter b e = go (b == 78) refl (b == 79) refl e
  where
    go : (n : Bool) → (b == 78) ≡ n → (o : Bool) → (b == 79) ≡ o → (n || o) ≡ true → IsNumbering b
    go true n o f h = inl (eqb-true b 78 n)
    go false n true f h = inr (eqb-true b 79 f)
    go false n false f h = absurd cc

words_long : (signs : List Sign) → value_len signs 0 ≡ 0 → long_pieces (pieces_of signs) ≡ true → LongBehind signs
words_long signs start e = go (long_group (cut_at signs 0).groups e)
  where
    go : LongGroup (cut_at signs 0).groups → LongBehind signs
    go (front, group, back, is, all, long) =
        let no_lead : (cut_at signs 0).lead ≡ [] = nil_from_length (cut_at signs 0).lead (sym (lead_len signs 0) ∙ start) in
        let whole : signs ≡ flat front ++ group.letter ∷ (group.value ++ flat back) =
        cut_flat signs 0 ∙ ap (λ (ss : List Sign). ss ++ flat (cut_at signs 0).groups) no_lead ∙ ap flat is ∙ flat_both front (group ∷ back)
        in
        let L : List Group → Type 0 = Letters in
        let p = both (group.letter.byte == 78 || group.letter.byte == 79) (has_long_front (bytes_of (value_part group.value))) long in
        let n : ℕ = position_or_len is_comment group.value in
        let begins : BeginsLong (bytes_of (value_part group.value ++ (drop n group.value ++ flat back))) = long_with_more (value_part group.value) (drop n group.value ++ flat back) (front_found (bytes_of (value_part group.value)) p.1) in
        let value : value_part group.value ++ (drop n group.value ++ flat back) ≡ group.value ++ flat back = sym (append_assoc (value_part group.value) (drop n group.value) (flat back)) ∙ ap (λ (ss : List Sign). ss ++ flat back) (sym (split_at n group.value)) in
        let B : List Sign → Type 0 = λ ss. BeginsLong (bytes_of ss) in (
          flat front,
          group.letter,
          group.value ++ flat back,
          map piece_of front,
          whole,
          spells front (letters_front front (group ∷ back) (subst L is (cut_letters signs 0))) all,
          long_letter group.letter.byte p.0,
          subst B value begins,
        )

numbered_long : (signs : List Sign) → is_numbered signs ≡ true → (read_numbered signs).long ≡ true → LongBehind signs
unfolding read_numbered
numbered_long [] e long = absurd cc
numbered_long (letter ∷ rest) e long =
    let p = both (letter.byte == 78 && is_literal (bytes_of (number_part rest))) (is_statement (sentence_of (behind_number rest))) e in
    let q = both (letter.byte == 78) (is_literal (bytes_of (number_part rest))) p.0 in
    let text : List ℕ = bytes_of (number_part rest) in
    let w = written text q.1 in
    let number : BeginsLong text = (text, [], sym (append-nil text), (w.0, whole_part text, fraction_part text, w.1, many_found text long)) in
    let B : List Sign → Type 0 = λ ss. BeginsLong (bytes_of ss) in
    ([], letter, rest, [], refl, refl, inl (eqb-true letter.byte 78 q.0), subst B (sym (split_at (prefix_len is_number_sign rest) rest)) (long_with_more (number_part rest) (behind_number rest) number))

cut_long : (slash : Bool) (signs : List Sign) → (read_words slash signs).long ≡ true → LongBehind signs
unfolding read_words
cut_long slash signs e = go (value_len signs 0 == 0) refl e
  where
    go : (t : Bool) → (value_len signs 0 == 0) ≡ t → (cond t (read_pieces slash (pieces_of signs)) broken_reading).long ≡ true → LongBehind signs
    go true z h = words_long signs (eqb-true (value_len signs 0) 0 z) h
    go false z h = absurd cc

block_is_long : (slash : Bool) (signs : List Sign) → (read_block slash signs).long ≡ true → LongBehind signs
unfolding read_block read_statement
block_is_long slash signs e = go (is_numbered signs) refl (is_statement (sentence_of signs)) refl e
  where
    go : (n : Bool) → is_numbered signs ≡ n → (s : Bool) → is_statement (sentence_of signs) ≡ s → (cond n (read_numbered signs) (cond s (read_statement signs) (read_words slash signs))).long ≡ true → LongBehind signs
    go true n s f h = numbered_long signs n h
    go false n true f h = absurd cc
    go false n false f h = cut_long slash signs h

behind_head : (skips : ℕ) (before head signs : List Sign) (skip : Option ℕ) → list_all is_comment before ≡ true → IsSkip head skip → own.is_off skips skip ≡ false → (read_block (is_some skip) (behind_comments signs)).long ≡ true → IsLong skips (before ++ (head ++ signs))
behind_head skips before head signs skip all is-skip on e = go (block_is_long (is_some skip) (behind_comments signs) e)
  where
    go : LongBehind (behind_comments signs) → IsLong skips (before ++ (head ++ signs))
    go (front, letter, rest, words, is, are, letter-is, begins) = record {
      before = before;
      head = head;
      between = comments_before signs;
      front = front;
      letter = letter;
      rest = rest;
      skip = skip;
      words = words;
      signs_are = ap (λ (ss : List Sign). before ++ (head ++ ss)) (comments_split signs ∙ ap (λ (ss : List Sign). comments_before signs ++ ss) is);
      before_are = all;
      head_is = is-skip;
      on = on;
      between_are = comments_all signs;
      words_are = are;
      letter_is = letter-is;
      long = begins;
    }

long_behind_comments : (skips : ℕ) (before behind : List Sign) → list_all is_comment before ≡ true → (read_head behind).long ≡ true → is_skipped skips (switch_of behind) ≡ false → IsLong skips (before ++ behind)
unfolding read_head
long_behind_comments skips before [] all e on = absurd cc
long_behind_comments skips before (sign ∷ rest) all e on = go (sign.byte == 47) refl e on
  where
    go : (t : Bool) → (sign.byte == 47) ≡ t → (read_block (is_some (switch_of (sign ∷ rest))) (behind_comments (behind_switch (sign ∷ rest)))).long ≡ true → is_skipped skips (switch_of (sign ∷ rest)) ≡ false → IsLong skips (before ++ (sign ∷ rest))
    go false s h on = behind_head skips before [] (sign ∷ rest) None all none refl (rw s at h)
    go true s h on = digit rest (rw s at h) (rw s at on)
      where
        digit : (more : List Sign) → (read_block true (behind_comments (behind_digit more))).long ≡ true → is_skipped skips (Some (switch_behind more)) ≡ false → IsLong skips (before ++ (sign ∷ more))
        digit [] h on = behind_head skips before (sign ∷ []) [] (Some 1) all (alone sign (eqb-true sign.byte 47 s)) on h
        digit (d ∷ more) h on = at (is_switch d.byte) refl h on
          where
            at : (t : Bool) → is_switch d.byte ≡ t → (read_block true (behind_comments (cond t more (d ∷ more)))).long ≡ true → is_skipped skips (Some (cond t (d.byte - 48) 1)) ≡ false → IsLong skips (before ++ (sign ∷ (d ∷ more)))
            at true f h on = let p = digit_is d.byte f in behind_head skips before (sign ∷ (d ∷ [])) more (Some (d.byte - 48)) all (named sign d (d.byte - 48) (eqb-true sign.byte 47 s) p.0 p.1.0 p.1.1) on h
            at false f h on = behind_head skips before (sign ∷ []) (d ∷ more) (Some 1) all (alone sign (eqb-true sign.byte 47 s)) on h

-- a line that is long to the reader and not skipped has such a number by the grammar
pub long_found : (skips : ℕ) (line : Line) → (reading line).long ≡ true → is_off skips line ≡ false → HasLongNumber skips line
long_found skips line e on =
    let signs : List Sign = (scan line).list in
    let P : List Sign → Type 0 = IsLong skips in
    (signs, the_signs line, subst P (sym (comments_split signs)) (long_behind_comments skips (comments_before signs) (behind_comments signs) (comments_all signs) e on))
