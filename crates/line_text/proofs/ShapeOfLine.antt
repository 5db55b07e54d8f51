-- What a line of a tape says, if nothing by itself refuses it, has the shape of a block or of an O
-- number (`IsSaid`), and its texts are no longer than the line. The first facts are on lengths,
-- then come numbers, words and statements, as a line is read.
use Rattle.std.proofs.Common.{◌≡◌, ℕ, ◌+◌, ◌-◌, ◌≤◌, ◌==◌, Bool, true, false, cond, not, ◌&&◌, ltb, leb, List, [], ◌∷◌, length, take, drop, map, filter, get_or, slice_index, Option, Some, None, is_some, Result, Ok, Err, refl, sym, subst, ◌∙◌, arith, ℤ, pos, negsuc}
use Rattle.std.specs.Prelude.{All, IfSome}
use Rattle.std.specs.Char.{is_ascii_uppercase}
use Rattle.std.specs.List.{list_any, list_all, prefix_len, suffix_len, position_or_len}
use Rattle.std.proofs.lemmas.Bool.{true≢false, eqb-true, eq-eqb, leb-true, or_parts, not-false}
use Rattle.std.proofs.lemmas.List.Sums.{prefix_len_passes}
use Rattle.std.proofs.lemmas.List.{length-map, length-drop, length-take}
use Rattle.std.proofs.lemmas.List.Elements.{All-nil, All-cons, All-head, All-tail, All-map}
use Rattle.nc_number.specs.declared.literal.Literal.{Literal}
use Rattle.nc_number.specs.declared.fault.NumberFault.{NumberFault}
use Rattle.nc_number.specs.Arithmetic.{whole_of}
use Rattle.nc_number.specs.Literals.{is_literal, word_literal}
use Rattle.nc_number.proofs.Bools.{both}
use Rattle.line_text.specs.declared.sign.Sign.{Sign}
use Rattle.line_text.specs.declared.piece.Piece.{Piece}
use Rattle.line_text.specs.declared.body.Word.{Word}
use Rattle.line_text.specs.declared.body.Body.TheVariants.{Words}
use Rattle.line_text.specs.declared.said.Said.{Said}
use Rattle.line_text.specs.declared.said.Said.TheVariants as said
use Rattle.line_text.specs.declared.said.Reading.{Reading}
use Rattle.line_text.specs.Signs.{Scan, is_blank, add_sign, inside_behind, scan_of, without_last, without_return, without_blanks, content_of, signs_of, are_allowed}
use Rattle.line_text.specs.Pieces.{Group, Cut, is_comment, depth_behind, begins_word, add_to_cut, cut_at, bytes_of, value_part, piece_of, pieces_of, value_len}
use Rattle.line_text.specs.Front.{behind_comments, switch_of, behind_digit, behind_switch, sentence_of, is_statement, number_part, behind_number, is_numbered, is_number_sign, is_switch}
use Rattle.line_text.specs.Values.{is_value, number_in, range_of, in_range}
use Rattle.line_text.specs.Said.{is_sequence, is_sound, has_program_letter, stands_alone, sequence_from, word_of, words_of, is_program, program_number, read_pieces, read_words, read_numbered, read_statement, read_block, read_head, said_or_refusal, is_skipped, line_says, numbered_text, numbered_sentence, is_in_range}
use Rattle.line_text.specs.LineShape.{IsWordShape, IsAlone}
use Rattle.line_text.specs.LineShape.{IsSaid}
use Rattle.line_text.proofs.Judged.{judged_ok}

-- Lengths: nothing that is read of a line is longer than the line.

-- whichever of two lists of at most n items is taken has at most n items
cond_len : {A : Type 0} (t : Bool) (a b : List A) (n : ℕ) → length a ≤ n → length b ≤ n → length (cond t a b) ≤ n
cond_len true a b n p q = p
cond_len false a b n p q = q

-- the first items of a list are no more than all
take_len : {A : Type 0} (n : ℕ) (xs : List A) → length (take n xs) ≤ length xs
take_len n xs = let e = length-take n xs in omega arith

-- the last items of a list are no more than all
drop_len : {A : Type 0} (n : ℕ) (xs : List A) → length (drop n xs) ≤ length xs
drop_len n xs = let e = length-drop n xs in omega arith

-- the items that pass a test are no more than all
filter_len : {A : Type 0} (p : A → Bool) (xs : List A) → length (filter p xs) ≤ length xs
filter_len p [] = omega arith
filter_len p (x ∷ xs) = let later = filter_len p xs in cond_len (p x) (x ∷ filter p xs) (filter p xs) (length (x ∷ xs)) (omega arith) (omega arith)

-- a line without its last byte is no longer
without_last_len : (b : ℕ) (line : List ℕ) → length (without_last b line) ≤ length line
without_last_len b line = let short = take_len (length line - 1) line in cond_len (slice_index line (length line - 1) == b) (take (length line - 1) line) line (length line) short (omega arith)

-- what is read of a line is no longer than the line
content_len : (line : List ℕ) (ended : Bool) → length (content_of line ended) ≤ length line
content_len line ended =
    let return = cond_len ended (without_last 13 line) line (length line) (without_last_len 13 line) (omega arith) in
    let blanks = take_len (length (without_return line ended) - suffix_len is_blank (without_return line ended)) (without_return line ended) in
    let semicolon = without_last_len 59 (without_blanks (without_return line ended)) in omega arith

-- a byte in front adds at most one sign
sign_added : (t : Bool) (place b : ℕ) (scan : Scan) → length (add_sign t place b scan).list ≤ 1 + length scan.list
sign_added true place b scan = omega arith
sign_added false place b scan = omega arith

-- bytes have no more signs than bytes
scan_len : (bs : List ℕ) (inside : Bool) (place : ℕ) → length (scan_of bs inside place).list ≤ length bs
scan_len [] inside place = omega arith
scan_len (b ∷ bs) inside place =
    let rest = scan_of bs (inside_behind inside b) (place + 1) in
    let more = sign_added (not inside && not (is_blank b)) place b rest in
    let later = scan_len bs (inside_behind inside b) (place + 1) in omega arith

-- a line has no more signs than bytes
signs_len : (line : List ℕ) (ended : Bool) → length (signs_of line ended).list ≤ length line
unfolding signs_of
signs_len line ended = let a = scan_len (content_of line ended) false 0 in let b = content_len line ended in omega arith

-- a text without comments is no longer than its signs
sentence_len : (signs : List Sign) → length (sentence_of signs) ≤ length signs
sentence_len signs =
    let mapped = length-map (filter (λ (sign : Sign). not (is_comment sign)) signs) (λ (sign : Sign). sign.byte) in
    let kept = filter_len (λ (sign : Sign). not (is_comment sign)) signs in omega arith

-- Numbers in a range.

-- a number that passes the test of a range is in it
chosen_is : (low high n : ℕ) (t : Bool) → (leb low n && leb n high) ≡ t → IfSome (cond t (Some n) None) (λ k. (low ≤ k) × (k ≤ high))
chosen_is low high n true e = let p = both (leb low n) (leb n high) e in (leb-true low n p.0, leb-true n high p.1)
chosen_is low high n false e = tt

-- what is found in a range is in it
in_range_is : (low high : ℕ) (n : Option ℤ) → IfSome (in_range low high n) (λ k. (low ≤ k) × (k ≤ high))
in_range_is low high None = tt
in_range_is low high (Some (pos n)) = chosen_is low high n (leb low n && leb n high) refl
in_range_is low high (Some (negsuc n)) = tt

-- what a literal reads as, if it is in a range, is in it
range_is : (low high : ℕ) (read : Result Literal NumberFault) → IfSome (range_of low high read) (λ k. (low ≤ k) × (k ≤ high))
range_is low high (Ok literal) = in_range_is low high (whole_of literal.value)
range_is low high (Err fault) = tt

-- the number of a text, if it is in a range, is in it
number_is : (low high : ℕ) (text : List ℕ) → IfSome (number_in low high text) (λ k. (low ≤ k) × (k ≤ high))
unfolding number_in
number_is low high text = range_is low high (word_literal text)

-- a number in a range is at most its upper end
at_most : (n : Option ℕ) (low high : ℕ) → IfSome n (λ k. (low ≤ k) × (k ≤ high)) → IfSome n (λ k. k ≤ high)
at_most None low high h = tt
at_most (Some k) low high h = h.1

-- a sequence number, if there is one, is at most 99,999
abbrev IsSequence : Option ℕ → Type 0
IsSequence n = IfSome n (λ k. k ≤ 99999)

-- the number of N's literal, if it is in range, is at most 99,999
sequence_text : (text : List ℕ) → IsSequence (number_in 0 99999 text)
sequence_text text = at_most (number_in 0 99999 text) 0 99999 (number_is 0 99999 text)

-- whichever of two sequence numbers of at most 99,999 is taken is at most 99,999
either_number : (t : Bool) (a b : Option ℕ) → IsSequence a → IsSequence b → IsSequence (cond t a b)
either_number true a b p q = p
either_number false a b p q = q

-- the last sequence number of a block, if there is one, is at most 99,999
sequence_is : (pieces : List Piece) (before : Option ℕ) → IsSequence before → IsSequence (sequence_from before pieces)
sequence_is [] before h = h
sequence_is (piece ∷ pieces) before h =
    sequence_is pieces (cond (is_sequence piece) (number_in 0 99999 piece.text) before) (either_number (is_sequence piece) (number_in 0 99999 piece.text) before (sequence_text piece.text) h)

-- Words.

-- a letter and a text of at most so many bytes
record IsPiece (most : ℕ) (piece : Piece) : Type 0 where
  -- it begins with a letter, in upper case
  letter : is_ascii_uppercase piece.letter ≡ true
  -- its text has at most that many bytes
  short : length piece.text ≤ most

-- a piece that may stand among the words of a block: its value is whole, and it is no O with a
-- literal
record IsGood (most : ℕ) (piece : Piece) : Type 0 where
  -- it is a letter and a text of at most so many bytes
  piece_is : IsPiece most piece
  -- it has a whole value
  value : is_value piece.text ≡ true
  -- an O (79) has no literal
  program : piece.letter ≡ 79 → is_literal piece.text ≡ false

-- a sign in front adds at most one sign before the first word
lead_added : (t : Bool) (sign : Sign) (cut : Cut) → length (add_to_cut t sign cut).lead ≤ 1 + length cut.lead
lead_added true sign cut = omega arith
lead_added false sign cut = omega arith

-- no more signs stand before the first word than there are
lead_len : (signs : List Sign) (depth : ℕ) → length (cut_at signs depth).lead ≤ length signs
lead_len [] depth = omega arith
lead_len (sign ∷ signs) depth =
    let rest = cut_at signs (depth_behind depth sign.byte) in
    let more = lead_added (begins_word depth sign.byte) sign rest in
    let later = lead_len signs (depth_behind depth sign.byte) in omega arith

-- a word's text is no longer than what stands after its letter
value_len_is : (group : Group) → length (piece_of group).text ≤ length group.value
value_len_is group = let mapped = length-map (value_part group.value) (λ (sign : Sign). sign.byte) in let part = take_len (position_or_len is_comment group.value) group.value in omega arith

-- the group as a piece is a letter and a text of at most so many bytes
abbrev IsGroup : ℕ → Group → Type 0
IsGroup most group = IsPiece most (piece_of group)

-- a sign in front of a cut keeps each of its groups a letter and a short text
group_added : (t : Bool) (most depth : ℕ) (sign : Sign) (cut : Cut) → begins_word depth sign.byte ≡ t → length cut.lead ≤ most → All (IsGroup most) cut.groups → All (IsGroup most) (add_to_cut t sign cut).groups
group_added true most depth sign cut e short all =
    let group : Group = record { letter = sign; value = cut.lead } in
    let text = value_len_is group in
    All-cons (IsGroup most) group cut.groups (record { letter = (both (depth == 0) (is_ascii_uppercase sign.byte) e).1; short = omega arith }) all
group_added false most depth sign cut e short all = all

-- each group of the signs is a letter and a text that is no longer than the signs
groups_are : (most : ℕ) (signs : List Sign) (depth : ℕ) → length signs ≤ most → All (IsGroup most) (cut_at signs depth).groups
groups_are most [] depth short = All-nil (IsGroup most)
groups_are most (sign ∷ signs) depth short =
    let rest = cut_at signs (depth_behind depth sign.byte) in
    let lead = lead_len signs (depth_behind depth sign.byte) in
    group_added (begins_word depth sign.byte) most depth sign rest refl (omega arith) (groups_are most signs (depth_behind depth sign.byte) (omega arith))

-- each word of the signs begins with a letter, and is no longer than the signs
pieces_are : (most : ℕ) (signs : List Sign) → length signs ≤ most → All (IsPiece most) (pieces_of signs)
pieces_are most signs short = All-map (IsPiece most) piece_of (cut_at signs 0).groups (groups_are most signs 0 short)

-- a letter with a whole value that is no sequence number has the shape of a word
word_is : (most : ℕ) (piece : Piece) → IsGood most piece → is_sequence piece ≡ false → IsWordShape most (word_of piece)
word_is most piece good e = record {
  letter = good.piece_is.letter;
  value = good.value;
  short = good.piece_is.short;
  sequence = λ is. let off : (true && is_literal piece.text) ≡ false = rw (eq-eqb piece.letter 78 is) at e in off;
  program = good.program;
}

-- the words of a block have their shape, whether or not the first one is its sequence number
words_first : (t : Bool) (most : ℕ) (piece : Piece) (pieces : List Piece) → is_sequence piece ≡ t → IsGood most piece → All (IsWordShape most) (words_of pieces) → All (IsWordShape most) (map word_of (cond (not t) (piece ∷ filter (λ p. not (is_sequence p)) pieces) (filter (λ p. not (is_sequence p)) pieces)))
words_first true most piece pieces e good all = all
words_first false most piece pieces e good all = All-cons (IsWordShape most) (word_of piece) (words_of pieces) (word_is most piece good e) all

-- the words of a block have their shape, without its sequence numbers
words_are : (most : ℕ) (pieces : List Piece) → All (IsGood most) pieces → All (IsWordShape most) (words_of pieces)
words_are most [] all = All-nil (IsWordShape most)
words_are most (piece ∷ pieces) all = words_first (is_sequence piece) most piece pieces refl (All-head (IsGood most) piece pieces all) (words_are most pieces (All-tail (IsGood most) piece pieces all))

-- whether an O (79) is among the words
abbrev has_o : List Word → Bool
has_o words = list_any (λ word. word.letter == 79) words

-- no O is among the words if none is among the pieces, whether or not the first one counts
no_o_first : (t : Bool) (piece : Piece) (pieces : List Piece) → (piece.letter == 79) ≡ false → has_o (words_of pieces) ≡ false → has_o (map word_of (cond (not t) (piece ∷ filter (λ p. not (is_sequence p)) pieces) (filter (λ p. not (is_sequence p)) pieces))) ≡ false
no_o_first true piece pieces e later = later
no_o_first false piece pieces e later = rw e later

-- no O is among the words if none is among the pieces
no_o : (pieces : List Piece) → has_program_letter pieces ≡ false → has_o (words_of pieces) ≡ false
no_o [] e = refl
no_o (piece ∷ pieces) e = let p = or_parts (piece.letter == 79) (has_program_letter pieces) e in no_o_first (is_sequence piece) piece pieces p.0 (no_o pieces p.1)

-- a block of one word with an O has no sequence number
one_word : (t : Bool) (piece : Piece) → is_sequence piece ≡ t → has_o (map word_of (cond (not t) (piece ∷ []) [])) ≡ true
    → (length (map word_of (cond (not t) (piece ∷ []) [])) ≡ 1) × (sequence_from None (piece ∷ []) ≡ None)
one_word true piece e h = absurd cc
one_word false piece e h = (refl, rw e refl)

-- if an O must stand alone, two or more pieces have none
several : (slash : Bool) (first second : Piece) (pieces : List Piece) → stands_alone slash (first ∷ second ∷ pieces) ≡ true → has_program_letter (first ∷ second ∷ pieces) ≡ false
several slash first second pieces e = go (has_program_letter (first ∷ second ∷ pieces)) refl
  where
    go : (t : Bool) → has_program_letter (first ∷ second ∷ pieces) ≡ t → t ≡ false
    go false h = refl
    go true h =
        let alone : (not slash && (length (first ∷ second ∷ pieces) == 1)) ≡ true = rw h at e in
        let one : length (first ∷ second ∷ pieces) ≡ 1 = eqb-true (length (first ∷ second ∷ pieces)) 1 (both (not slash) (length (first ∷ second ∷ pieces) == 1) alone).1 in absurd (omega arith)

-- a block that is allowed has nothing beside a computed O
alone_is : (slash : Bool) (pieces : List Piece) → stands_alone slash pieces ≡ true → IsAlone (sequence_from None pieces) (words_of pieces)
alone_is slash [] e h = absurd cc
alone_is slash (piece ∷ []) e h = one_word (is_sequence piece) piece refl h
alone_is slash (first ∷ second ∷ pieces) e h =
    let bad : false ≡ true = sym (no_o (first ∷ second ∷ pieces) (several slash first second pieces e)) ∙ h in absurd cc

-- an O that is no program's number has no literal
one_program : (slash : Bool) (piece : Piece) → stands_alone slash (piece ∷ []) ≡ true → is_program slash (piece ∷ []) ≡ false → piece.letter ≡ 79 → is_literal piece.text ≡ false
one_program true piece e off is = let bad : false ≡ true = rw (eq-eqb piece.letter 79 is) at e in absurd cc
one_program false piece e off is = rw (eq-eqb piece.letter 79 is) at off

-- if no piece has an O, no O has a literal
no_letter : (pieces : List Piece) → has_program_letter pieces ≡ false → All (λ (p : Piece). p.letter ≡ 79 → is_literal p.text ≡ false) pieces
no_letter [] e = All-nil (λ (p : Piece). p.letter ≡ 79 → is_literal p.text ≡ false)
no_letter (piece ∷ pieces) e =
    let p = or_parts (piece.letter == 79) (has_program_letter pieces) e in
    All-cons (λ (q : Piece). q.letter ≡ 79 → is_literal q.text ≡ false) piece pieces (λ is. let bad : true ≡ false = sym (eq-eqb piece.letter 79 is) ∙ p.0 in absurd cc) (no_letter pieces p.1)

-- if the pieces of an allowed block are no O number, no O among them has a literal
programs_are : (slash : Bool) (pieces : List Piece) → stands_alone slash pieces ≡ true → is_program slash pieces ≡ false → All (λ (p : Piece). p.letter ≡ 79 → is_literal p.text ≡ false) pieces
programs_are slash [] e off = All-nil (λ (p : Piece). p.letter ≡ 79 → is_literal p.text ≡ false)
programs_are slash (piece ∷ []) e off = All-cons (λ (q : Piece). q.letter ≡ 79 → is_literal q.text ≡ false) piece [] (one_program slash piece e off) (All-nil (λ (p : Piece). p.letter ≡ 79 → is_literal p.text ≡ false))
programs_are slash (first ∷ second ∷ pieces) e off = no_letter (first ∷ second ∷ pieces) (several slash first second pieces e)

-- What is read of the words of a block.

-- the O number that pieces write, if it is in its range, is from 1 to 9,999
program_said : (most : ℕ) (slash : Bool) (pieces : List Piece) → IsSaid most (said.Program (program_number pieces))
program_said most slash [] = tt
program_said most slash (piece ∷ pieces) = some (number_in 1 9999 piece.text) (number_is 1 9999 piece.text)
  where
    some : (n : Option ℕ) → IfSome n (λ k. (1 ≤ k) × (k ≤ 9999)) → IsSaid most (said.Program n)
    some None h = tt
    some (Some n) h = h

-- if no piece stands after the sound ones at the front, all pieces are sound
sound_all : (pieces : List Piece) → ltb (prefix_len is_sound pieces) (length pieces) ≡ false → All (λ (p : Piece). is_sound p ≡ true) pieces
sound_all pieces e i d h = let all : length pieces ≤ prefix_len is_sound pieces = grind arith in prefix_len_passes is_sound pieces i d (omega arith)

-- words with whole values say a program or a block of the right shape
said_first : (t : Bool) (most : ℕ) (slash : Bool) (pieces : List Piece) → is_program slash pieces ≡ t → All (IsPiece most) pieces → All (λ (p : Piece). is_sound p ≡ true) pieces → stands_alone slash pieces ≡ true
    → IsSaid most (cond t (said.Program (program_number pieces)) (said.Block (record { sequence = sequence_from None pieces; in_range = list_all is_in_range pieces; body = Words (words_of pieces) })))
said_first true most slash pieces e are sound alone = program_said most slash pieces
said_first false most slash pieces e are sound alone = record {
  sequence_is = sequence_is pieces None tt;
  body_is = (
    words_are most pieces (λ i d h. record { piece_is = are i d h; value = (both (get_or pieces i d).whole (is_value (get_or pieces i d).text) (sound i d h)).1; program = programs_are slash pieces alone e i d h }),
    alone_is slash pieces alone,
  );
}

-- if the reading is not broken, what it says has the right shape
abbrev IsRead : ℕ → Reading → Type 0
IsRead most reading = reading.broken ≡ false → IsSaid most reading.said

-- a block of words, already cut, says something of the right shape
pieces_read : (most : ℕ) (slash : Bool) (pieces : List Piece) → All (IsPiece most) pieces → IsRead most (read_pieces slash pieces)
pieces_read most slash pieces are whole =
    let p = or_parts (ltb (prefix_len is_sound pieces) (length pieces)) (not (stands_alone slash pieces)) whole in
    said_first (is_program slash pieces) most slash pieces refl are (sound_all pieces p.0) (not-false (stands_alone slash pieces) p.1)

-- a block of words says something of the right shape
words_read : (most : ℕ) (slash : Bool) (signs : List Sign) → length signs ≤ most → IsRead most (read_words slash signs)
unfolding read_words
words_read most slash signs short = go (value_len signs 0 == 0)
  where
    go : (t : Bool) → IsRead most (cond t (read_pieces slash (pieces_of signs)) (record { long = false; broken = true; said = said.Nothing }))
    go true = pieces_read most slash (pieces_of signs) (pieces_are most signs short)
    go false = λ whole. absurd (true≢false whole)

-- Statements.

-- a statement after N and a literal is one, and no longer than the line
numbered_is : (signs : List Sign) → is_numbered signs ≡ true → (is_statement (numbered_sentence signs) ≡ true) × (length (numbered_sentence signs) ≤ length signs)
numbered_is [] e = absurd cc
numbered_is (sign ∷ signs) e =
    let text = sentence_len (behind_number signs) in
    let rest = drop_len (prefix_len is_number_sign signs) signs in
    ((both (sign.byte == 78 && is_literal (bytes_of (number_part signs))) (is_statement (sentence_of (behind_number signs))) e).1, omega arith)

-- a statement after N says something of the right shape
numbered_read : (most : ℕ) (signs : List Sign) → is_numbered signs ≡ true → length signs ≤ most → IsRead most (read_numbered signs)
unfolding read_numbered
numbered_read most signs e short whole =
    let p = numbered_is signs e in
    let text = p.1 in
    let fits : length (numbered_sentence signs) ≤ most = omega arith in
    record { sequence_is = sequence_text (numbered_text signs); body_is = (p.0, fits) }

-- a statement without N says something of the right shape
statement_read : (most : ℕ) (signs : List Sign) → is_statement (sentence_of signs) ≡ true → length signs ≤ most → IsRead most (read_statement signs)
unfolding read_statement
statement_read most signs e short whole =
    let text = sentence_len signs in
    let fits : length (sentence_of signs) ≤ most = omega arith in
    record { sequence_is = tt; body_is = (e, fits) }

-- any block after its skip sign says something of the right shape
block_read : (most : ℕ) (slash : Bool) (signs : List Sign) → length signs ≤ most → IsRead most (read_block slash signs)
unfolding read_block
block_read most slash signs short = go (is_numbered signs) refl (is_statement (sentence_of signs)) refl
  where
    go : (t : Bool) → is_numbered signs ≡ t → (u : Bool) → is_statement (sentence_of signs) ≡ u → IsRead most (cond t (read_numbered signs) (cond u (read_statement signs) (read_words slash signs)))
    go true e u f = numbered_read most signs e short
    go false e true f = statement_read most signs f short
    go false e false f = words_read most slash signs short

-- A whole line.

-- after a skip sign no more signs are left than before it
behind_len : (signs : List Sign) → length (behind_switch signs) ≤ length signs
behind_len [] = omega arith
behind_len (sign ∷ signs) =
    let digit = digit_len signs in cond_len (sign.byte == 47) (behind_digit signs) (sign ∷ signs) (length (sign ∷ signs)) (omega arith) (omega arith)
  where
    digit_len : (rest : List Sign) → length (behind_digit rest) ≤ length rest
    digit_len [] = omega arith
    digit_len (digit ∷ rest) = cond_len (is_switch digit.byte) rest (digit ∷ rest) (length (digit ∷ rest)) (omega arith) (omega arith)

-- any line after its first comments says something of the right shape
head_read : (most : ℕ) (signs : List Sign) → length signs ≤ most → IsRead most (read_head signs)
unfolding read_head
head_read most [] short = λ whole. tt
head_read most (sign ∷ signs) short =
    let a = behind_len (sign ∷ signs) in
    let b = drop_len (prefix_len is_comment (behind_switch (sign ∷ signs))) (behind_switch (sign ∷ signs)) in
    block_read most (is_some (switch_of (sign ∷ signs))) (behind_comments (behind_switch (sign ∷ signs))) (omega arith)

-- what is said of a line that isn't refused has the right shape
judged_said : (most : ℕ) (skipped allowed unclosed : Bool) (reading : Reading) (says : Said) → IsRead most reading → said_or_refusal skipped allowed unclosed reading ≡ Ok says → IsSaid most says
judged_said most skipped allowed unclosed reading says is e =
    let read = judged_ok skipped allowed unclosed reading says e in
    let P : Said → Type 0 = IsSaid most in
    subst P (sym read.says_is) (go skipped (is read.whole))
  where
    go : (test : Bool) → IsSaid most reading.said → IsSaid most (cond test said.Nothing reading.said)
    go true shape = tt
    go false shape = shape

-- what a line of at most so many bytes says has its shape (`IsSaid`)
pub line_said : (most skips : ℕ) (line : List ℕ) (ended : Bool) (says : Said) → length line ≤ most → line_says skips line ended ≡ Ok says → IsSaid most says
unfolding line_says
line_said most skips line ended says short e =
    let scan = signs_of line ended in
    let a = signs_len line ended in
    let b = drop_len (prefix_len is_comment scan.list) scan.list in
    judged_said most (is_skipped skips (switch_of (behind_comments scan.list))) (are_allowed scan.list) scan.unclosed (read_head (behind_comments scan.list)) says (head_read most (behind_comments scan.list) (omega arith)) e
