-- What a line of a tape says depends on the bytes of its signs; only the places of its words depend
-- on the places of signs. Each lemma in `_bare` says that one step of the reader gives the same
-- with signs or words whose places are 0. For Blanked.
use Rattle.std.proofs.Common.{◌≡◌, ◌==◌, ℕ, ◌+◌, Bool, true, false, cond, not, ◌&&◌, List, [], ◌∷◌, length, map, take, drop, Option, None, refl, sym, ap, ◌∙◌}
use Rattle.std.specs.Prelude.{filter}
use Rattle.std.specs.Option.{is_some}
use Rattle.std.specs.List.{list_all, list_any, prefix_len, position_or_len}
use Rattle.std.proofs.lemmas.List.{length-map, take-map, drop-map}
use Rattle.std.proofs.lemmas.List.Folds.{list_all-map}
use Rattle.std.proofs.lemmas.Simd.{map-map}
use Rattle.nc_number.specs.Literals.{is_literal}
use Rattle.line_text.specs.declared.sign.Sign.{Sign}
use Rattle.line_text.specs.declared.piece.Piece.{Piece}
use Rattle.line_text.specs.declared.body.Body.TheVariants.{Words}
use Rattle.line_text.specs.declared.said.Said.{Said}
use Rattle.line_text.specs.declared.said.Said.TheVariants as said
use Rattle.line_text.specs.declared.said.SaidBlock.{SaidBlock}
use Rattle.line_text.specs.declared.said.Reading.{Reading}
use Rattle.line_text.specs.Signs.{Scan, is_allowed, are_allowed}
use Rattle.line_text.specs.Pieces.{Group, Cut, is_comment, depth_behind, begins_word, add_to_cut, cut_at, bytes_of, value_part, piece_of, pieces_of, value_len}
use Rattle.line_text.specs.Front.{behind_comments, is_switch, switch_of, behind_digit, behind_switch, sentence_of, is_statement, is_number_sign, number_part, behind_number, is_numbered}
use Rattle.line_text.specs.Values.{number_in}
use Rattle.line_text.specs.Said.{is_sequence, is_sound, is_long, has_program_letter, sequence_from, is_in_range, word_of, words_of, is_program, program_number, said_by, read_pieces, broken_reading, read_words, numbered_text, numbered_sentence, read_numbered, read_statement, read_block, is_skipped, said_or_refusal, read_head, judged_signs}
use Rattle.tape_relation.specs.Changed.{without_place}
use Rattle.tape_relation.proofs.Blanks.{IsSameText}
use Rattle.tape_relation.proofs.LineByLine.{changed_said, changed_says}
use Rattle.line_text.proofs.Judged.{least}
use Rattle.tape_relation.proofs.Mapped.{either_map, prefix_same, any_same, filter_same}

-- a sign with the place 0
abbrev unplaced : Sign → Sign
unplaced sign = record { place = 0; byte = sign.byte }

-- signs with the place 0
abbrev bare : List Sign → List Sign
bare signs = map unplaced signs

-- a word with the places 0
abbrev bare_piece : Piece → Piece
bare_piece piece = record piece { start = 0; end = 0 }

-- a reading whose words have the places 0
abbrev bare_reading : Reading → Reading
bare_reading reading = record reading { said = changed_said without_place reading.said }

-- signs have the same bytes without their places
bytes_bare : (signs : List Sign) → bytes_of (bare signs) ≡ bytes_of signs
bytes_bare signs = map-map (λ (sign : Sign). sign.byte) unplaced signs

-- The head of a block: comments, the skip sign, N and its literal, and statements with it or
-- without.
comments_bare : (signs : List Sign) → behind_comments (bare signs) ≡ bare (behind_comments signs)
comments_bare signs = ap (λ (n : ℕ). drop n (bare signs)) (prefix_same unplaced is_comment (λ x. refl) signs) ∙ drop-map unplaced (prefix_len is_comment signs) signs

switch_bare : (signs : List Sign) → switch_of (bare signs) ≡ switch_of signs
switch_bare [] = refl
switch_bare (a ∷ []) = refl
switch_bare (a ∷ b ∷ signs) = refl

digit_bare : (signs : List Sign) → behind_digit (bare signs) ≡ bare (behind_digit signs)
digit_bare [] = refl
digit_bare (sign ∷ signs) = either_map unplaced (is_switch sign.byte) signs (sign ∷ signs)

behind_switch_bare : (signs : List Sign) → behind_switch (bare signs) ≡ bare (behind_switch signs)
behind_switch_bare [] = refl
behind_switch_bare (sign ∷ signs) =
    ap (λ (l : List Sign). cond (sign.byte == 47) l (bare (sign ∷ signs))) (digit_bare signs) ∙ either_map unplaced (sign.byte == 47) (behind_digit signs) (sign ∷ signs)

sentence_bare : (signs : List Sign) → sentence_of (bare signs) ≡ sentence_of signs
sentence_bare signs = ap bytes_of (filter_same unplaced (λ (sign : Sign). not (is_comment sign)) (λ x. refl) signs) ∙ bytes_bare (filter (λ sign. not (is_comment sign)) signs)

number_bare : (signs : List Sign) → bytes_of (number_part (bare signs)) ≡ bytes_of (number_part signs)
number_bare signs =
    (λ i. bytes_of (take (prefix_same unplaced is_number_sign (λ x. refl) signs i) (bare signs))) ∙ ap bytes_of (take-map unplaced (prefix_len is_number_sign signs) signs) ∙ bytes_bare (number_part signs)

behind_number_bare : (signs : List Sign) → sentence_of (behind_number (bare signs)) ≡ sentence_of (behind_number signs)
behind_number_bare signs =
    (λ i. sentence_of (drop (prefix_same unplaced is_number_sign (λ x. refl) signs i) (bare signs))) ∙ ap sentence_of (drop-map unplaced (prefix_len is_number_sign signs) signs) ∙ sentence_bare (behind_number signs)

numbered_bare : (signs : List Sign) → is_numbered (bare signs) ≡ is_numbered signs
numbered_bare [] = refl
numbered_bare (sign ∷ signs) = λ i. (sign.byte == 78 && is_literal (number_bare signs i)) && is_statement (behind_number_bare signs i)

numbered_text_bare : (signs : List Sign) → numbered_text (bare signs) ≡ numbered_text signs
numbered_text_bare [] = refl
numbered_text_bare (sign ∷ signs) = number_bare signs

numbered_sentence_bare : (signs : List Sign) → numbered_sentence (bare signs) ≡ numbered_sentence signs
numbered_sentence_bare [] = refl
numbered_sentence_bare (sign ∷ signs) = behind_number_bare signs

read_numbered_bare : (signs : List Sign) → bare_reading (read_numbered (bare signs)) ≡ bare_reading (read_numbered signs)
unfolding read_numbered
read_numbered_bare signs = rw (numbered_text_bare signs, numbered_sentence_bare signs) refl

read_statement_bare : (signs : List Sign) → bare_reading (read_statement (bare signs)) ≡ bare_reading (read_statement signs)
unfolding read_statement
read_statement_bare signs = rw (sentence_bare signs) refl

-- a letter and the signs after it, with the place 0
abbrev bare_group : Group → Group
bare_group group = record { letter = unplaced group.letter; value = bare group.value }

-- a cut whose signs have the place 0
abbrev bare_cut : Cut → Cut
bare_cut cut = record { lead = bare cut.lead; groups = map bare_group cut.groups }

-- From here to `read_words_bare`: how words are cut, and what they say.
add_bare : (begins : Bool) (sign : Sign) (cut : Cut) → add_to_cut begins (unplaced sign) (bare_cut cut) ≡ bare_cut (add_to_cut begins sign cut)
add_bare true sign cut = refl
add_bare false sign cut = refl

cut_bare : (signs : List Sign) (depth : ℕ) → cut_at (bare signs) depth ≡ bare_cut (cut_at signs depth)
cut_bare [] depth = refl
cut_bare (sign ∷ signs) depth =
    ap (add_to_cut (begins_word depth sign.byte) (unplaced sign)) (cut_bare signs (depth_behind depth sign.byte)) ∙ add_bare (begins_word depth sign.byte) sign (cut_at signs (depth_behind depth sign.byte))

value_len_bare : (signs : List Sign) (depth : ℕ) → value_len (bare signs) depth ≡ value_len signs depth
value_len_bare [] depth = refl
value_len_bare (sign ∷ signs) depth = ap (λ (n : ℕ). cond (begins_word depth sign.byte) 0 (1 + n)) (value_len_bare signs (depth_behind depth sign.byte))

part_bare : (value : List Sign) → value_part (bare value) ≡ bare (value_part value)
part_bare value =
    ap (λ (n : ℕ). take n (bare value)) (prefix_same unplaced (λ (sign : Sign). not (is_comment sign)) (λ x. refl) value) ∙ take-map unplaced (position_or_len is_comment value) value

whole_bare : (value : List Sign) → list_all is_comment (drop (length (value_part (bare value))) (bare value)) ≡ list_all is_comment (drop (length (value_part value)) value)
whole_bare value =
    ap (λ (n : ℕ). list_all is_comment (drop n (bare value))) (ap length (part_bare value) ∙ length-map (value_part value) unplaced)
    ∙ ap (list_all is_comment) (drop-map unplaced (length (value_part value)) value) ∙ list_all-map is_comment unplaced (drop (length (value_part value)) value)

piece_bare : (group : Group) → bare_piece (piece_of (bare_group group)) ≡ bare_piece (piece_of group)
piece_bare group =
    let text : bytes_of (value_part (bare group.value)) ≡ bytes_of (value_part group.value) = ap bytes_of (part_bare group.value) ∙ bytes_bare (value_part group.value) in
    rw (text, whole_bare group.value) refl

groups_bare : (groups : List Group) → map bare_piece (map piece_of (map bare_group groups)) ≡ map bare_piece (map piece_of groups)
groups_bare [] = refl
groups_bare (group ∷ groups) = λ i. piece_bare group i ∷ groups_bare groups i

pieces_bare : (signs : List Sign) → map bare_piece (pieces_of (bare signs)) ≡ map bare_piece (pieces_of signs)
pieces_bare signs = ap (λ (cut : Cut). map bare_piece (map piece_of cut.groups)) (cut_bare signs 0) ∙ groups_bare (cut_at signs 0).groups

sequence_bare : (before : Option ℕ) (pieces : List Piece) → sequence_from before (map bare_piece pieces) ≡ sequence_from before pieces
sequence_bare before [] = refl
sequence_bare before (piece ∷ pieces) = sequence_bare (cond (is_sequence piece) (number_in 0 99999 piece.text) before) pieces

program_bare : (slash : Bool) (pieces : List Piece) → is_program slash (map bare_piece pieces) ≡ is_program slash pieces
program_bare slash [] = refl
program_bare slash (piece ∷ pieces) = ap (λ (n : ℕ). ((not slash && n == 0) && piece.letter == 79) && is_literal piece.text) (length-map pieces bare_piece)

program_number_bare : (pieces : List Piece) → program_number (map bare_piece pieces) ≡ program_number pieces
program_number_bare [] = refl
program_number_bare (piece ∷ pieces) = refl

words_bare : (pieces : List Piece) → words_of (map bare_piece pieces) ≡ map without_place (words_of pieces)
words_bare pieces =
    ap (map word_of) (filter_same bare_piece (λ (piece : Piece). not (is_sequence piece)) (λ x. refl) pieces) ∙ map-map word_of bare_piece (filter (λ piece. not (is_sequence piece)) pieces)
    ∙ sym (map-map without_place word_of (filter (λ piece. not (is_sequence piece)) pieces))

either_said : (test : Bool) (number : Option ℕ) (block : SaidBlock) → cond test (said.Program number) (changed_said without_place (said.Block block)) ≡ changed_said without_place (cond test (said.Program number) (said.Block block))
either_said true number block = refl
either_said false number block = refl

said_bare : (slash : Bool) (pieces : List Piece) → said_by slash (map bare_piece pieces) ≡ changed_said without_place (said_by slash pieces)
said_bare slash pieces =
    let range : list_all is_in_range (map bare_piece pieces) ≡ list_all is_in_range pieces = list_all-map is_in_range bare_piece pieces in
    rw (program_bare slash pieces, program_number_bare pieces, sequence_bare None pieces, range, words_bare pieces)
    (either_said (is_program slash pieces) (program_number pieces) (record { sequence = sequence_from None pieces; in_range = list_all is_in_range pieces; body = Words (words_of pieces) }))

read_pieces_bare : (slash : Bool) (pieces : List Piece) → read_pieces slash (map bare_piece pieces) ≡ bare_reading (read_pieces slash pieces)
read_pieces_bare slash pieces =
    let sound : prefix_len is_sound (map bare_piece pieces) ≡ prefix_len is_sound pieces = prefix_same bare_piece is_sound (λ x. refl) pieces in
    let front : take (prefix_len is_sound pieces + 1) (map bare_piece pieces) ≡ map bare_piece (take (prefix_len is_sound pieces + 1) pieces) = take-map bare_piece (prefix_len is_sound pieces + 1) pieces in
    let long : list_any is_long (map bare_piece (take (prefix_len is_sound pieces + 1) pieces)) ≡ list_any is_long (take (prefix_len is_sound pieces + 1) pieces) = any_same bare_piece is_long (λ x. refl) (take (prefix_len is_sound pieces + 1) pieces) in
    let many : length (map bare_piece pieces) ≡ length pieces = length-map pieces bare_piece in
    let letter : has_program_letter (map bare_piece pieces) ≡ has_program_letter pieces = any_same bare_piece (λ (piece : Piece). piece.letter == 79) (λ x. refl) pieces in
    rw (sound, front, long, many, letter, said_bare slash pieces) refl

read_words_bare : (slash : Bool) (signs : List Sign) → bare_reading (read_words slash (bare signs)) ≡ bare_reading (read_words slash signs)
unfolding read_words
read_words_bare slash signs =
    ap (λ (n : ℕ). bare_reading (cond (n == 0) (read_pieces slash (pieces_of (bare signs))) broken_reading)) (value_len_bare signs 0) ∙ either (value_len signs 0 == 0)
  where
    either : (test : Bool) → bare_reading (cond test (read_pieces slash (pieces_of (bare signs))) broken_reading) ≡ bare_reading (cond test (read_pieces slash (pieces_of signs)) broken_reading)
    either true = sym (read_pieces_bare slash (pieces_of (bare signs))) ∙ ap (read_pieces slash) (pieces_bare signs) ∙ read_pieces_bare slash (pieces_of signs)
    either false = refl

-- a choice of three readings is the same without places if each reading is
choice : (t u : Bool) (a b c d e f : Reading) → bare_reading a ≡ bare_reading d → bare_reading b ≡ bare_reading e → bare_reading c ≡ bare_reading f → bare_reading (cond t a (cond u b c)) ≡ bare_reading (cond t d (cond u e f))
choice true u a b c d e f p q r = p
choice false true a b c d e f p q r = q
choice false false a b c d e f p q r = r

read_block_bare : (slash : Bool) (signs : List Sign) → bare_reading (read_block slash (bare signs)) ≡ bare_reading (read_block slash signs)
unfolding read_block
read_block_bare slash signs =
    (λ i. bare_reading (cond (numbered_bare signs i) (read_numbered (bare signs)) (cond (is_statement (sentence_bare signs i)) (read_statement (bare signs)) (read_words slash (bare signs)))))
    ∙ choice (is_numbered signs) (is_statement (sentence_of signs)) _ _ _ _ _ _ (read_numbered_bare signs) (read_statement_bare signs) (read_words_bare slash signs)

read_head_bare : (signs : List Sign) → bare_reading (read_head (bare signs)) ≡ bare_reading (read_head signs)
unfolding read_head
read_head_bare [] = refl
read_head_bare (sign ∷ signs) =
    let behind = ap behind_comments (behind_switch_bare (sign ∷ signs)) ∙ comments_bare (behind_switch (sign ∷ signs)) in
    (λ i. bare_reading (read_block (is_some (switch_bare (sign ∷ signs) i)) (behind i))) ∙ read_block_bare (is_some (switch_of (sign ∷ signs))) (behind_comments (behind_switch (sign ∷ signs)))

-- From here: a whole line.
least_bare : (t u v w x : Bool) (what : Said) → changed_says without_place (least t u v w x what) ≡ least t u v w x (changed_said without_place what)
least_bare true u v w x what = refl
least_bare false true v w x what = refl
least_bare false false true w x what = refl
least_bare false false false true x what = refl
least_bare false false false false true what = refl
least_bare false false false false false what = refl

judged_bare : (skipped allowed unclosed : Bool) (reading : Reading) → changed_says without_place (said_or_refusal skipped allowed unclosed reading) ≡ said_or_refusal skipped allowed unclosed (bare_reading reading)
judged_bare skipped allowed unclosed reading = least_bare (reading.long && not skipped) (not allowed) reading.broken unclosed skipped reading.said

signs_bare : (skips : ℕ) (signs : List Sign) (unclosed : Bool) → changed_says without_place (judged_signs skips (record { list = signs; unclosed = unclosed })) ≡ changed_says without_place (judged_signs skips (record { list = bare signs; unclosed = unclosed }))
signs_bare skips signs unclosed =
    let head = behind_comments signs in
    let skipped = is_skipped skips (switch_of head) in
    let bare_head : behind_comments (bare signs) ≡ bare head = comments_bare signs in
    let allowed = list_all-map (λ (sign : Sign). is_allowed sign.byte) unplaced signs in
    judged_bare skipped (are_allowed signs) unclosed (read_head head) ∙ (λ i. said_or_refusal skipped (are_allowed signs) unclosed (sym (read_head_bare head) i))
    ∙ sym (judged_bare skipped (are_allowed signs) unclosed (read_head (bare head)))
    ∙ (λ i. changed_says without_place (said_or_refusal (is_skipped skips (sym (switch_bare head) i)) (sym allowed i) unclosed (read_head (bare head))))
    ∙ (λ i. changed_says without_place (said_or_refusal (is_skipped skips (switch_of (sym bare_head i))) (are_allowed (bare signs)) unclosed (read_head (sym bare_head i))))

bare_from_bytes : (xs ys : List Sign) → bytes_of xs ≡ bytes_of ys → bare xs ≡ bare ys
bare_from_bytes xs ys e = sym (map-map at_start (λ (sign : Sign). sign.byte) xs) ∙ ap (map at_start) e ∙ map-map at_start (λ (sign : Sign). sign.byte) ys
  where
    at_start : ℕ → Sign
    at_start b = record { place = 0; byte = b }

-- lines with the same text say the same, or have the same refusal, but for the places of words
pub same_text_says : (skips : ℕ) (a b : Scan) → IsSameText a b → changed_says without_place (judged_signs skips a) ≡ changed_says without_place (judged_signs skips b)
same_text_says skips a b same =
    signs_bare skips a.list a.unclosed
    ∙ (λ i. changed_says without_place (judged_signs skips (record { list = bare_from_bytes a.list b.list same.bytes i; unclosed = same.unclosed i }))) ∙ sym (signs_bare skips b.list b.unclosed)
