-- What a line between the `%` lines of a tape says, and what makes it unreadable.
use Rattle.std.specs.Prelude.{◌≡◌, ℕ, ◌<◌, ◌+◌, ◌/◌, ◌%◌, ◌^◌, Bool, true, false, not, ◌&&◌, ◌||◌, ◌==◌, nat_lt, List, [], ◌∷◌, length, map, filter, take, All, Option, Some, None, Result, Ok, Err, is_some, if◌then◌else◌}
use Rattle.std.specs.List.{list_all, list_any, prefix_len}
use Rattle.std.specs.Global.{Vec}
use Rattle.nc_number.specs.declared.limits.TheConstants.{LAST_SEQUENCE}
use Rattle.nc_number.specs.Literals.{is_literal, has_too_many_digits}
use Rattle.line_text.specs.declared.sign.Sign.{Sign}
use Rattle.line_text.specs.declared.piece.Piece.{Piece}
use Rattle.line_text.specs.declared.body.Word.{Word}
use Rattle.line_text.specs.declared.body.Body.TheVariants.{Words, Statement}
use Rattle.line_text.specs.declared.refusal.Refusal.{Refusal}
use Rattle.line_text.specs.declared.refusal.Refusal.TheVariants.{TooManyDigits, BadCharacter, NoNumber, OpenComment}
use Rattle.line_text.specs.declared.said.Said.{Said}
use Rattle.line_text.specs.declared.said.Said.TheVariants as said
use Rattle.line_text.specs.declared.said.Reading.{Reading}
use Rattle.line_text.specs.Signs.{Scan, are_allowed, signs_of}
use Rattle.line_text.specs.Pieces.{bytes_of, pieces_of, value_len}
use Rattle.line_text.specs.Front.{behind_comments, switch_of, behind_switch, sentence_of, is_statement, is_numbered, number_part, behind_number}
use Rattle.line_text.specs.Values.{is_value, number_in, has_long_front}

-- the text of each piece is shorter than 2 ^ 32 bytes, as the code needs it to count brackets
abbrev pub AreShort : List Piece → Type 0
AreShort pieces = All (λ piece. length piece.text < 2 ^ 32) pieces

-- whether the piece is a sequence number: an N (78) with a literal
abbrev pub is_sequence : Piece → Bool
is_sequence piece = piece.letter == 78 && is_literal piece.text

-- whether the piece is a letter with a whole value
abbrev pub is_sound : Piece → Bool
is_sound piece = piece.whole && is_value piece.text

-- whether the piece is an N or an O whose value begins with a literal of too many digits; what
-- follows the literal is not asked
abbrev pub is_long : Piece → Bool
is_long piece = (piece.letter == 78 || piece.letter == 79) && has_long_front piece.text

-- whether an O stands among the pieces, with whatever value
abbrev pub has_program_letter : List Piece → Bool
has_program_letter pieces = list_any (λ piece. piece.letter == 79) pieces

-- whether there is no O word, or it is the only word and no skip sign stands before it; the flag
-- says whether there is a skip sign
abbrev pub stands_alone : Bool → List Piece → Bool
stands_alone slash pieces = not (has_program_letter pieces) || (not slash && length pieces == 1)

-- the number of the last piece that is a sequence number (none if out of range), or what it was
-- before, if no piece is one
abbrev pub sequence_from : Option ℕ → List Piece → Option ℕ
sequence_from before [] = before
sequence_from before (piece ∷ pieces) = sequence_from (if is_sequence piece then number_in 0 LAST_SEQUENCE piece.text else before) pieces

-- whether a piece is in range: a sequence number is from 0 to 99,999; any other word always is here
abbrev pub is_in_range : Piece → Bool
is_in_range piece = not (is_sequence piece) || is_some (number_in 0 LAST_SEQUENCE piece.text)

-- a piece as a word of a block, without the note whether it is whole
abbrev pub word_of : Piece → Word
word_of piece = record { letter = piece.letter; start = piece.start; end = piece.end; text = piece.text }

-- the words of a block, without its sequence numbers
abbrev pub words_of : List Piece → List Word
words_of pieces = map word_of (filter (λ piece. not (is_sequence piece)) pieces)

-- whether the pieces are an O (79) with a literal, alone in its block and without a skip sign
abbrev pub is_program : Bool → List Piece → Bool
is_program slash [] = false
is_program slash (piece ∷ pieces) = ((not slash && length pieces == 0) && piece.letter == 79) && is_literal piece.text

-- the O number that the first piece writes: from 1 to 9,999, or none if it is out of that range
abbrev pub program_number : List Piece → Option ℕ
program_number [] = None
program_number (piece ∷ pieces) = number_in 1 9999 piece.text

-- what pieces say: an O number if they are one, else a block of their words; the flag says whether
-- there is a skip sign
abbrev pub said_by : Bool → List Piece → Said
said_by slash pieces =
    if is_program slash pieces then said.Program (program_number pieces)
    else said.Block (record { sequence = sequence_from None pieces; in_range = list_all is_in_range pieces; body = Words (words_of pieces) })

-- How pieces read: the first one that is not sound breaks the block, as an O that is not alone
-- does. Too many digits count only up to and in the first piece that is not sound. The flag says
-- whether there is a skip sign.
abbrev pub read_pieces : Bool → List Piece → Reading
read_pieces slash pieces = record {
  long = list_any is_long (take (prefix_len is_sound pieces + 1) pieces);
  broken = nat_lt (prefix_len is_sound pieces) (length pieces) || not (stands_alone slash pieces);
  said = said_by slash pieces;
}

-- how a block reads in which something stands before its first letter: broken
abbrev pub broken_reading : Reading
broken_reading = record { long = false; broken = true; said = said.Nothing }

-- how the signs of a block of words read; the flag says whether there is a skip sign
unfoldable pub read_words : Bool → List Sign → Reading
read_words slash signs = if value_len signs 0 == 0 then read_pieces slash (pieces_of signs) else broken_reading

-- the bytes after the first sign that can belong to a literal: the literal after N, if the signs
-- are a statement with a sequence number
abbrev pub numbered_text : List Sign → List ℕ
numbered_text [] = []
numbered_text (sign ∷ signs) = bytes_of (number_part signs)

-- the text after the first sign and the bytes that can belong to its literal: the statement, if the
-- signs are one with a sequence number
abbrev pub numbered_sentence : List Sign → List ℕ
numbered_sentence [] = []
numbered_sentence (sign ∷ signs) = sentence_of (behind_number signs)

-- how a statement with a sequence number reads
unfoldable pub read_numbered : List Sign → Reading
read_numbered signs = record {
  long = has_too_many_digits (numbered_text signs);
  broken = false;
  said = said.Block (record { sequence = number_in 0 LAST_SEQUENCE (numbered_text signs); in_range = is_some (number_in 0 LAST_SEQUENCE (numbered_text signs)); body = Statement (numbered_sentence signs) });
}

-- how a statement without a sequence number reads
unfoldable pub read_statement : List Sign → Reading
read_statement signs = record {
  long = false;
  broken = false;
  said = said.Block (record { sequence = None; in_range = true; body = Statement (sentence_of signs) });
}

-- how a block reads after its skip sign; the flag says whether there was one
unfoldable pub read_block : Bool → List Sign → Reading
read_block slash signs =
    if is_numbered signs then read_numbered signs
    else (if is_statement (sentence_of signs) then read_statement signs else read_words slash signs)

-- how a line without a block reads
abbrev pub no_block : Reading
no_block = record { long = false; broken = false; said = said.Nothing }

-- whether a block with this switch, or without a skip sign, is skipped: bit n of skips is switch n
abbrev pub is_skipped : ℕ → Option ℕ → Bool
is_skipped skips None = false
is_skipped skips (Some switch) = (skips / 2 ^ switch) % 2 == 1

-- The least refusal of a line by itself, or what the line says, by how it reads. The flags say
-- whether its block is skipped, whether all its signs are allowed, and whether it ends inside a
-- comment. A skipped block says nothing; too many digits do not refuse it, its other faults do.
abbrev pub said_or_refusal : Bool → Bool → Bool → Reading → Result Said Refusal
said_or_refusal skipped allowed unclosed reading =
    if reading.long && not skipped then Err TooManyDigits
    else (if not allowed then Err BadCharacter
    else (if reading.broken then Err NoNumber
    else (if unclosed then Err OpenComment
    else (if skipped then Ok said.Nothing
    else Ok reading.said))))

-- how the signs after the first comments of a line read: as a block with or without a skip sign, or
-- as no block
unfoldable pub read_head : List Sign → Reading
read_head [] = no_block
read_head (sign ∷ signs) = read_block (is_some (switch_of (sign ∷ signs))) (behind_comments (behind_switch (sign ∷ signs)))

-- what the signs of a line say, or the least refusal; bit n of skips is switch n
abbrev pub judged_signs : ℕ → Scan → Result Said Refusal
judged_signs skips scan =
    said_or_refusal (is_skipped skips (switch_of (behind_comments scan.list))) (are_allowed scan.list) scan.unclosed (read_head (behind_comments scan.list))

-- What a line says, or its least refusal by itself: the definition that `read_line` computes and
-- nc_text's `tape_of` is built on. The flag says whether a line feed ends the line.
unfoldable pub line_says : ℕ → List ℕ → Bool → Result Said Refusal
line_says skips line ended = judged_signs skips (signs_of line ended)

-- an answer of the code: the literal and the text of a statement with a sequence number, or none
-- if the signs are no such statement
abbrev pub IsNumbered : List Sign → Option (Vec ℕ × Vec ℕ) → Type 0
IsNumbered signs None = is_numbered signs ≡ false
IsNumbered signs (Some found) = (is_numbered signs ≡ true) × (found.0.items ≡ numbered_text signs) × (found.1.items ≡ numbered_sentence signs) × (is_literal found.0.items ≡ true)

-- a statement as a reading; it is never broken here, because macro_expr reads its text
abbrev pub statement_reading : Option ℕ → Bool → List ℕ → Bool → Reading
statement_reading number in_range text long = record {
  long = long;
  broken = false;
  said = said.Block (record { sequence = number; in_range = in_range; body = Statement text });
}
