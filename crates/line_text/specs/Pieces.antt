-- The words that the signs of a line of a tape are cut into: each letter outside square brackets
-- begins one. Src/cut.rt answers with these functions.
use Rattle.std.specs.Prelude.{ℕ, ◌+◌, ◌-◌, Bool, true, false, ◌&&◌, ◌==◌, List, [], ◌∷◌, length, map, drop, if◌then◌else◌}
use Rattle.std.specs.Char.{is_ascii_uppercase}
use Rattle.std.specs.List.{list_all, before_first}
use Rattle.line_text.specs.declared.sign.Sign.{Sign}
use Rattle.line_text.specs.declared.piece.Piece.{Piece}

-- whether a sign stands for a comment, of which only the opening bracket (40) is a sign
abbrev pub is_comment : Sign → Bool
is_comment sign = sign.byte == 40

-- a letter outside square brackets, and what stands after it up to the next such letter
pub record Group : Type 0 where
  -- the letter
  pub letter : Sign
  -- what stands after it
  pub value : List Sign

-- what stands before the first letter outside brackets, and the groups from there on
pub record Cut : Type 0 where
  -- what stands before the first letter outside brackets
  pub lead : List Sign
  -- the letters and what stands after them
  pub groups : List Group

-- how many square brackets are open after the byte b, if so many were before: 91 opens one, 93
-- closes one if one is open
abbrev pub depth_behind : ℕ → ℕ → ℕ
depth_behind depth b = if b == 91 then depth + 1 else (if b == 93 then depth - 1 else depth)

-- whether the byte b begins a word, if `depth` square brackets are open: it is a letter, and none
-- is open
abbrev pub begins_word : ℕ → ℕ → Bool
begins_word depth b = depth == 0 && is_ascii_uppercase b

-- a cut with one sign more in front; the flag says whether the sign begins a word, else it stands
-- before the first word
abbrev pub add_to_cut : Bool → Sign → Cut → Cut
add_to_cut true sign cut = record { lead = []; groups = record { letter = sign; value = cut.lead } ∷ cut.groups }
add_to_cut false sign cut = record { lead = sign ∷ cut.lead; groups = cut.groups }

-- how signs are cut, if so many square brackets are open before them
abbrev pub cut_at : List Sign → ℕ → Cut
cut_at [] depth = record { lead = []; groups = [] }
cut_at (sign ∷ signs) depth = add_to_cut (begins_word depth sign.byte) sign (cut_at signs (depth_behind depth sign.byte))

-- the bytes of signs, without their places
abbrev pub bytes_of : List Sign → List ℕ
bytes_of signs = map (λ sign. sign.byte) signs

-- the place after the last sign, or this place if there is no sign
abbrev pub end_of : ℕ → List Sign → ℕ
end_of place [] = place
end_of place (sign ∷ signs) = end_of (sign.place + 1) signs

-- the signs of a value up to its first comment
abbrev pub value_part : List Sign → List Sign
value_part value = before_first is_comment value

-- a group as a piece: a word whose value is not yet checked. It is whole if nothing but comments
-- stands after its value.
abbrev pub piece_of : Group → Piece
piece_of group = record {
  letter = group.letter.byte;
  start = group.letter.place + 1;
  end = end_of (group.letter.place + 1) (value_part group.value);
  text = bytes_of (value_part group.value);
  whole = list_all is_comment (drop (length (value_part group.value)) group.value);
}

-- the words of the signs, not yet checked; what stands before the first letter is none of them
abbrev pub pieces_of : List Sign → List Piece
pieces_of signs = map piece_of (cut_at signs 0).groups

-- how many signs stand before the next letter outside square brackets, if so many are open
abbrev pub value_len : List Sign → ℕ → ℕ
value_len [] depth = 0
value_len (sign ∷ signs) depth = if begins_word depth sign.byte then 0 else 1 + value_len signs (depth_behind depth sign.byte)
