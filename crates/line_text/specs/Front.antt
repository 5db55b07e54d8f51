-- The head of a block of a tape: comments, the skip sign, N before a statement, and how a statement
-- begins. Src/front.rt answers with these functions.
use Rattle.std.specs.Prelude.{ℕ, ◌-◌, Bool, false, not, ◌&&◌, ◌||◌, ◌==◌, nat_le, nat_eq, codes, List, [], ◌∷◌, filter, take, drop, Option, Some, None, if◌then◌else◌}
use Rattle.std.specs.Char.{is_ascii_digit}
use Rattle.std.specs.List.{prefix_len, starts_with}
use Rattle.nc_number.specs.Literals.{is_literal}
use Rattle.line_text.specs.declared.sign.Sign.{Sign}
use Rattle.line_text.specs.Pieces.{is_comment, bytes_of}

-- the signs from the first one on that is no comment
abbrev pub behind_comments : List Sign → List Sign
behind_comments signs = drop (prefix_len is_comment signs) signs

-- whether a byte is a digit from 1 to 9 (49 to 57), which after a skip sign names its switch
abbrev pub is_switch : ℕ → Bool
is_switch b = nat_le 49 b && nat_le b 57

-- the switch of a skip sign that these signs follow: a digit from 1 to 9 names it, else it is 1 (48
-- is the digit 0)
abbrev pub switch_behind : List Sign → ℕ
switch_behind [] = 1
switch_behind (sign ∷ signs) = if is_switch sign.byte then sign.byte - 48 else 1

-- what stands after the digit that names a switch, if the signs begin with one
abbrev pub behind_digit : List Sign → List Sign
behind_digit [] = []
behind_digit (sign ∷ signs) = if is_switch sign.byte then signs else sign ∷ signs

-- the switch of the skip sign, if the signs begin with one (47 is `/`)
abbrev pub switch_of : List Sign → Option ℕ
switch_of [] = None
switch_of (sign ∷ signs) = if sign.byte == 47 then Some (switch_behind signs) else None

-- what stands after the skip sign (47, `/`) and its digit, if the signs begin with one
abbrev pub behind_switch : List Sign → List Sign
behind_switch [] = []
behind_switch (sign ∷ signs) = if sign.byte == 47 then behind_digit signs else sign ∷ signs

-- the bytes of the signs that are no comments: the text of a statement
abbrev pub sentence_of : List Sign → List ℕ
sentence_of signs = bytes_of (filter (λ sign. not (is_comment sign)) signs)

-- whether a text begins as a statement does; any other text is read as words
abbrev pub is_statement : List ℕ → Bool
is_statement text =
    (starts_with nat_eq text (codes "#") || starts_with nat_eq text (codes "IF") || starts_with nat_eq text (codes "WHILE")) || (starts_with nat_eq text (codes "GOTO") || starts_with nat_eq text (codes "DO") || starts_with nat_eq text (codes "END"))

-- whether a sign can belong to a literal: a digit, the point (46), plus (43) or minus (45)
abbrev pub is_number_sign : Sign → Bool
is_number_sign sign = is_ascii_digit sign.byte || sign.byte == 46 || sign.byte == 43 || sign.byte == 45

-- the first signs that can belong to a literal
abbrev pub number_part : List Sign → List Sign
number_part signs = take (prefix_len is_number_sign signs) signs

-- what stands after the first signs that can belong to a literal
abbrev pub behind_number : List Sign → List Sign
behind_number signs = drop (prefix_len is_number_sign signs) signs

-- whether the signs are N (78) with a literal, and a statement after it
abbrev pub is_numbered : List Sign → Bool
is_numbered [] = false
is_numbered (sign ∷ signs) = (sign.byte == 78 && is_literal (bytes_of (number_part signs))) && is_statement (sentence_of (behind_number signs))
