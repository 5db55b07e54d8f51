-- The bytes of a tape by what they are, and what lies ahead of a byte on its line.
use Rattle.std.specs.Prelude.{ℕ, min, ◌+◌, ◌-◌, ◌*◌, ◌/◌, ◌%◌, ◌^◌, Bool, true, false, not, ◌&&◌, ◌||◌, ◌==◌, nat_le, nat_eq, codes, List, [], ◌∷◌, map, if◌then◌else◌}
use Rattle.std.specs.Char.{is_ascii_digit, is_ascii_uppercase, to_ascii_uppercase}
use Rattle.std.specs.List.{starts_with}

-- whether a byte says nothing between others: a blank (32), a tab (9), a comma (44), which is read as
-- a blank, or a carriage return (13)
abbrev pub is_gap : ℕ → Bool
is_gap b = (b == 32 || b == 9) || (b == 44 || b == 13)

-- whether a byte is what a control punches before a line: a carriage return (13) or a zero byte
abbrev pub is_punch : ℕ → Bool
is_punch b = b == 13 || b == 0

-- whether a byte is a digit from 1 to 9 (49 to 57), which names a switch
abbrev pub is_switch : ℕ → Bool
is_switch b = nat_le 49 b && nat_le b 57

-- whether a byte can belong to a literal: a digit, the point (46), plus (43) or minus (45)
abbrev pub is_number_part : ℕ → Bool
is_number_part b = is_ascii_digit b || (b == 46 || (b == 43 || b == 45))

-- whether a byte is the letter N (78)
abbrev pub is_n : ℕ → Bool
is_n b = to_ascii_uppercase b == 78

-- whether words of a letter may have an index before `=`: of each letter but G (71), L (76), M (77),
-- N (78), O (79), P (80) and Q (81), on which the order of blocks may depend
abbrev pub takes_index : ℕ → Bool
takes_index b =
    is_ascii_uppercase (to_ascii_uppercase b)
    && not (to_ascii_uppercase b == 71 || (nat_le 76 (to_ascii_uppercase b) && nat_le (to_ascii_uppercase b) 81))

-- whether a line feed (10) is ahead
abbrev pub is_feed_ahead : List ℕ → Bool
is_feed_ahead [] = false
is_feed_ahead (b ∷ bs) = b == 10

-- whether a skip sign (47) is ahead, but for gaps
abbrev pub is_sign_ahead : List ℕ → Bool
is_sign_ahead [] = false
is_sign_ahead (b ∷ bs) = if is_gap b then is_sign_ahead bs else b == 47

-- whether behind a skip sign and the digit of its switch, if it has one, another skip sign is ahead
abbrev pub is_other_ahead : List ℕ → Bool
is_other_ahead [] = false
is_other_ahead (b ∷ bs) = if is_gap b then is_other_ahead bs else if is_switch b then is_sign_ahead bs else b == 47

-- the switch of a skip sign: that of the digit ahead, else 1 (48 is the digit 0)
abbrev pub switch_ahead : List ℕ → ℕ
switch_ahead [] = 1
switch_ahead (b ∷ bs) = if is_gap b then switch_ahead bs else if is_switch b then b - 48 else 1

-- whether a switch is on: bit n of skips is switch n
abbrev pub is_on : ℕ → ℕ → Bool
is_on skips switch = (skips / 2 ^ switch) % 2 == 1

-- whether a number is ahead, but for gaps: a digit, a sign or a point
abbrev pub is_number_ahead : List ℕ → Bool
is_number_ahead [] = false
is_number_ahead (b ∷ bs) = if is_gap b then is_number_ahead bs else is_number_part b

-- whether a byte ends a number: it is neither a digit nor a gap
abbrev pub ends_number : ℕ → Bool
ends_number b = not (is_gap b || is_ascii_digit b)

-- how many digits there are with this byte of a number, but for gaps and for zeros (48) before the
-- first other digit
abbrev pub counted : ℕ → ℕ → ℕ
counted count b = if is_gap b || (count == 0 && b == 48) then count else count + 1

-- how many digits are ahead, but for gaps and for zeros before the first other digit, if so many were
-- before
abbrev pub digits_ahead : ℕ → List ℕ → ℕ
digits_ahead count [] = count
digits_ahead count (b ∷ bs) = if ends_number b then count else digits_ahead (counted count b) bs

-- whether the sequence number ahead has six to eight digits, more than the reader of tapes takes
abbrev pub is_long_ahead : List ℕ → Bool
is_long_ahead bs = nat_le 6 (digits_ahead 0 bs) && nat_le (digits_ahead 0 bs) 8

-- the number with this byte of it; a number of four digits and more counts as 1,000 (48 is the digit
-- 0)
abbrev pub number_behind : ℕ → ℕ → ℕ
number_behind number b = if is_gap b then number else min 1000 (number * 10 + (b - 48))

-- the number ahead, but for gaps, if its first digits made this number
abbrev pub number_ahead : ℕ → List ℕ → ℕ
number_ahead number [] = number
number_ahead number (b ∷ bs) = if ends_number b then number else number_ahead (number_behind number b) bs

-- whether a byte begins a call of a program: M98 (77 is M) or G65 (71 is G)
abbrev pub is_call : ℕ → List ℕ → Bool
is_call b bs =
    (to_ascii_uppercase b == 77 && number_ahead 0 bs == 98) || (to_ascii_uppercase b == 71 && number_ahead 0 bs == 65)

-- whether the end of a name (62) is ahead on the line
abbrev pub is_close_ahead : List ℕ → Bool
is_close_ahead [] = false
is_close_ahead (b ∷ bs) = b == 62 || (not (b == 10) && is_close_ahead bs)

-- whether a byte (60) opens the name of a program that is closed on the line
abbrev pub opens_name : ℕ → List ℕ → Bool
opens_name b bs = b == 60 && is_close_ahead bs

-- whether the byte behind an O begins a name, or an O number of five to eight digits
abbrev pub is_name_ahead : List ℕ → Bool
is_name_ahead [] = false
is_name_ahead (b ∷ bs) =
    opens_name b bs || (nat_le 5 (digits_ahead 0 (b ∷ bs)) && nat_le (digits_ahead 0 (b ∷ bs)) 8)

-- whether digits are ahead and `=` (61) behind them
abbrev pub is_index_ahead : List ℕ → Bool
is_index_ahead [] = false
is_index_ahead (b ∷ bs) = if is_ascii_digit b then is_index_ahead bs else b == 61

-- whether a text begins with a word, in upper or lower case
abbrev pub begins : List ℕ → List ℕ → Bool
begins word text = starts_with nat_eq (map to_ascii_uppercase text) word

-- whether a block of this text writes something out, and so says nothing of the order of blocks
abbrev pub is_output : List ℕ → Bool
is_output text =
    (begins (codes "DPRNT") text || begins (codes "BPRNT") text)
    || (begins (codes "POPEN") text || (begins (codes "PCLOS") text || begins (codes "SETVN") text))

-- whether a block of this text is a statement
abbrev pub is_statement : List ℕ → Bool
is_statement text =
    (begins (codes "#") text || (begins (codes "IF") text || begins (codes "WHILE") text))
    || (begins (codes "GOTO") text || (begins (codes "DO") text || begins (codes "END") text))
