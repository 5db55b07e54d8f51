-- A text whose statements that print or write a file are comments. src/lines.rt makes it. 9 is the tab,
-- 10 the line feed, 13 the carriage return, 32 the blank, 40 and 41 the brackets of a comment, 47 the
-- skip sign, 78 the letter N.
use Rattle.std.specs.Prelude.{ℕ, Bool, not, ◌&&◌, ◌||◌, ◌==◌, nat_eq, List, [], ◌∷◌, ◌++◌, take, drop, codes, if◌then◌else◌}
use Rattle.std.specs.Char.{is_ascii_digit}
use Rattle.std.specs.List.{prefix_len, starts_with}

-- a byte may stand before such a statement
abbrev pub is_front : ℕ → Bool
is_front b = b == 32 || b == 9 || b == 47 || b == 78 || is_ascii_digit b

-- a byte belongs to the statement
abbrev pub is_told : ℕ → Bool
is_told b = not (b == 40) && not (b == 13)

-- what stands on a line begins with one of the words of such statements
abbrev pub is_output : List ℕ → Bool
is_output rest =
    starts_with nat_eq rest (codes "DPRNT") || starts_with nat_eq rest (codes "BPRNT") || starts_with nat_eq rest (codes "POPEN") || starts_with nat_eq rest (codes "PCLOS") || starts_with nat_eq rest (codes "SETVN")

-- what stands behind the front of a line, a statement as a comment
abbrev pub commented_rest : List ℕ → List ℕ
commented_rest rest =
    if is_output rest then 40 ∷ (take (prefix_len is_told rest) rest ++ 41 ∷ drop (prefix_len is_told rest) rest) else rest

-- a line, its statement as a comment
abbrev pub commented : List ℕ → List ℕ
commented line = take (prefix_len is_front line) line ++ commented_rest (drop (prefix_len is_front line) line)

-- the lines from here on, behind the bytes of the line so far
abbrev pub lines_from : List ℕ → List ℕ → List ℕ
lines_from line [] = commented line
lines_from line (byte ∷ bytes) =
    if byte == 10 then commented line ++ 10 ∷ lines_from [] bytes else lines_from (line ++ byte ∷ []) bytes

-- the text
abbrev pub without_outputs : List ℕ → List ℕ
without_outputs text = lines_from [] text
