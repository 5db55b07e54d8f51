-- The sizes of the lines of a tape's text, and where a text may be taken apart into lines. For
-- OneLine.
use Rattle.std.proofs.Common.{◌≡◌, ◌==◌, ℕ, suc, ◌<◌, Bool, true, false, cond, List, [], ◌∷◌, ◌++◌, length, refl, ap, ◌∙◌, arith}
use Rattle.std.specs.List.{list_all}
use Rattle.nc_text.specs.Lines.{IsOneLine, Line, lines_of, onto_line, size_of}
use Rattle.tape_relation.specs.Edited.{are_whole}
use Rattle.tape_relation.proofs.LineByLine.{size_all}
use Rattle.nc_text.proofs.LineEnds.{line_ends, text_ends}

-- a line without a byte, with its line feed
abbrev empty_line : Line
empty_line = record { bytes = []; ended = true }

-- a line with one byte more has one byte more, with its line feed
size_suc : (n : ℕ) (ended : Bool) → size_of (suc n) ended ≡ suc (size_of n ended)
size_suc n true = omega arith
size_suc n false = refl

-- one byte more in the text is one byte more in its lines
size_onto : (b : ℕ) (lines : List Line) → size_all (onto_line b lines) ≡ suc (size_all lines)
size_onto b [] = refl
size_onto b (line ∷ lines) =
    let e : size_of (suc (length line.bytes)) line.ended ≡ suc (size_of (length line.bytes) line.ended) = size_suc (length line.bytes) line.ended in
    omega arith

-- the step of `size_of_lines`, whether or not the first byte is a line feed
size_first : (test : Bool) (b : ℕ) (lines : List Line) (n : ℕ) → size_all lines ≡ n → size_all (cond test (empty_line ∷ lines) (onto_line b lines)) ≡ suc n
size_first true b lines n e = omega arith
size_first false b lines n e = size_onto b lines ∙ ap suc e

-- the lines of a text, with their line feeds, have as many bytes as the text
pub size_of_lines : (text : List ℕ) → size_all (lines_of text) ≡ length text
size_of_lines [] = refl
size_of_lines (b ∷ text) = size_first (b == 10) b (lines_of text) (length text) (size_of_lines text)

-- the step of `lines_split`, whether or not the first byte is a line feed
split_first : (test : Bool) (b : ℕ) (lines more whole : List Line) → list_all (λ (line : Line). line.ended) (cond test (empty_line ∷ lines) (onto_line b lines)) ≡ true
    → (list_all (λ (line : Line). line.ended) lines ≡ true → whole ≡ lines ++ more)
    → cond test (empty_line ∷ whole) (onto_line b whole) ≡ cond test (empty_line ∷ lines) (onto_line b lines) ++ more
split_first true b lines more whole all later = ap (λ (ls : List Line). empty_line ∷ ls) (later all)
split_first false b [] more whole all later = absurd cc
split_first false b (line ∷ lines) more whole all later = ap (onto_line b) (later all)

-- the lines of whole lines and a rest are those lines, and the lines of the rest
pub lines_split : (front back : List ℕ) → are_whole front ≡ true → lines_of (front ++ back) ≡ lines_of front ++ lines_of back
lines_split [] back whole = refl
lines_split (b ∷ front) back whole = split_first (b == 10) b (lines_of front) (lines_of back) (lines_of (front ++ back)) whole (lines_split front back)

-- the lines of whole lines, one line and a rest
pub lines_around : (front line back : List ℕ) → are_whole front ≡ true → IsOneLine line → lines_of (front ++ (line ++ 10 ∷ back)) ≡ lines_of front ++ (record { bytes = line; ended = true } ∷ lines_of back)
lines_around front line back whole one = lines_split front (line ++ 10 ∷ back) whole ∙ ap (λ (ls : List Line). lines_of front ++ ls) (line_ends line back one)

-- a last line without a line feed is one line
one_left : (line : List ℕ) → IsOneLine line → 0 < length line → lines_of line ≡ record { bytes = line; ended = false } ∷ []
one_left [] one some = absurd (omega (arith, some))
one_left (b ∷ line) one some = text_ends b line one

-- the lines of whole lines and a last line without a line feed
pub lines_before_last : (front line : List ℕ) → are_whole front ≡ true → IsOneLine line → 0 < length line → lines_of (front ++ line) ≡ lines_of front ++ (record { bytes = line; ended = false } ∷ [])
lines_before_last front line whole one some = lines_split front line whole ∙ ap (λ (ls : List Line). lines_of front ++ ls) (one_left line one some)
