-- The lines of a tape's text are those that, written one after the other, are the text. For the
-- part `lines` of the law `the_reader_reads_the_relation` (src/law.rt), and for Agrees.
use Rattle.std.proofs.Common.{◌≡◌, ℕ, ◌<◌, ◌==◌, Bool, true, false, cond, List, [], ◌∷◌, ◌++◌, length, refl, ap, sym, ◌∙◌, subst, arith, append_assoc}
use Rattle.std.specs.List.{All, flat_map}
use Rattle.std.proofs.lemmas.Bool.{true≢false, eqb-true}
use Rattle.std.proofs.lemmas.List.{append-nil}
use Rattle.std.proofs.lemmas.List.Elements.{All-nil, All-cons, All-head, All-tail}
use Rattle.nc_text.specs.Lines.{Line, IsOneLine, lines_of, onto_line}
use Rattle.nc_text.proofs.LineEnds.{line_ends, text_ends}
use Rattle.tape_relation.specs.Parts.{written_line, AreEnded, AreLines}

-- the bytes of a line have no line feed
abbrev IsOne : Line → Type 0
IsOne line = IsOneLine line.bytes

-- From the lines to the text.

-- The next two are the steps of `lines_written`: the last line, and a line with others after it.
last_line : (bytes : List ℕ) (ended : Bool) → IsOneLine bytes → (ended ≡ false → 0 < length bytes) → lines_of (written_line (record { bytes = bytes; ended = ended }) ++ []) ≡ record { bytes = bytes; ended = ended } ∷ []
last_line bytes true one some = ap lines_of (append-nil (bytes ++ 10 ∷ [])) ∙ line_ends bytes [] one
last_line [] false one some = let none : 0 < 0 = some refl in absurd (omega arith)
last_line (b ∷ bytes) false one some = ap lines_of (append-nil ((b ∷ bytes) ++ []) ∙ append-nil (b ∷ bytes)) ∙ text_ends b bytes one

inner_line : (bytes more : List ℕ) (ended : Bool) → IsOneLine bytes → ended ≡ true → lines_of (written_line (record { bytes = bytes; ended = ended }) ++ more) ≡ record { bytes = bytes; ended = ended } ∷ lines_of more
inner_line bytes more true one e = ap lines_of (append_assoc bytes (10 ∷ []) more) ∙ line_ends bytes more one
inner_line bytes more false one e = absurd cc

-- lines that are written out are read as these lines
lines_written : (lines : List Line) → All IsOne lines → AreEnded lines → lines_of (flat_map written_line lines) ≡ lines
lines_written [] one ended = refl
lines_written (line ∷ []) one ended = last_line line.bytes line.ended (All-head IsOne line [] one) ended
lines_written (line ∷ next ∷ lines) one ended =
    inner_line line.bytes (flat_map written_line (next ∷ lines)) line.ended (All-head IsOne line (next ∷ lines) one) ended.0
    ∙ ap (λ (others : List Line). line ∷ others) (lines_written (next ∷ lines) (All-tail IsOne line (next ∷ lines) one) ended.1)

-- the lines of the relation are those that the reader has
pub lines_are : (text : List ℕ) (lines : List Line) → AreLines text lines → lines_of text ≡ lines
lines_are text lines is = ap lines_of is.text_is ∙ lines_written lines is.one_line is.ended

-- From the text to its lines.

-- a line without a byte, with its line feed
abbrev empty_line : Line
empty_line = record { bytes = []; ended = true }

-- a line feed, byte 10, before a text is an empty line more
line_first : (bs : List ℕ) (lines : List Line) → AreLines bs lines → AreLines (10 ∷ bs) (empty_line ∷ lines)
line_first bs lines is = record {
  text_is = ap (λ (text : List ℕ). 10 ∷ text) is.text_is;
  one_line = All-cons IsOne empty_line lines (All-nil (λ (x : ℕ). (x == 10) ≡ false)) is.one_line;
  ended = ends lines is.ended;
}
  where
    ends : (lines : List Line) → AreEnded lines → AreEnded (empty_line ∷ lines)
    ends [] e = λ no_feed. absurd (true≢false no_feed)
    ends (next ∷ others) e = (refl, e)

-- a byte put onto the first line leaves each line but the last with its line feed
longer : (b : ℕ) (line : Line) (lines : List Line) → AreEnded (line ∷ lines) → AreEnded (onto_line b (line ∷ lines))
longer b line [] e = λ no_feed. omega arith
longer b line (next ∷ lines) e = e

-- any other byte goes onto the first line
byte_first : (b : ℕ) (bs : List ℕ) (lines : List Line) → (b == 10) ≡ false → AreLines bs lines → AreLines (b ∷ bs) (onto_line b lines)
byte_first b bs [] e is = record {
  text_is = ap (λ (text : List ℕ). b ∷ text) is.text_is;
  one_line = All-cons IsOne _ [] (All-cons (λ (x : ℕ). (x == 10) ≡ false) b [] e (All-nil (λ (x : ℕ). (x == 10) ≡ false))) (All-nil IsOne);
  ended = λ no_feed. omega arith;
}
byte_first b bs (line ∷ lines) e is = record {
  text_is = ap (λ (text : List ℕ). b ∷ text) is.text_is;
  one_line = All-cons IsOne _ lines (All-cons (λ (x : ℕ). (x == 10) ≡ false) b line.bytes e (All-head IsOne line lines is.one_line)) (All-tail IsOne line lines is.one_line);
  ended = longer b line lines is.ended;
}

-- one byte more in front of a text, whether or not it is a line feed
next_byte : (test : Bool) (b : ℕ) (bs : List ℕ) (lines : List Line) → (b == 10) ≡ test → AreLines bs lines → AreLines (b ∷ bs) (cond test (empty_line ∷ lines) (onto_line b lines))
next_byte true b bs lines e is =
    let same : b ≡ 10 = eqb-true b 10 e in
    let P : ℕ → Type 0 = λ c. AreLines (c ∷ bs) (empty_line ∷ lines) in
    subst P (sym same) (line_first bs lines is)
next_byte false b bs lines e is = byte_first b bs lines e is

-- the lines that the reader has are lines of the text by the relation
pub own_lines : (text : List ℕ) → AreLines text (lines_of text)
own_lines [] = record { text_is = refl; one_line = All-nil IsOne; ended = tt }
own_lines (b ∷ bs) = next_byte (b == 10) b bs (lines_of bs) refl (own_lines bs)

-- lines that are the reader's are lines of the text by the relation
pub are_lines : (text : List ℕ) (lines : List Line) → lines_of text ≡ lines → AreLines text lines
are_lines text lines e = let P : List Line → Type 0 = AreLines text in subst P e (own_lines text)
