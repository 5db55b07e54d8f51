-- A carriage return before each line feed of a tape changes nothing; nor does one before the line
-- feed of one line. Byte 13 is the carriage return. For the law `a_carriage_return_changes_nothing`
-- (src/edits.rt).
use Rattle.std.proofs.Common.{◌≡◌, ◌==◌, ℕ, ◌+◌, ◌-◌, ◌<◌, ◌≤◌, Bool, true, false, cond, List, [], ◌∷◌, ◌++◌, length, map, take, refl, sym, ap, ◌∙◌, length-append, arith}
use Rattle.std.specs.Prelude.{All}
use Rattle.std.specs.List.{AllZip}
use Rattle.std.proofs.lemmas.Bool.{le-ltb}
use Rattle.std.proofs.lemmas.List.Elements.{All-nil, All-cons, All-head, All-tail, All-get_or, All-take, All-same}
use Rattle.std.proofs.lemmas.List.{take_at}
use Rattle.line_text.specs.Signs.{without_last}
use Rattle.nc_text.specs.Lines.{Line, lines_of, onto_line, is_percent}
use Rattle.line_text.specs.Said.{judged_signs, line_says}
use Rattle.line_text.specs.Signs.{scan_of, signs_of, without_blanks}
use Rattle.tape_relation.specs.Alike.{IsAlike, Fits}
use Rattle.tape_relation.specs.Edited.{with_line, IsLine, EndsWithoutReturn, HasNoReturn, HaveRoom, with_returns}
use Rattle.nc_text.specs.Tape.{tape_of}
use Rattle.tape_relation.proofs.SkippedLines.{return_ignored}
use Rattle.tape_relation.proofs.OneLine.{lines_alike, alike_in_place}

-- a line with a carriage return before its line feed, if it has one
abbrev returned : Line → Line
returned line = record { bytes = cond line.ended (line.bytes ++ 13 ∷ []) line.bytes; ended = line.ended }

-- a byte put onto the first line commutes with the carriage returns
onto_returned : (b : ℕ) (lines : List Line) → onto_line b (map returned lines) ≡ map returned (onto_line b lines)
onto_returned b [] = refl
onto_returned b (line ∷ lines) = go line.ended
  where
    go : (test : Bool) → ◌≡◌ {A = List Line} (record { bytes = b ∷ cond test (line.bytes ++ 13 ∷ []) line.bytes; ended = test } ∷ map returned lines) (record { bytes = cond test (b ∷ (line.bytes ++ 13 ∷ [])) (b ∷ line.bytes); ended = test } ∷ map returned lines)
    go true = refl
    go false = refl

-- the lines of a text with carriage returns are its lines with carriage returns
lines_returned : (text : List ℕ) → lines_of (with_returns text) ≡ map returned (lines_of text)
lines_returned [] = refl
lines_returned (b ∷ text) = go (b == 10) refl (lines_returned text)
  where
    go : (test : Bool) → (b == 10) ≡ test → lines_of (with_returns text) ≡ map returned (lines_of text) → lines_of (with_returns (b ∷ text)) ≡ map returned (lines_of (b ∷ text))
    go true e later = rw e (ap (λ (ls : List Line). record { bytes = 13 ∷ []; ended = true } ∷ ls) later)
    go false e later = rw e (rw e (ap (onto_line b) later ∙ onto_returned b (lines_of text)))

-- each byte of each line has this
abbrev Each : (ℕ → Type 0) → List Line → Type 0
Each P lines = All (λ (line : Line). All P line.bytes) lines

-- The next three: what each byte of a text has, each byte of its lines has.
each_onto : (P : ℕ → Type 0) (b : ℕ) (lines : List Line) → P b → Each P lines → Each P (onto_line b lines)
each_onto P b [] here each = All-cons (λ (line : Line). All P line.bytes) (record { bytes = b ∷ []; ended = false }) [] (All-cons P b [] here (All-nil P)) each
each_onto P b (line ∷ lines) here each =
    All-cons (λ (x : Line). All P x.bytes) (record { bytes = b ∷ line.bytes; ended = line.ended }) lines (All-cons P b line.bytes here (All-head (λ (x : Line). All P x.bytes) line lines each)) (All-tail (λ (x : Line). All P x.bytes) line lines each)

each_either : (test : Bool) (P : ℕ → Type 0) (b : ℕ) (lines : List Line) → P b → Each P lines → Each P (cond test (record { bytes = []; ended = true } ∷ lines) (onto_line b lines))
each_either true P b lines here each = All-cons (λ (line : Line). All P line.bytes) (record { bytes = []; ended = true }) lines (All-nil P) each
each_either false P b lines here each = each_onto P b lines here each

each_line : (P : ℕ → Type 0) (text : List ℕ) → All P text → Each P (lines_of text)
each_line P [] all = All-nil (λ (line : Line). All P line.bytes)
each_line P (b ∷ text) all = each_either (b == 10) P b (lines_of text) (All-head P b text all) (each_line P text (All-tail P b text all))

-- The next three: a line without a carriage return does not end with one; such a line says the same
-- with a line feed and without; and a carriage return at the end does not change how it begins.
no_return_last : (line : List ℕ) → HasNoReturn line → EndsWithoutReturn line
no_return_last [] none = refl
no_return_last (b ∷ bs) none =
    let here : length (b ∷ bs) - 1 < length (b ∷ bs) = omega arith in
    ap (λ (t : Bool). cond t (take (length (b ∷ bs) - 1) (b ∷ bs)) (b ∷ bs)) (All-get_or (λ (x : ℕ). (x == 13) ≡ false) (b ∷ bs) (length (b ∷ bs) - 1) 0 here none)

unreturned_says : (skips : ℕ) (line : List ℕ) → EndsWithoutReturn line → line_says skips line false ≡ line_says skips line true
unfolding line_says signs_of
unreturned_says skips line other = ap (λ (l : List ℕ). judged_signs skips (scan_of (without_last 59 (without_blanks l)) false 0)) (sym other)

percent_returned : (line : List ℕ) → is_percent (line ++ 13 ∷ []) ≡ is_percent line
percent_returned [] = refl
percent_returned (b ∷ bs) = refl

-- a line with a carriage return before its line feed is alike to the one without
line_alike : (skips : ℕ) (ended : Bool) (line : List ℕ) → EndsWithoutReturn line → length line < 512 → IsAlike skips (record { bytes = cond ended (line ++ 13 ∷ []) line; ended = ended }) (record { bytes = line; ended = ended })
line_alike skips true line other room =
    let longer : length (line ++ 13 ∷ []) ≤ 512 = omega (arith, length-append line (13 ∷ [])) in
    let short : length line ≤ 512 = omega arith in
    record { says = λ _. return_ignored skips line ∙ unreturned_says skips line other; percent = percent_returned line; long = le-ltb 512 (length (line ++ 13 ∷ [])) longer ∙ sym (le-ltb 512 (length line) short) }
line_alike skips false line other room = record { says = λ _. refl; percent = refl; long = refl }

-- lines with carriage returns before their line feeds are alike to those without, one by one
all_alike : (skips : ℕ) (lines : List Line) → Each (λ (b : ℕ). (b == 13) ≡ false) lines → All (λ (line : Line). length line.bytes < 512) lines → AllZip (IsAlike skips) (map returned lines) lines
all_alike skips [] none room = tt
all_alike skips (line ∷ lines) none room = (
  line_alike skips line.ended line.bytes (no_return_last line.bytes (All-head (λ (x : Line). HasNoReturn x.bytes) line lines none)) (All-head (λ (x : Line). length x.bytes < 512) line lines room),
  all_alike skips lines (All-tail (λ (x : Line). HasNoReturn x.bytes) line lines none) (All-tail (λ (x : Line). length x.bytes < 512) line lines room),
)

-- a text with carriage returns is at least as long
longer : (text : List ℕ) → length text ≤ length (with_returns text)
longer [] = omega arith
longer (b ∷ text) = go (b == 10) (longer text)
  where
    go : (test : Bool) → length text ≤ length (with_returns text) → length (b ∷ text) ≤ length (cond test (13 ∷ 10 ∷ with_returns text) (b ∷ with_returns text))
    go true later = omega arith
    go false later = omega arith

-- a text without carriage returns has the same answer with one before each line feed
pub returns_ignored : (skips : ℕ) (text : List ℕ) → HasNoReturn text → HaveRoom text → Fits (with_returns text) → tape_of skips (with_returns text) ≡ tape_of skips text
returns_ignored skips text none room fits =
    let shorter : Fits text = omega (arith, longer text) in
    lines_alike skips (with_returns text) text fits shorter
    (rw (lines_returned text) (all_alike skips (lines_of text) (each_line (λ (b : ℕ). (b == 13) ≡ false) text none) room))

-- one carriage return before the line feed of a line leaves the answer
pub return_put : (skips : ℕ) (front line back : List ℕ) → EndsWithoutReturn line → IsLine front (line ++ 13 ∷ []) back → tape_of skips (with_line front (line ++ 13 ∷ []) back) ≡ tape_of skips (with_line front line back)
return_put skips front line back other is =
    let long : length (line ++ 13 ∷ []) ≡ length line + 1 = length-append line (13 ∷ []) in
    let short : length (line ++ 13 ∷ []) ≤ 512 = is.short in
    let room : length line < 512 = omega arith in
    let fits : Fits (with_line front (line ++ 13 ∷ []) back) = is.fits in
    let shorter : Fits (with_line front line back) = omega (arith, length-append front (line ++ 10 ∷ back), length-append line (10 ∷ back), length-append front ((line ++ 13 ∷ []) ++ 10 ∷ back), length-append (line ++ 13 ∷ []) (10 ∷ back)) in
    let one : All (λ (x : ℕ). (x == 10) ≡ false) line =
    All-same (λ (x : ℕ). (x == 10) ≡ false) line (take (length line) (line ++ 13 ∷ [])) (sym (take_at line (13 ∷ []) (length line) refl)) (All-take (λ (x : ℕ). (x == 10) ≡ false) (length line) (line ++ 13 ∷ []) is.one_line) in
    alike_in_place skips front (line ++ 13 ∷ []) line back is.whole is.one_line one (line_alike skips true line other room) fits shorter
