-- In a tape lower case reads as upper case. Each lemma in `_up`, and each that begins with `up_`,
-- says that one step of the reader gives the same in upper case. For the law
-- `lower_case_reads_as_upper_case` (src/edits.rt).
use Rattle.std.proofs.Common.{◌≡◌, ◌==◌, ℕ, zero, suc, ◌+◌, ◌-◌, ◌<◌, Bool, true, false, cond, not, ◌&&◌, ◌||◌, List, [], ◌∷◌, ◌++◌, length, map, take, get_or, refl, sym, ap, ◌∙◌, arith}
use Rattle.std.specs.Prelude.{reverse}
use Rattle.std.specs.Char.{to_ascii_uppercase}
use Rattle.std.specs.List.{prefix_len, suffix_len}
use Rattle.std.proofs.lemmas.Bool.Decides.{nat_tests}
use Rattle.std.proofs.lemmas.List.{length-map, take-map, map-append, reverse-append}
use Rattle.line_text.specs.Signs.{Scan, is_blank, add_sign, inside_behind, scan_of, without_last, without_return, without_blanks, content_of, signs_of}
use Rattle.nc_text.specs.Lines.{Line, onto_line, lines_of, is_percent}
use Rattle.line_text.specs.Said.{line_says, judged_signs}
use Rattle.nc_text.specs.Tape.{Before, goes_on, after_said, after_outer, after_percent, in_rest, in_body, in_leader, tape_begun, nothing_read, tape_of}
use Rattle.tape_relation.proofs.Mapped.{either_map, prefix_same}

-- a byte in upper case
abbrev up : ℕ → ℕ
up b = to_ascii_uppercase b

-- a letter and its capital equal the same bytes below the letters
up_same : (b k : ℕ) → k < 65 → (up b == k) ≡ (b == k)
up_same b k small = grind (arith, nat_tests)

up_up : (b : ℕ) → up (up b) ≡ up b
up_up b = grind (arith, nat_tests)

up_blank : (b : ℕ) → is_blank (up b) ≡ is_blank b
up_blank b = ap (λ (x : Bool). x || (up b == 9)) (up_same b 32 (omega arith)) ∙ ap (λ (x : Bool). (b == 32) || x) (up_same b 9 (omega arith))

up_inside : (inside : Bool) (b : ℕ) → inside_behind inside (up b) ≡ inside_behind inside b
up_inside true b = ap not (up_same b 41 (omega arith))
up_inside false b = up_same b 40 (omega arith)

up_added : (test : Bool) (place b : ℕ) (scan : Scan) → add_sign test place (up b) scan ≡ add_sign test place b scan
up_added true place b scan = rw (up_up b) refl
up_added false place b scan = refl

-- a line has the same signs in upper case
scan_up : (line : List ℕ) (inside : Bool) (place : ℕ) → scan_of (map up line) inside place ≡ scan_of line inside place
scan_up [] inside place = refl
scan_up (b ∷ line) inside place =
    (λ i. add_sign (not inside && not (up_blank b i)) place (up b) (scan_up line (up_inside inside b i) (place + 1) i))
    ∙ up_added (not inside && not (is_blank b)) place b (scan_of line (inside_behind inside b) (place + 1))

up_at : (line : List ℕ) (i : ℕ) → get_or (map up line) i 0 ≡ up (get_or line i 0)
up_at [] i = refl
up_at (b ∷ line) zero = refl
up_at (b ∷ line) (suc i) = up_at line i

last_up : (k : ℕ) (line : List ℕ) → k < 65 → without_last k (map up line) ≡ map up (without_last k line)
last_up k line small =
    let at = length line - 1 in
    let test : (get_or (map up line) at 0 == k) ≡ (get_or line at 0 == k) = ap (λ (x : ℕ). x == k) (up_at line at) ∙ up_same (get_or line at 0) k small in
    let long = length-map line up in
    (λ i. cond (get_or (map up line) (long i - 1) 0 == k) (take (long i - 1) (map up line)) (map up line))
    ∙ (λ i. cond (test i) (take-map up at line i) (map up line)) ∙ either_map up (get_or line at 0 == k) (take at line) line

return_up : (line : List ℕ) (ended : Bool) → without_return (map up line) ended ≡ map up (without_return line ended)
return_up line true = last_up 13 line (omega arith)
return_up line false = refl

reverse_up : (line : List ℕ) → reverse (map up line) ≡ map up (reverse line)
reverse_up [] = refl
reverse_up (b ∷ line) =
    reverse-append (up b ∷ []) (map up line) ∙ ap (λ (l : List ℕ). l ++ up b ∷ []) (reverse_up line)
    ∙ sym (map-append up (reverse line) (b ∷ [])) ∙ ap (map up) (sym (reverse-append (b ∷ []) line))

blanks_up : (line : List ℕ) → without_blanks (map up line) ≡ map up (without_blanks line)
blanks_up line =
    let blanks : suffix_len is_blank (map up line) ≡ suffix_len is_blank line = ap (prefix_len is_blank) (reverse_up line) ∙ prefix_same up is_blank up_blank (reverse line) in
    (λ i. take (length-map line up i - blanks i) (map up line)) ∙ take-map up (length line - suffix_len is_blank line) line

content_up : (line : List ℕ) (ended : Bool) → content_of (map up line) ended ≡ map up (content_of line ended)
content_up line ended =
    ap (λ (l : List ℕ). without_last 59 (without_blanks l)) (return_up line ended) ∙ ap (without_last 59) (blanks_up (without_return line ended))
    ∙ last_up 59 (without_blanks (without_return line ended)) (omega arith)

-- a line says the same in upper case
says_up : (skips : ℕ) (line : List ℕ) (ended : Bool) → line_says skips (map up line) ended ≡ line_says skips line ended
unfolding line_says signs_of
says_up skips line ended =
    (λ i. judged_signs skips (scan_of (content_up line ended i) false 0)) ∙ ap (judged_signs skips) (scan_up (content_of line ended) false 0)

-- a line in upper case
abbrev up_line : Line → Line
up_line line = record { bytes = map up line.bytes; ended = line.ended }

onto_up : (b : ℕ) (lines : List Line) → onto_line (up b) (map up_line lines) ≡ map up_line (onto_line b lines)
onto_up b [] = refl
onto_up b (line ∷ lines) = refl

-- the lines of a text in upper case are its lines in upper case
lines_up : (text : List ℕ) → lines_of (map up text) ≡ map up_line (lines_of text)
lines_up [] = refl
lines_up (b ∷ text) =
    let feed : (up b == 10) ≡ (b == 10) = up_same b 10 (omega arith) in
    (λ i. cond (feed i) (record { bytes = []; ended = true } ∷ lines_up text i) (onto_line (up b) (lines_up text i)))
    ∙ (λ i. cond (b == 10) (record { bytes = []; ended = true } ∷ map up_line (lines_of text)) (onto_up b (lines_of text) i))
    ∙ either_map up_line (b == 10) (record { bytes = []; ended = true } ∷ lines_of text) (onto_line b (lines_of text))

percent_up : (bytes : List ℕ) → is_percent (map up bytes) ≡ is_percent bytes
percent_up [] = refl
percent_up (b ∷ bytes) = up_same b 37 (omega arith)

rest_up : (lines : List Line) (before : Before) → in_rest (map up_line lines) before ≡ in_rest lines before
rest_up [] before = refl
rest_up (line ∷ lines) before = λ i. goes_on before (after_outer before (length-map line.bytes up i) line.ended) (λ after. rest_up lines after i)

body_up : (skips : ℕ) (lines : List Line) (before : Before) → in_body skips (map up_line lines) before ≡ in_body skips lines before
body_up skips [] before = refl
body_up skips (line ∷ lines) before = λ i.
    cond (percent_up line.bytes i) (goes_on before (after_percent before (length-map line.bytes up i) line.ended) (λ after. rest_up lines after i))
    (goes_on before (after_said before (length-map line.bytes up i) line.ended (says_up skips line.bytes line.ended i)) (λ after. body_up skips lines after i))

leader_up : (skips : ℕ) (lines : List Line) (before : Before) → in_leader skips (map up_line lines) before ≡ in_leader skips lines before
leader_up skips [] before = refl
leader_up skips (line ∷ lines) before = λ i.
    cond (percent_up line.bytes i) (goes_on before (after_percent before (length-map line.bytes up i) line.ended) (λ after. body_up skips lines (tape_begun after) i))
    (goes_on before (after_outer before (length-map line.bytes up i) line.ended) (λ after. leader_up skips lines after i))

-- a text has the same answer with all its letters in upper case
pub tape_up : (skips : ℕ) (text : List ℕ) → tape_of skips (map to_ascii_uppercase text) ≡ tape_of skips text
unfolding tape_of
tape_up skips text = ap (λ (lines : List Line). in_leader skips lines nothing_read) (lines_up text) ∙ leader_up skips (lines_of text) nothing_read
