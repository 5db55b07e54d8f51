-- What one byte more adds to the signs of a line of a tape. For the loop of `scan` (src/sign.rt).
use Rattle.std.proofs.Common.{◌≡◌, ℕ, suc, ◌+◌, ◌<◌, ◌≤◌, ◌^◌, Bool, true, false, not, ◌&&◌, List, [], ◌∷◌, ◌++◌, length, drop, get_or, refl, ap, sym, subst, ◌∙◌, append_assoc, arith}
use Rattle.std.proofs.Math.Seq.{drop-cons}
use Rattle.std.proofs.lemmas.List.{append-nil, length-append}
use Rattle.std.proofs.lemmas.List.Elements.{All-push}
use Rattle.line_text.specs.declared.sign.Sign.{Sign}
use Rattle.line_text.specs.Places.{ArePlaced}
use Rattle.line_text.specs.Signs.{Scan, is_blank, inside_behind, counted_sign, add_sign, scan_of}

-- a byte that counts is put after those before, and one that doesn't is left out
listed_more : (test : Bool) (place b : ℕ) (done : List Sign) (scan : Scan) → (done ++ counted_sign test place b) ++ scan.list ≡ done ++ (add_sign test place b scan).list
listed_more true place b done scan = append_assoc done _ scan.list
listed_more false place b done scan = ap (λ (list : List Sign). list ++ scan.list) (append-nil done)

-- whether the last comment is open does not depend on the sign that is put in front
unclosed_same : (test : Bool) (place b : ℕ) (scan : Scan) → scan.unclosed ≡ (add_sign test place b scan).unclosed
unclosed_same true place b scan = refl
unclosed_same false place b scan = refl

-- with one sign more whose place is below 2 ^ 32 - 1, all places stay so
pub placed_more : (test : Bool) (place b : ℕ) (done : List Sign) → place + 1 < 2 ^ 32 → ArePlaced done → ArePlaced (done ++ counted_sign test place b)
placed_more true place b done near placed = All-push (λ (sign : Sign). sign.place + 1 < 2 ^ 32) done _ placed near
placed_more false place b done near placed = subst ArePlaced (sym (append-nil done)) placed

-- one byte adds at most one sign to the list
pub short_more : (test : Bool) (place b : ℕ) (done : List Sign) → length (done ++ counted_sign test place b) ≤ length done + 1
short_more true place b done = omega (arith, length-append done (counted_sign true place b))
short_more false place b done = omega (arith, length-append done [])

-- the rest of a line is its next byte and the rest after that
line_here : (line : List ℕ) (i : ℕ) → i < length line → get_or line i 0 ∷ drop (i + 1) line ≡ drop i line
line_here line i within =
    let e : i + 1 ≡ suc i = omega arith in
    ap (λ (k : ℕ). get_or line i 0 ∷ drop k line) e ∙ sym (drop-cons line i 0 within)

-- whether a byte counts: it is no blank and stands outside comments, which the flag says
abbrev counts : Bool → ℕ → Bool
counts inside b = not inside && not (is_blank b)

-- after one byte more, the signs listed so far and those of the rest are still all signs
pub listed_on : (line : List ℕ) (i : ℕ) (inside next : Bool) (place : ℕ) (done now all : List Sign) → i < length line → now ≡ done ++ counted_sign (counts inside (get_or line i 0)) place (get_or line i 0)
    → next ≡ inside_behind inside (get_or line i 0) → done ++ (scan_of (drop i line) inside place).list ≡ all → now ++ (scan_of (drop (i + 1) line) next (place + 1)).list ≡ all
listed_on line i inside next place done now all within pushed next-is so_far =
    let b = get_or line i 0 in
    (λ k. pushed k ++ (scan_of (drop (i + 1) line) (next-is k) (place + 1)).list)
    ∙ listed_more (counts inside b) place b done (scan_of (drop (i + 1) line) (inside_behind inside b) (place + 1))
    ∙ ap (λ (l : List ℕ). done ++ (scan_of l inside place).list) (line_here line i within) ∙ so_far

-- after one byte more, the last comment of the rest is open exactly if that of the line is
pub unclosed_on : (line : List ℕ) (i : ℕ) (inside next : Bool) (place : ℕ) (all : Bool) → i < length line → next ≡ inside_behind inside (get_or line i 0)
    → (scan_of (drop i line) inside place).unclosed ≡ all → (scan_of (drop (i + 1) line) next (place + 1)).unclosed ≡ all
unclosed_on line i inside next place all within next-is so_far =
    let b = get_or line i 0 in
    (λ k. (scan_of (drop (i + 1) line) (next-is k) (place + 1)).unclosed)
    ∙ unclosed_same (counts inside b) place b (scan_of (drop (i + 1) line) (inside_behind inside b) (place + 1))
    ∙ ap (λ (l : List ℕ). (scan_of l inside place).unclosed) (line_here line i within) ∙ so_far
