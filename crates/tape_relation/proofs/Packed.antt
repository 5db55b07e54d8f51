-- A line of a tape without its blanks has the same signs, but for their places. For Blanked and
-- Removed.
use Rattle.std.proofs.Common.{◌≡◌, ◌==◌, ℕ, ◌+◌, Bool, true, false, cond, not, ◌&&◌, List, [], ◌∷◌, ◌++◌, refl, sym, ap, subst, ◌∙◌, append-nil}
use Rattle.std.specs.Prelude.{filter}
use Rattle.std.proofs.lemmas.List.Elements.{filter-append}
use Rattle.line_text.specs.Signs.{is_blank, inside_behind, scan_of, without_last, without_return, without_blanks, content_of, signs_of}
use Rattle.tape_relation.proofs.Ignored.{by_last, last_pushed, trimmed_blank, trimmed_other}
use Rattle.tape_relation.proofs.Blanks.{added, same_chain, blank_here, IsSameText}

-- the bytes that are no blanks
abbrev pub packed : List ℕ → List ℕ
packed line = filter (λ b. not (is_blank b)) line

-- the step of `scan_packed`, whether or not the first byte is a blank
packed_here : (test : Bool) (b : ℕ) (bs : List ℕ) (inside : Bool) (place : ℕ) → is_blank b ≡ test → ((i : Bool) (p : ℕ) → IsSameText (scan_of bs i p) (scan_of (packed bs) i p))
    → IsSameText (scan_of (b ∷ bs) inside place) (scan_of (cond (not test) (b ∷ packed bs) (packed bs)) inside place)
packed_here true b bs inside place blank later = same_chain _ _ _ (blank_here b bs inside place blank) (later inside place)
packed_here false b bs inside place blank later = added (not inside && not (is_blank b)) place place b _ _ (later (inside_behind inside b) (place + 1))

-- without its blanks a line has the same signs, places aside
scan_packed : (line : List ℕ) (inside : Bool) (place : ℕ) → IsSameText (scan_of line inside place) (scan_of (packed line) inside place)
scan_packed [] inside place = record { bytes = refl; unclosed = refl }
scan_packed (b ∷ bs) inside place = packed_here (is_blank b) b bs inside place refl (scan_packed bs)

-- a text with one byte more at the end, without its blanks
packed_pushed : (test : Bool) (xs : List ℕ) (x : ℕ) → is_blank x ≡ test → packed (xs ++ x ∷ []) ≡ packed xs ++ cond (not test) (x ∷ []) []
packed_pushed test xs x e = filter-append (λ b. not (is_blank b)) xs (x ∷ []) ∙ ap (λ (t : Bool). packed xs ++ cond (not t) (x ∷ []) []) e

-- a choice of two texts without their blanks
pub either_packed : (test : Bool) (a b : List ℕ) → packed (cond test a b) ≡ cond test (packed a) (packed b)
either_packed true a b = refl
either_packed false a b = refl

-- what the reader leaves of a text, without blanks: the text without blanks and without one `;` at
-- its end
abbrev Ends : List ℕ → Type 0
Ends line = packed (without_last 59 (without_blanks line)) ≡ without_last 59 (packed line)

-- one byte more at the end keeps that
ends_pushed : (xs : List ℕ) (x : ℕ) → Ends xs → Ends (xs ++ x ∷ [])
ends_pushed xs x before = go (is_blank x) refl
  where
    go : (test : Bool) → is_blank x ≡ test → Ends (xs ++ x ∷ [])
    go true blank =
        ap (λ (l : List ℕ). packed (without_last 59 l)) (trimmed_blank xs x blank) ∙ before ∙ ap (without_last 59) (sym (packed_pushed true xs x blank ∙ append-nil (packed xs)))
    go false other =
        ap (λ (l : List ℕ). packed (without_last 59 l)) (trimmed_other xs x other) ∙ ap packed (last_pushed 59 xs x) ∙ either_packed (x == 59) xs (xs ++ x ∷ [])
        ∙ ap (λ (l : List ℕ). cond (x == 59) (packed xs) l) (packed_pushed false xs x other) ∙ sym (last_pushed 59 (packed xs) x) ∙ ap (without_last 59) (sym (packed_pushed false xs x other))

-- what the reader leaves of a line, without blanks, is the line without blanks and without one `;`
-- at its end
content_packed : (line : List ℕ) (ended : Bool) → packed (content_of line ended) ≡ without_last 59 (packed (without_return line ended))
content_packed line ended = by_last Ends ends_pushed (without_return line ended) [] refl

-- the signs of a line are those of the line without its blanks, places aside
pub signs_packed : (line : List ℕ) (ended : Bool) → IsSameText (signs_of line ended) (scan_of (without_last 59 (packed (without_return line ended))) false 0)
unfolding signs_of
signs_packed line ended = subst (λ (l : List ℕ). IsSameText (scan_of (content_of line ended) false 0) (scan_of l false 0)) (content_packed line ended) (scan_packed (content_of line ended) false 0)
