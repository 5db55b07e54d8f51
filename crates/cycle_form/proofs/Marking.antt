-- One byte more of a text whose lines are marked. For the loop of `marks_of` (src/marks.rt). 10 is
-- the line feed.
use Rattle.std.proofs.Common.{◌≡◌, ℕ, ◌+◌, ◌<◌, Bool, true, false, ◌||◌, ◌==◌, List, [], ◌∷◌, ◌++◌, drop, length, get_or, refl, ap, sym, ◌∙◌, append_assoc}
use Rattle.std.proofs.lemmas.List.{drop_more}
use Rattle.cycle_form.specs.Marks.{is_mark, marks_from}

-- At a line feed the line is done.
at_line_feed : (marked : Bool) (b : ℕ) (bytes : List ℕ) → (b == 10) ≡ true → marks_from marked (b ∷ bytes) ≡ marked ∷ marks_from false bytes
unfolding marks_from
at_line_feed marked b bytes end = rw end refl

-- A byte that is no line feed marks the line, or it doesn't.
at_byte : (marked : Bool) (b : ℕ) (bytes : List ℕ) → (b == 10) ≡ false → marks_from marked (b ∷ bytes) ≡ marks_from (marked || is_mark b) bytes
unfolding marks_from
at_byte marked b bytes other = rw other refl

-- At the end of the text the last line is done.
none : (marked : Bool) → marks_from marked [] ≡ marked ∷ []
unfolding marks_from
none marked = refl

-- After a line feed the marks so far, with that line's, and those ahead are the text's.
pub ended : (marks new all : List Bool) (marked : Bool) (text : List ℕ) (i : ℕ) → i < length text
    → marks ++ marks_from marked (drop i text) ≡ all → (get_or text i 0 == 10) ≡ true → new ≡ marks ++ marked ∷ []
    → new ++ marks_from false (drop (i + 1) text) ≡ all
ended marks new all marked text i before so_far end new_is =
    ap (λ l. l ++ marks_from false (drop (i + 1) text)) new_is ∙ append_assoc marks (marked ∷ []) (marks_from false (drop (i + 1) text))
    ∙ ap (λ l. marks ++ l) (sym (at_line_feed marked (get_or text i 0) (drop (i + 1) text) end)) ∙ ap (λ l. marks ++ marks_from marked l) (sym (drop_more text i 0 before)) ∙ so_far

-- After a byte that is no line feed, the marks so far and those ahead are still the text's.
pub went_on : (marks all : List Bool) (marked new : Bool) (text : List ℕ) (i : ℕ) → i < length text
    → marks ++ marks_from marked (drop i text) ≡ all → (get_or text i 0 == 10) ≡ false → new ≡ (marked || is_mark (get_or text i 0))
    → marks ++ marks_from new (drop (i + 1) text) ≡ all
went_on marks all marked new text i before so_far other new_is =
    ap (λ m. marks ++ marks_from m (drop (i + 1) text)) new_is
    ∙ ap (λ l. marks ++ l) (sym (at_byte marked (get_or text i 0) (drop (i + 1) text) other)) ∙ ap (λ l. marks ++ marks_from marked l) (sym (drop_more text i 0 before)) ∙ so_far

-- After the last byte the marks with the last line's are the text's.
pub at_end : (marks new all : List Bool) (marked : Bool) (rest : List ℕ) → rest ≡ [] → marks ++ marks_from marked rest ≡ all → new ≡ marks ++ marked ∷ [] → new ≡ all
at_end marks new all marked rest empty so_far new_is =
    new_is ∙ ap (λ l. marks ++ l) (sym (none marked)) ∙ ap (λ l. marks ++ marks_from marked l) (sym empty) ∙ so_far
