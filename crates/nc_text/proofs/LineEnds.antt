-- How a line feed or the end of a tape's text ends a line, and what is kept of a line with further
-- bytes. For Standing and Deciding.
use Rattle.std.proofs.Common.{◌≡◌, ◌==◌, ℕ, Bool, true, false, cond, not, ◌&&◌, List, [], ◌∷◌, ◌++◌, refl, ap}
use Rattle.std.proofs.lemmas.List.Elements.{All-head, All-tail}
use Rattle.nc_text.specs.Lines.{Line, IsOneLine, lines_of, onto_line}
use Rattle.nc_text.specs.declared.stage.Stage.{Stage}
use Rattle.nc_text.specs.Reading.{is_body, kept_of, more_kept}

-- a byte that is no line feed is put before the first line of the rest
in_line : (b : ℕ) (test : Bool) (bs : List ℕ) (rest : List Line) → test ≡ false → lines_of bs ≡ rest → cond test (record { bytes = []; ended = true } ∷ lines_of bs) (onto_line b (lines_of bs)) ≡ onto_line b rest
in_line b true bs rest e later = absurd cc
in_line b false bs rest e later = ap (onto_line b) later

-- a line feed ends the present line
pub line_ends : (line more : List ℕ) → IsOneLine line → lines_of (line ++ 10 ∷ more) ≡ record { bytes = line; ended = true } ∷ lines_of more
line_ends [] more one = refl
line_ends (b ∷ line) more one =
    in_line b (b == 10) (line ++ 10 ∷ more) _ (All-head (λ (x : ℕ). (x == 10) ≡ false) b line one) (line_ends line more (All-tail (λ (x : ℕ). (x == 10) ≡ false) b line one))

-- the end of the text ends the last line, if it has a byte
pub text_ends : (b : ℕ) (line : List ℕ) → IsOneLine (b ∷ line) → lines_of (b ∷ line) ≡ record { bytes = b ∷ line; ended = false } ∷ []
text_ends b [] one = in_line b (b == 10) [] [] (All-head (λ (x : ℕ). (x == 10) ≡ false) b [] one) refl
text_ends b (c ∷ line) one =
    in_line b (b == 10) (c ∷ line) _ (All-head (λ (x : ℕ). (x == 10) ≡ false) b (c ∷ line) one) (text_ends c line (All-tail (λ (x : ℕ). (x == 10) ≡ false) b (c ∷ line) one))

-- the text of no bytes
abbrev nothing : List ℕ
nothing = []

-- a choice between no bytes and no bytes is no bytes
nothing_either_way : (test : Bool) → cond test nothing nothing ≡ nothing
nothing_either_way true = refl
nothing_either_way false = refl

-- of a line without bytes nothing is kept
pub kept_none : (stage : Stage) → kept_of stage [] ≡ []
kept_none stage = nothing_either_way (is_body stage && true)

-- what is kept of a line, and then of further bytes, is what is kept of the line with these bytes
pub kept_more : (stage : Stage) (line bytes : List ℕ) → kept_of stage line ++ more_kept stage (kept_of stage line) bytes ≡ kept_of stage (line ++ bytes)
kept_more stage [] bytes = ap (λ (kept : List ℕ). kept ++ more_kept stage kept bytes) (kept_none stage)
kept_more stage (c ∷ line) bytes = go (is_body stage && not (c == 37)) refl
  where
    go : (test : Bool) → (is_body stage && not (c == 37)) ≡ test
        → cond test (c ∷ line) (c ∷ []) ++ more_kept stage (cond test (c ∷ line) (c ∷ [])) bytes ≡ cond test (c ∷ (line ++ bytes)) (c ∷ [])
    go true e = rw e refl
    go false e = rw e refl
