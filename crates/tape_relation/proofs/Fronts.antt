-- What one line more at the end changes in the parts of a tape's text, the size and the number of
-- lines. For FirstFault, Steps, Ends and Agrees, which go through a text line by line.
use Rattle.std.proofs.Common.{◌≡◌, ℕ, ◌+◌, Bool, true, false, cond, ◌||◌, List, [], ◌∷◌, ◌++◌, length, refl, ap, ◌∙◌, arith}
use Rattle.std.specs.List.{flat_map}
use Rattle.std.proofs.lemmas.List.{length-append}
use Rattle.std.proofs.lemmas.List.Folds.{list_any-append}
use Rattle.std.proofs.lemmas.Grind.{flat_map-append}
use Rattle.nc_text.specs.Lines.{Line, size_of}
use Rattle.tape_relation.specs.Parts.{written_line, size, begins_percent, has_percent, behind_percent}

-- a `%` line among the first is one among all
pub has_more : (front more : List Line) → has_percent front ≡ true → has_percent (front ++ more) ≡ true
has_more front more e = list_any-append begins_percent front more ∙ ap (λ (t : Bool). t || has_percent more) e

-- without a `%` line so far, there is one with one more line exactly if that line is one
pub has_last : (front : List Line) (line : Line) → has_percent front ≡ false → has_percent (front ++ line ∷ []) ≡ (begins_percent line || false)
has_last front line e = list_any-append begins_percent front (line ∷ []) ∙ ap (λ (t : Bool). t || (begins_percent line || false)) e

-- step of `behind_more`: lines after the first `%` line, whether or not the first line is it
behind_first : (test : Bool) (front more : List Line) → (test || has_percent front) ≡ true → (has_percent front ≡ true → behind_percent (front ++ more) ≡ behind_percent front ++ more)
    → cond test (front ++ more) (behind_percent (front ++ more)) ≡ cond test front (behind_percent front) ++ more
behind_first true front more e later = refl
behind_first false front more e later = later e

-- once a `%` line is there, further lines stand after it
pub behind_more : (front more : List Line) → has_percent front ≡ true → behind_percent (front ++ more) ≡ behind_percent front ++ more
behind_more [] more e = absurd cc
behind_more (line ∷ front) more e = behind_first (begins_percent line) front more e (behind_more front more)

-- step of `behind_none`: without a `%` line nothing stands after one, whether or not the first line
-- is tested to be one
none_first : (test : Bool) (front : List Line) → (test || has_percent front) ≡ false → (has_percent front ≡ false → behind_percent front ≡ []) → cond test front (behind_percent front) ≡ []
none_first true front e later = absurd cc
none_first false front e later = later e

-- without a `%` line, nothing stands after one
pub behind_none : (front : List Line) → has_percent front ≡ false → behind_percent front ≡ []
behind_none [] e = refl
behind_none (line ∷ front) e = none_first (begins_percent line) front e (behind_none front)

-- step of `behind_last`: with one line more nothing stands after a `%` line either, whether or not
-- the first line is tested to be one
opened_first : (test : Bool) (front : List Line) (line : Line) → (test || has_percent front) ≡ false → (has_percent front ≡ false → behind_percent (front ++ line ∷ []) ≡ [])
    → cond test (front ++ line ∷ []) (behind_percent (front ++ line ∷ [])) ≡ []
opened_first true front line e later = absurd cc
opened_first false front line e later = later e

-- a choice between no lines and no lines is no lines
nothing_behind : (test : Bool) (nothing : List Line) → nothing ≡ [] → cond test nothing nothing ≡ []
nothing_behind true nothing e = e
nothing_behind false nothing e = e

-- if no line so far is a `%` line, nothing stands after one with one line more either
pub behind_last : (front : List Line) (line : Line) → has_percent front ≡ false → behind_percent (front ++ line ∷ []) ≡ []
behind_last [] line e = nothing_behind (begins_percent line) [] refl
behind_last (first ∷ front) line e = opened_first (begins_percent first) front line e (behind_last front line)

-- a line in the text has its bytes and its line feed
written_size : (bytes : List ℕ) (ended : Bool) → length (written_line (record { bytes = bytes; ended = ended })) ≡ size_of (length bytes) ended
written_size bytes true = length-append bytes (10 ∷ [])
written_size bytes false = let e : length (bytes ++ []) ≡ length bytes + 0 = length-append bytes [] in omega arith

-- one line more has its bytes more, with its line feed
pub size_last : (front : List Line) (line : Line) → size (front ++ line ∷ []) ≡ size front + size_of (length line.bytes) line.ended
size_last front line =
    let all : size (front ++ line ∷ []) ≡ length (flat_map written_line front ++ flat_map written_line (line ∷ [])) = ap length (flat_map-append written_line front (line ∷ [])) in
    let parts : length (flat_map written_line front ++ flat_map written_line (line ∷ [])) ≡ size front + length (flat_map written_line (line ∷ [])) = length-append (flat_map written_line front) (flat_map written_line (line ∷ [])) in
    let one : length (written_line line ++ []) ≡ length (written_line line) + 0 = length-append (written_line line) [] in
    let own : length (written_line line) ≡ size_of (length line.bytes) line.ended = written_size line.bytes line.ended in
    omega arith

-- one line more makes the lines one more
pub length_last : (front : List Line) (line : Line) → length (front ++ line ∷ []) ≡ length front + 1
length_last front line = length-append front (line ∷ [])
