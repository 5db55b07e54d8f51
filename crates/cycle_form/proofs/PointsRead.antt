-- One block more of a contour: the points read so far and those of the blocks ahead stay the same.
-- For the loop of `points_of` (src/contour.rt). The lemmas in `at_` speak of the block at a place
-- of a list.
use Rattle.std.proofs.Common.{◌≡◌, ℕ, ◌+◌, ◌<◌, true, false, List, [], ◌∷◌, ◌++◌, drop, length, get_or, Option, Some, None, refl, ap, sym, ◌∙◌}
use Rattle.std.proofs.lemmas.List.{drop_more}
use Rattle.nc_text.specs.declared.tape.Block.{Block}
use Rattle.nc_number.specs.declared.point.Point.{Point}
use Rattle.nc_number.specs.Options.{is_some_of}
use Rattle.cycle_form.specs.Contour.{contour_point, points_behind}

-- The blocks from a place on are the block there and those after it.
rest_is : (blocks : List Block) (i : ℕ) (b : Block) → b ≡ get_or blocks i b → i < length blocks → drop i blocks ≡ b ∷ drop (i + 1) blocks
rest_is blocks i b is before = drop_more blocks i b before ∙ ap (λ c. c ∷ drop (i + 1) blocks) (sym is)

-- A block that leads nowhere ends the contour without an answer.
stops : (done : List Point) (from : Point) (last : ℕ) (b : Block) (bs : List Block) → contour_point from b.body ≡ None → points_behind done from last (b ∷ bs) ≡ None
unfolding points_behind
stops done from last b bs none = rw none refl

-- The block with the last number ends the contour with its points.
ends : (done : List Point) (from : Point) (last : ℕ) (b : Block) (bs : List Block) (to : Point) → contour_point from b.body ≡ Some to → is_some_of last b.sequence ≡ true → points_behind done from last (b ∷ bs) ≡ Some (done ++ to ∷ [])
unfolding points_behind
ends done from last b bs to some numbered = rw (some, numbered) refl

-- A block that leads somewhere and has another number adds its point.
goes_on : (done : List Point) (from : Point) (last : ℕ) (b : Block) (bs : List Block) (to : Point) → contour_point from b.body ≡ Some to → is_some_of last b.sequence ≡ false → points_behind done from last (b ∷ bs) ≡ points_behind (done ++ to ∷ []) to last bs
unfolding points_behind
goes_on done from last b bs to some numbered = rw (some, numbered) refl

-- If no block is left, the contour has no answer.
pub at_end : (done : List Point) (from : Point) (last : ℕ) (all : Option (List Point)) (rest : List Block) → rest ≡ [] → points_behind done from last rest ≡ all → None ≡ all
unfolding points_behind
at_end done from last all rest empty so_far = sym (ap (points_behind done from last) empty) ∙ so_far

-- If the block at this place leads nowhere, the contour has no answer.
pub at_stop : (done : List Point) (from : Point) (last : ℕ) (all : Option (List Point)) (blocks : List Block) (i : ℕ) (b : Block) → b ≡ get_or blocks i b → i < length blocks → points_behind done from last (drop i blocks) ≡ all → contour_point from b.body ≡ None → None ≡ all
at_stop done from last all blocks i b is before so_far none =
    sym (stops done from last b (drop (i + 1) blocks) none) ∙ ap (points_behind done from last) (sym (rest_is blocks i b is before)) ∙ so_far

-- If the block at this place has the last number, the points so far and its own are the answer.
pub at_last : (done new : List Point) (from : Point) (last : ℕ) (all : Option (List Point)) (blocks : List Block) (i : ℕ) (b : Block) (to : Point) → b ≡ get_or blocks i b → i < length blocks → points_behind done from last (drop i blocks) ≡ all → contour_point from b.body ≡ Some to → is_some_of last b.sequence ≡ true → new ≡ done ++ to ∷ [] → Some new ≡ all
at_last done new from last all blocks i b to is before so_far some numbered new_is =
    ap Some new_is ∙ sym (ends done from last b (drop (i + 1) blocks) to some numbered) ∙ ap (points_behind done from last) (sym (rest_is blocks i b is before)) ∙ so_far

-- If the block at this place has another number, the points so far, its own and those ahead are the
-- contour's.
pub at_next : (done new : List Point) (from : Point) (last : ℕ) (all : Option (List Point)) (blocks : List Block) (i : ℕ) (b : Block) (to : Point) → b ≡ get_or blocks i b → i < length blocks → points_behind done from last (drop i blocks) ≡ all → contour_point from b.body ≡ Some to → is_some_of last b.sequence ≡ false → new ≡ done ++ to ∷ [] → points_behind new to last (drop (i + 1) blocks) ≡ all
at_next done new from last all blocks i b to is before so_far some numbered new_is =
    ap (λ l. points_behind l to last (drop (i + 1) blocks)) new_is ∙ sym (goes_on done from last b (drop (i + 1) blocks) to some numbered) ∙ ap (points_behind done from last) (sym (rest_is blocks i b is before)) ∙ so_far
