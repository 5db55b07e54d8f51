-- Where nothing is hit, what bodies may touch keeps the gap. The laws `clear_moves_keep_apart` and
-- `clear_moves_keep_off_boxes` (src/laws.rt) rest on it.
use Rattle.std.proofs.Common.{◌≡◌, ℕ, ◌≤◌, Bool, true, false, List, [], ◌∷◌, Option, Some, None, ◌⊎◌, inl, inr, refl, ap, sym, subst, ◌∙◌}
use Rattle.std.specs.List.{find, Contains}
use Rattle.nc_number.proofs.Bools.{not_false}
use Rattle.nc_number.specs.declared.both.Both.{Both}
use Rattle.nc_number.specs.declared.path.Path.{Path}
use Rattle.nc_number.specs.declared.path.Path.TheVariants.{One, Two}
use Rattle.nc_number.specs.declared.point.Point.{Point}
use Rattle.nc_number.specs.Both.{of_path}
use Rattle.nc_number.specs.Path.{is_same}
use Rattle.nc_outside.specs.declared.lined_move.LinedMove.{LinedMove}
use Rattle.zone_area.specs.Area.{is_clear}
use Rattle.zone_area.specs.Passing.{IsInside, AreApart, point_in_cell}
use Rattle.zone_area.proofs.Apart.{clear_apart}
use Rattle.zone_moves.specs.declared.fixed.Barred.{Barred}
use Rattle.zone_moves.specs.declared.fixed.FixedBox.{FixedBox}
use Rattle.zone_moves.specs.declared.stretch.Stretch.{Stretch}
use Rattle.zone_moves.specs.Fixed.{binds, is_barred, barred_or, first_barred}
use Rattle.zone_moves.specs.Judged.{pair_hit, barred_hit, judged}
use Rattle.zone_moves.specs.Pairs.{meets, first_met, pair_or, first_pair}
use Rattle.zone_moves.specs.Stretches.{CellView, stretches_of}
use Rattle.zone_moves.specs.Touching.{Touches, all_moves}
use Rattle.zone_moves.proofs.Members.{IsIn, is_in}
use Rattle.zone_moves.proofs.Touched.{lies_in}

-- a stretch that meets none of these is clear of each
met_none : (gap : Point) (l : Stretch) (others : List Stretch) (r : Stretch) → first_met gap l others ≡ None → IsIn r others
    → is_clear gap l.area r.area ≡ true
met_none gap l [] r none is = elim is [ ]
met_none gap l (o ∷ others) r none is = go (meets gap l.area o.area) refl (λ later here. met_none gap l others r later here)
  where
    go : (b : Bool) → meets gap l.area o.area ≡ b → (first_met gap l others ≡ None → IsIn r others → is_clear gap l.area r.area ≡ true)
        → is_clear gap l.area r.area ≡ true
    go true e rest = let wrong : Some o ≡ None = sym (rw e refl) ∙ none in absurd (cc)
    go false e rest = elim is [
      | inl here ↦ subst (λ (s : Stretch). is_clear gap l.area s.area ≡ true) (sym here) (not_false (is_clear gap l.area o.area) e)
      | inr later ↦ rest (sym (rw e refl) ∙ none) later
    ]

-- a pair with a stretch is some pair
pair_or_none : (l : Stretch) (met : Option Stretch) (later : Option (Both Stretch)) → pair_or l met later ≡ None → (met ≡ None) × (later ≡ None)
pair_or_none l (Some two) later none = absurd cc
pair_or_none l None later none = (refl, none)

-- of lists without a pair each stretch is clear of each
pair_none : (gap : Point) (ls others : List Stretch) (l r : Stretch) → first_pair gap ls others ≡ None → IsIn l ls → IsIn r others
    → is_clear gap l.area r.area ≡ true
pair_none gap [] others l r none is there = elim is [ ]
pair_none gap (x ∷ ls) others l r none is there = go is (λ later. pair_none gap ls others l r split.1 later there)
  where
    split : (first_met gap x others ≡ None) × (first_pair gap ls others ≡ None)
    split = pair_or_none x (first_met gap x others) (first_pair gap ls others) none

    go : (l ≡ x) ⊎ IsIn l ls → (IsIn l ls → is_clear gap l.area r.area ≡ true) → is_clear gap l.area r.area ≡ true
    go (inl here) rest = subst (λ (s : Stretch). is_clear gap s.area r.area ≡ true) (sym here) (met_none gap x others r split.0 there)
    go (inr later) rest = rest later

-- what is not found passes no test
find_none : {X : Type 0} (test : X → Bool) (xs : List X) (x : X) → find test xs ≡ None → IsIn x xs → test x ≡ false
find_none test [] x none is = elim is [ ]
find_none test (y ∷ xs) x none is = go (test y) refl (λ later here. find_none test xs x later here)
  where
    go : (b : Bool) → test y ≡ b → (find test xs ≡ None → IsIn x xs → test x ≡ false) → test x ≡ false
    go true e rest = let wrong : Some y ≡ None = sym (rw e refl) ∙ none in absurd cc
    go false e rest = elim is [
      | inl here ↦ ap test here ∙ e
      | inr later ↦ rest (sym (rw e refl) ∙ none) later
    ]

-- a box with a stretch is some box
barred_or_none : (s : Stretch) (fixed : Option FixedBox) (later : Option Barred) → barred_or s fixed later ≡ None → (fixed ≡ None) × (later ≡ None)
barred_or_none s (Some fixed) later none = absurd cc
barred_or_none s None later none = (refl, none)

-- of stretches that no box bars each is barred by none
barred_none : (gap : Point) (path : Path) (boxes : List FixedBox) (ss : List Stretch) (s : Stretch) (fixed : FixedBox)
    → first_barred gap path boxes ss ≡ None → IsIn s ss → IsIn fixed boxes → is_barred gap path s fixed ≡ false
barred_none gap path boxes [] s fixed none is there = elim is [ ]
barred_none gap path boxes (x ∷ ss) s fixed none is there = go is (λ later. barred_none gap path boxes ss s fixed split.1 later there)
  where
    split : (find (is_barred gap path x) boxes ≡ None) × (first_barred gap path boxes ss ≡ None)
    split = barred_or_none x (find (is_barred gap path x) boxes) (first_barred gap path boxes ss) none

    go : (s ≡ x) ⊎ IsIn s ss → (IsIn s ss → is_barred gap path s fixed ≡ false) → is_barred gap path s fixed ≡ false
    go (inl here) rest = subst (λ (t : Stretch). is_barred gap path t fixed ≡ false) (sym here) (find_none (is_barred gap path x) boxes fixed split.0 there)
    go (inr later) rest = rest later

-- a path is the same as itself
same_path : (path : Path) → is_same path path ≡ true
same_path One = refl
same_path Two = refl

-- a stretch is clear of a box of its path that binds it and does not bar it
unbarred_clear : (gap : Point) (path : Path) (s : Stretch) (fixed : FixedBox) → fixed.path ≡ path → binds fixed.keeps s.rapid ≡ true
    → is_barred gap path s fixed ≡ false → is_clear gap s.area fixed.area ≡ true
unbarred_clear gap path s fixed of_it binding unbarred =
    let same : is_same fixed.path path ≡ true = ap (λ p. is_same p path) of_it ∙ same_path path in
    not_false (is_clear gap s.area fixed.area) (sym (rw (same, binding) refl) ∙ unbarred)

-- nothing is hit: no two stretches, and no box by either path
nothing_hit : (pair : Option (Both Stretch)) (one two : Option Barred)
    → pair_hit pair (barred_hit One one (barred_hit Two two None)) ≡ None → (pair ≡ None) × (one ≡ None) × (two ≡ None)
nothing_hit (Some pair) one two none = absurd cc
nothing_hit None (Some one) two none = absurd cc
nothing_hit None None (Some two) none = absurd cc
nothing_hit None None None none = (refl, refl, refl)

-- points in a stretch of each path keep the gap, where nothing is hit
pub kept_apart : (d : ℕ) (cell : CellView) (tool other : ℕ) (at to : Point) (left right : List LinedMove) (p q : Point)
    → 1 ≤ d → judged cell (stretches_of cell One tool at left) (stretches_of cell Two other to right) ≡ None
    → Touches all_moves d cell One tool at left p → Touches all_moves d cell Two other to right q
    → AreApart d cell.gap (point_in_cell d cell.frames.one p) (point_in_cell d cell.frames.two q)
kept_apart d cell tool other at to left right p q some none touch touches =
    let lefts = stretches_of cell One tool at left in
    let rights = stretches_of cell Two other to right in
    let all = nothing_hit (first_pair cell.gap lefts rights) (first_barred cell.gap One cell.boxes lefts) (first_barred cell.gap Two cell.boxes rights) none in
    let l = lies_in all_moves d cell One tool at left p touch in
    let r = lies_in all_moves d cell Two other to right q touches in
    clear_apart d cell.gap l.stretch.area r.stretch.area _ _ some
    (pair_none cell.gap lefts rights l.stretch r.stretch all.0 l.one_of r.one_of) l.inside r.inside

-- a point in a stretch of a path and one in a box keep the gap, where no box is hit
kept_off : (d : ℕ) (cell : CellView) (path : Path) (tool : ℕ) (at : Point) (moves : List LinedMove) (fixed : FixedBox) (p q : Point)
    → 1 ≤ d → first_barred cell.gap path cell.boxes (stretches_of cell path tool at moves) ≡ None
    → Contains cell.boxes fixed → fixed.path ≡ path
    → Touches (binds fixed.keeps) d cell path tool at moves p → IsInside d fixed.area q
    → AreApart d cell.gap (point_in_cell d (of_path cell.frames path) p) q
kept_off d cell path tool at moves fixed p q some none there of_it touch inside =
    let found = lies_in (binds fixed.keeps) d cell path tool at moves p touch in
    clear_apart d cell.gap found.stretch.area fixed.area _ _ some
    (unbarred_clear cell.gap path found.stretch fixed of_it found.counts
    (barred_none cell.gap path cell.boxes (stretches_of cell path tool at moves) found.stretch fixed none found.one_of (is_in cell.boxes fixed there)))
    found.inside inside

-- a point that path 1 may touch and one in a box of path 1 keep the gap, where nothing is hit
pub left_kept_off : (d : ℕ) (cell : CellView) (tool other : ℕ) (at to : Point) (left right : List LinedMove) (fixed : FixedBox) (p q : Point)
    → 1 ≤ d → judged cell (stretches_of cell One tool at left) (stretches_of cell Two other to right) ≡ None
    → Contains cell.boxes fixed → fixed.path ≡ One
    → Touches (binds fixed.keeps) d cell One tool at left p → IsInside d fixed.area q
    → AreApart d cell.gap (point_in_cell d cell.frames.one p) q
left_kept_off d cell tool other at to left right fixed p q some none there of_it touch inside =
    let lefts = stretches_of cell One tool at left in
    let rights = stretches_of cell Two other to right in
    let all = nothing_hit (first_pair cell.gap lefts rights) (first_barred cell.gap One cell.boxes lefts) (first_barred cell.gap Two cell.boxes rights) none in
    kept_off d cell One tool at left fixed p q some all.1 there of_it touch inside

-- a point that path 2 may touch and one in a box of path 2 keep the gap, where nothing is hit
pub right_kept_off : (d : ℕ) (cell : CellView) (tool other : ℕ) (at to : Point) (left right : List LinedMove) (fixed : FixedBox) (p q : Point)
    → 1 ≤ d → judged cell (stretches_of cell One tool at left) (stretches_of cell Two other to right) ≡ None
    → Contains cell.boxes fixed → fixed.path ≡ Two
    → Touches (binds fixed.keeps) d cell Two other to right p → IsInside d fixed.area q
    → AreApart d cell.gap (point_in_cell d cell.frames.two p) q
right_kept_off d cell tool other at to left right fixed p q some none there of_it touch inside =
    let lefts = stretches_of cell One tool at left in
    let rights = stretches_of cell Two other to right in
    let all = nothing_hit (first_pair cell.gap lefts rights) (first_barred cell.gap One cell.boxes lefts) (first_barred cell.gap Two cell.boxes rights) none in
    kept_off d cell Two other to right fixed p q some all.2 there of_it touch inside
