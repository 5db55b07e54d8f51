-- What the passes leave: at most what lies within a depth of cut of one of them. For the law
-- `nothing_is_left_but_a_cut` (src/law.rt).
use Rattle.std.specs.Prelude.{◌≡◌, ℕ, zero, suc, false, List, [], ◌∷◌, pos, ◌+ℤ◌, ◌≤ℤ◌, ◌<ℤ◌, ◌⊎◌}
use Rattle.nc_number.specs.declared.point.Point.{Point}
use Rattle.arc_contour.specs.Contour.{last_of}
use Rattle.arc_contour.specs.Least.{is_below_some}
use Rattle.rough_forms.specs.Roughing.{Rough, across_of, first_moved, pieces_moved, outer_moved, x_of_pass, pass_of, passes_from}

-- a point of the start's stock that has room beside each edge that its Z lies in
pub record IsStock (r : Rough) (at : Point) : Type 0 where
  -- it is not lower than the contour's first point
  pub above : (first_moved r).x ≤ℤ at.x
  -- nor higher than the start
  pub below : at.x ≤ℤ r.start.x
  -- it is not past the contour's end
  pub short : (last_of (first_moved r) (pieces_moved r)).z ≤ℤ at.z
  -- it lies before the start
  pub before : at.z <ℤ r.start.z
  -- and not at the Z at which the contour begins, where a pass may end a count before
  pub apart : at.z ≡ (first_moved r).z → ⊥
  -- no edge of the contour with its allowances is above it
  pub free : is_below_some (first_moved r) (outer_moved r) at ≡ false

-- the pass is one of these
abbrev pub IsAmong : List Point → Point → Type 0
IsAmong [] pass = ⊥
IsAmong (own ∷ passes) pass = (own ≡ pass) ⊎ IsAmong passes pass

-- the level of the start, or one of the passes, goes by at this Z
abbrev pub GoesBy : Rough → ℕ → ℕ → Point → Type 0
GoesBy r most zero at = Unit {0}
GoesBy r most (suc k) at = IsAmong (passes_from r 1 most) (pass_of r (suc k)) × ((pass_of r (suc k)).z ≤ℤ at.z)

-- a pass, or the start's level, goes by above the point, no farther from it than a depth of cut
abbrev pub IsNearCut : Rough → ℕ → Point → Type 0
IsNearCut r most at =
    (k : ℕ) × (at.x ≤ℤ x_of_pass r k) × (x_of_pass r k ≤ℤ (at.x +ℤ pos (across_of r.frame.way r.depth))) × GoesBy r most k at
