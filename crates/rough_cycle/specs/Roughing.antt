-- The passes of G71, and the blocks that G71 and G70 stand for. Src/form.rt makes these blocks.
-- Lengths are in 0.001 mm, X is a diameter.
use Rattle.std.specs.Prelude.{◌≡◌, ℕ, zero, suc, ◌+◌, ◌*◌, ◌/◌, ◌≤◌, Bool, true, false, ◌&&◌, List, [], ◌∷◌, ◌++◌, map, ℤ, pos, ◌+ℤ◌, ◌-ℤ◌, ◌≤ℤ◌, int_lt, int_le, Option, Some, None, if◌then◌else◌}
use Rattle.std.specs.List.{flat_map}
use Rattle.std.specs.Int.{int_min}
use Rattle.nc_number.specs.declared.point.Point.{Point}
use Rattle.rough_cycle.specs.declared.block.PlainBlock.{PlainBlock}
use Rattle.rough_cycle.specs.Contour.{Descends, last_of, moved_point, moved_points}
use Rattle.nc_number.specs.Distances.{distance}

-- the end of a pass at x, rounded up to a whole number: the least Z at which the contour has X at
-- most x, if it descends and its first point has X at most x
abbrev pub end_at : ℤ → Point → List Point → ℤ
end_at x p [] = p.z
end_at x p (q ∷ points) =
    if int_le q.x x
    then end_at x q points
    else p.z -ℤ pos (distance p.z q.z * distance x p.x / distance q.x p.x)

-- what a G71 form says: its start, the depth of a cut, the retreat, the allowances, and the contour
pub record Rough : Type 0 where
  -- where the cycle starts and ends
  pub start : Point
  -- the depth of a cut, as a radius
  pub depth : ℕ
  -- how far a pass draws back off its cut, as a radius in X and along Z
  pub retreat : ℕ
  -- the finishing allowance in X, a diameter
  pub across : ℕ
  -- the finishing allowance in Z
  pub along : ℕ
  -- the first point of the contour
  pub first : Point
  -- the points after it
  pub points : List Point

-- the first point of the contour with its allowances
abbrev pub first_moved : Rough → Point
first_moved r = moved_point r.across r.along r.first

-- the points after the first, with their allowances
abbrev pub points_moved : Rough → List Point
points_moved r = moved_points r.across r.along r.points

-- what makes a form one that may be written out: its passes and its contour then never cut too deep
pub record IsForm (r : Rough) : Type 0 where
  -- a cut has a depth
  pub deep : 1 ≤ r.depth
  -- the contour begins at the start's Z
  pub at_start : r.first.z ≡ r.start.z
  -- along the contour X does not fall and Z does not rise
  pub descends : Descends r.first r.points
  -- the start's X is at least that of the contour's end and the allowance
  pub high : ((last_of r.first r.points).x +ℤ pos r.across) ≤ℤ r.start.x

-- the X of pass k, from 1: a depth is a radius and X a diameter, so each pass is two depths lower
abbrev pub x_of_pass : Rough → ℕ → ℤ
x_of_pass r k = r.start.x -ℤ pos (2 * r.depth * k)

-- pass k as the point at its end: its X, and the Z at which the contour comes to it
abbrev pub pass_of : Rough → ℕ → Point
pass_of r k = record { x = x_of_pass r k; z = end_at (x_of_pass r k) (first_moved r) (points_moved r) }

-- whether a pass is made: it lies above the contour's first point, and leads down from the start
abbrev pub is_made : Rough → Point → Bool
is_made r pass = int_lt (first_moved r).x pass.x && int_lt pass.z r.start.z

-- pass k, if it is made
abbrev pub made_at : Rough → ℕ → Option Point
made_at r k = if is_made r (pass_of r k) then Some (pass_of r k) else None

-- the passes from k on, at most so many, up to the first that is not made
unfoldable pub passes_from : Rough → ℕ → ℕ → List Point
passes_from r k zero = []
passes_from r k (suc most) =
    if is_made r (pass_of r k) then pass_of r k ∷ passes_from r (k + 1) most else []

-- a block that moves across alone, in X; `cuts` says whether it has G01
abbrev pub across_to : Bool → Point → PlainBlock
across_to cuts p = record { cuts = cuts; x = Some p.x; z = None }

-- a block that moves along alone, in Z
abbrev pub along_to : Bool → Point → PlainBlock
along_to cuts p = record { cuts = cuts; x = None; z = Some p.z }

-- a block that moves both ways
abbrev pub straight_to : Bool → Point → PlainBlock
straight_to cuts p = record { cuts = cuts; x = Some p.x; z = Some p.z }

-- where the tool goes off a pass: back by the retreat in both axes, but along no farther than the
-- start
abbrev pub off_pass : Rough → Point → Point
off_pass r pass = record { x = pass.x +ℤ pos (2 * r.retreat); z = int_min (pass.z +ℤ pos r.retreat) r.start.z }

-- the four blocks of a pass: in, along, off, and back
abbrev pub pass_blocks : Rough → Point → List PlainBlock
pass_blocks r pass =
    across_to false pass
    ∷ along_to true pass
    ∷ straight_to false (off_pass r pass)
    ∷ along_to false r.start
    ∷ []

-- the blocks of a contour of this first point and those after it: from the start to the first
-- point, along the contour, off, and back to the start
abbrev pub contour_blocks : Point → Point → List Point → List PlainBlock
contour_blocks start p points =
    along_to false p
    ∷ across_to false p
    ∷ (map (straight_to true) points ++ across_to true start ∷ along_to false start ∷ [])

-- the blocks of G71: at most so many passes, and then the contour with its allowances
abbrev pub rough_blocks : Rough → ℕ → List PlainBlock
rough_blocks r most =
    flat_map (pass_blocks r) (passes_from r 1 most) ++ contour_blocks r.start (first_moved r) (points_moved r)

-- the blocks of G70 from a start
abbrev pub finish_blocks : Rough → Point → List PlainBlock
finish_blocks r start = contour_blocks start r.first r.points

-- a start from which G70 enters no contour
pub record IsFinishStart (r : Rough) (start : Point) : Type 0 where
  -- its X is at least that of the contour's end
  pub high : (last_of r.first r.points).x ≤ℤ start.x
  -- its Z is at least that of the contour's first point
  pub before : r.first.z ≤ℤ start.z
