-- The points that the body of a tool may touch while moves are made. They are counted in parts of a
-- count of 0.001 mm, d parts to a count: a law for every d leaves out no point between the whole
-- counts.
use Rattle.std.specs.Prelude.{◌≡◌, ℕ, Bool, true, false, List, [], ◌∷◌, ◌⊎◌, All, Contains, pos, ◌+ℤ◌, ◌≤ℤ◌}
use Rattle.nc_number.specs.declared.path.Path.{Path}
use Rattle.nc_number.specs.declared.path.Path.TheVariants.{One, Two}
use Rattle.nc_number.specs.declared.point.Point.{Point}
use Rattle.nc_moves.specs.declared.motion.Move.{Move}
use Rattle.nc_outside.specs.declared.lined_move.LinedMove.{LinedMove}
use Rattle.zone_area.specs.declared.area.Area.{Area}
use Rattle.zone_area.specs.Passing.{in_parts, MayPass, place_after}
use Rattle.zone_moves.specs.declared.fixed.FixedBox.{FixedBox}
use Rattle.zone_moves.specs.declared.judging.Hit.{Hit}
use Rattle.zone_moves.specs.declared.judging.Hit.TheVariants as hit
use Rattle.zone_moves.specs.declared.stretch.Stretch.{Stretch}
use Rattle.zone_moves.specs.Bodies.{body_of}
use Rattle.zone_moves.specs.Fixed.{binds}
use Rattle.zone_moves.specs.Pairs.{ComeNear}
use Rattle.zone_moves.specs.Stretches.{CellView, tool_after, is_rapid}

-- a point lies in a body whose programmed point is at p
pub record IsOfBody (d : ℕ) (body : Area) (p q : Point) : Type 0 where
  -- it has at least the least X of the body
  pub left : (p.x +ℤ (in_parts d body.low).x) ≤ℤ q.x
  -- it has at most the greatest X of the body
  pub right : q.x ≤ℤ (p.x +ℤ (in_parts d body.high).x)
  -- it has at least the least Z of the body
  pub below : (p.z +ℤ (in_parts d body.low).z) ≤ℤ q.z
  -- it has at most the greatest Z of the body
  pub above : q.z ≤ℤ (p.z +ℤ (in_parts d body.high).z)

-- while a move is made from a place, a body may touch the point: it lies in the body round a point
-- that the move may pass
abbrev pub MayTouch : ℕ → Area → Point → Move → Point → Type 0
MayTouch d body at move q = (p : Point) × MayPass d at move p × IsOfBody d body p q

-- In one of these moves, made one after another from a place with a tool in force, the body of the
-- tool may touch the point. Of moves count those that `which` takes; it is told whether a move is a
-- rapid one.
abbrev pub MovesTouch : (Bool → Bool) → ℕ → CellView → Path → ℕ → Point → List LinedMove → Point → Type 0
MovesTouch which d cell path tool at [] q = ⊥
MovesTouch which d cell path tool at (made ∷ moves) q =
    ((which (is_rapid made.what) ≡ true) × MayTouch d (body_of cell.bodies path (tool_after tool made.what)) at made.what q)
    ⊎ MovesTouch which d cell path (tool_after tool made.what) (place_after at made.what) moves q

-- a path that stands at a place, and then makes these moves, may touch the point with its body
abbrev pub Touches : (Bool → Bool) → ℕ → CellView → Path → ℕ → Point → List LinedMove → Point → Type 0
Touches which d cell path tool at moves q =
    ((which false ≡ true) × IsOfBody d (body_of cell.bodies path tool) (in_parts d at) q)
    ⊎ MovesTouch which d cell path tool at moves q

-- each move counts, and a path that stands
abbrev pub all_moves : Bool → Bool
all_moves rapid = true

-- the area has a low corner and a high one
pub record IsUpright (area : Area) : Type 0 where
  pub across : area.low.x ≤ℤ area.high.x
  pub along : area.low.z ≤ℤ area.high.z

-- the gap is not negative, and areas of stretches and boxes have a low corner and a high one
pub record AreUpright (cell : CellView) (lefts rights : List Stretch) : Type 0 where
  pub across : pos 0 ≤ℤ cell.gap.x
  pub along : pos 0 ≤ℤ cell.gap.z
  pub left_areas : All (λ (stretch : Stretch). IsUpright stretch.area) lefts
  pub right_areas : All (λ (stretch : Stretch). IsUpright stretch.area) rights
  pub boxes : All (λ (fixed : FixedBox). IsUpright fixed.area) cell.boxes

-- a stretch of the path, and a box that bars it and that it comes near
pub record IsTrueBar (cell : CellView) (path : Path) (stretches : List Stretch) (stretch : Stretch) (number : ℕ) : Type 0 where
  -- the box
  pub fixed : FixedBox
  -- it has that number, and is of the path
  pub numbered : fixed.number ≡ number
  pub of_path : fixed.path ≡ path
  -- the stretch and the box are of these lists
  pub moved : Contains stretches stretch
  pub stands : Contains cell.boxes fixed
  -- the box bars such a stretch, and they come within the gap
  pub barred : binds fixed.keeps stretch.rapid ≡ true
  pub near : ComeNear cell.gap stretch.area fixed.area

-- what is hit is in these lists, and comes within the gap
abbrev pub IsTrueHit : CellView → List Stretch → List Stretch → Hit → Type 0
IsTrueHit cell lefts rights (hit.Paths one two) =
    Contains lefts one × Contains rights two × ComeNear cell.gap one.area two.area
IsTrueHit cell lefts rights (hit.Fixed One stretch number) = IsTrueBar cell One lefts stretch number
IsTrueHit cell lefts rights (hit.Fixed Two stretch number) = IsTrueBar cell Two rights stretch number
