-- The moves of blocks, and the whole points on them: how the law `no_move_enters_the_contour`
-- (src/law.rt) is said.
use Rattle.std.specs.Prelude.{◌≡◌, ◌*◌, false, List, [], ◌∷◌, unwrap_or}
use Rattle.nc_number.specs.declared.point.Point.{Point}
use Rattle.nc_number.specs.Distances.{distance, IsBetween}
use Rattle.rough_cycle.specs.declared.block.PlainBlock.{PlainBlock}
use Rattle.rough_cycle.specs.Inside.{is_inside_from}

-- the point lies on the line from one point to another
pub record IsOn (from to at : Point) : Type 0 where
  -- in X it lies between them
  pub across : IsBetween from.x at.x to.x
  -- in Z it lies between them
  pub along : IsBetween from.z at.z to.z
  -- it lies as far across as along
  pub line : distance at.x from.x * distance to.z from.z ≡ distance to.x from.x * distance at.z from.z

-- the point to which a block leads
abbrev pub point_after : Point → PlainBlock → Point
point_after at block = record { x = unwrap_or block.x at.x; z = unwrap_or block.z at.z }

-- the point to which blocks lead, one after another
abbrev pub after_all : Point → List PlainBlock → Point
after_all at [] = at
after_all at (block ∷ blocks) = after_all (point_after at block) blocks

-- no whole point on the move lies inside the contour
abbrev pub IsClear : Point → List Point → Point → Point → Type 0
IsClear p points from to = (at : Point) → IsOn from to at → is_inside_from p points at ≡ false

-- no whole point on one of the moves of these blocks lies inside the contour
abbrev pub AreClear : Point → List Point → Point → List PlainBlock → Type 0
AreClear p points from [] = Unit {0}
AreClear p points from (block ∷ blocks) = IsClear p points from (point_after from block) × AreClear p points (point_after from block) blocks
