-- The points that the moves of blocks of a tape may pass, in parts, and that none of them lies, as it
-- is seen, inside a contour.
use Rattle.std.specs.Prelude.{◌≡◌, ℕ, false, List, [], ◌∷◌}
use Rattle.nc_number.specs.declared.point.Point.{Point}
use Rattle.arc_contour.specs.declared.edge.Edge.{Edge}
use Rattle.arc_contour.specs.declared.way.Way.TheVariants.{Along}
use Rattle.arc_contour.specs.Edges.{centre_of}
use Rattle.arc_contour.specs.Inside.{is_inside, in_parts, edges_in_parts}
use Rattle.plain_block.specs.declared.course.Course.{Course}
use Rattle.plain_block.specs.declared.course.Course.TheVariants.{Rapid, Cut, Thread, Arc}
use Rattle.plain_block.specs.declared.course.ArcCentre.TheVariants.{Offset, Radius}
use Rattle.plain_block.specs.declared.block.PlainBlock.{PlainBlock}
use Rattle.plain_block.specs.declared.block.PlainBlock.TheVariants.{Move, Dwell}
use Rattle.plain_block.specs.Places.{point_after}
use Rattle.rough_forms.specs.declared.frame.Frame.{Frame}
use Rattle.rough_forms.specs.Frames.{seen}
use Rattle.rough_forms.specs.Moves.{IsAmid, IsOn, IsOnArc}

-- a course from one point to another may pass the point: of an arc by R, whose centre is not said here,
-- any point
abbrev pub CourseMayPass : ℕ → Point → Course → Point → Point → Type 0
CourseMayPass d from Rapid to at = IsAmid (in_parts d from) (in_parts d to) at
CourseMayPass d from Cut to at = IsOn (in_parts d from) (in_parts d to) at
CourseMayPass d from (Thread lead) to at = IsOn (in_parts d from) (in_parts d to) at
CourseMayPass d from (Arc clockwise (Offset i k)) to at = IsOnArc Along d from to (centre_of Along from i k) at
CourseMayPass d from (Arc clockwise (Radius r)) to at = Unit {0}

-- a block may pass the point; in a rest the tool stays
abbrev pub BlockMayPass : ℕ → Point → PlainBlock → Point → Type 0
BlockMayPass d from (Move course x z) at = CourseMayPass d from course (point_after from (Move course x z)) at
BlockMayPass d from (Dwell ms) at = CourseMayPass d from Rapid from at

-- no point that one of these blocks of a tape may pass is seen inside the contour
abbrev pub KeepOut : ℕ → Frame → Point → List Edge → Point → List PlainBlock → Type 0
KeepOut d f p edges from [] = Unit {0}
KeepOut d f p edges from (block ∷ blocks) =
    ((at : Point) → BlockMayPass d from block at → is_inside (in_parts d p) (edges_in_parts d edges) (seen f at) ≡ false)
    × KeepOut d f p edges (point_after from block) blocks
