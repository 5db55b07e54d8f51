-- How a contour of a tape is seen, and a move over it told as a block of the tape.
use Rattle.std.specs.Prelude.{ℕ, ◌≤◌, Bool, not, ℤ, neg_ℤ, unsigned_abs, Option, Some, None, IfSome}
use Rattle.nc_number.specs.declared.limits.TheConstants.{LONGEST_SAID}
use Rattle.nc_number.specs.declared.point.Point.{Point}
use Rattle.arc_contour.specs.declared.piece.Piece.{Piece}
use Rattle.arc_contour.specs.declared.piece.Piece.TheVariants.{Line, Arc}
use Rattle.arc_contour.specs.declared.way.Way.{Way}
use Rattle.arc_contour.specs.declared.way.Way.TheVariants.{Along, Across}
use Rattle.plain_block.specs.declared.course.Course.{Course}
use Rattle.plain_block.specs.declared.course.Course.TheVariants as course
use Rattle.plain_block.specs.declared.course.ArcCentre.TheVariants.{Offset}
use Rattle.plain_block.specs.declared.block.PlainBlock.{PlainBlock}
use Rattle.plain_block.specs.declared.block.PlainBlock.TheVariants.{Move}
use Rattle.rough_forms.specs.declared.frame.Frame.{Frame}
use Rattle.rough_forms.specs.declared.frame.Sight.{Sight}
use Rattle.rough_forms.specs.declared.frame.Sight.TheVariants.{Plain, Mirrored}
use Rattle.rough_forms.specs.declared.seen.Leg.{Leg}
use Rattle.rough_forms.specs.declared.seen.Leg.TheVariants.{Rapid, Cut, Round}
use Rattle.rough_forms.specs.declared.seen.SeenMove.{SeenMove}

-- a length, as it is seen
abbrev pub signed : Sight → ℤ → ℤ
signed Plain length = length
signed Mirrored length = neg_ℤ length

-- a length if there is one, as it is seen
abbrev pub signed_if : Sight → Option ℤ → Option ℤ
signed_if sight None = None
signed_if sight (Some length) = Some (signed sight length)

-- the sense of an arc behind a mirror
abbrev pub sense_of : Sight → Bool → Bool
sense_of Plain clockwise = clockwise
sense_of Mirrored clockwise = not clockwise

-- the point so far across and along the passes, as it is seen
abbrev pub signed_point : Frame → ℤ → ℤ → Point
signed_point f across along = record { x = signed f.across across; z = signed f.along along }

-- a point of the tape whose passes run this way, as it is seen
abbrev pub way_point : Way → Frame → Point → Point
way_point Along f p = signed_point f p.x p.z
way_point Across f p = signed_point f p.z p.x

-- a point of the tape, as it is seen
abbrev pub seen : Frame → Point → Point
seen f p = way_point f.way f p

-- an arc whose passes run this way, as it is seen
abbrev pub way_round : Way → Frame → Bool → Point → ℤ → ℤ → Piece
way_round Along f clockwise to i k = Arc clockwise (seen f to) (signed f.across i) (signed f.along k)
way_round Across f clockwise to i k = Arc (not clockwise) (seen f to) (signed f.across k) (signed f.along i)

-- an arc of a contour of the tape, as it is seen
abbrev pub seen_round : Frame → Bool → Point → ℤ → ℤ → Piece
seen_round f clockwise to i k = way_round f.way f (sense_of f.across (sense_of f.along clockwise)) to i k

-- a piece of a contour of the tape, as it is seen
abbrev pub seen_piece : Frame → Piece → Piece
seen_piece f (Line to) = Line (seen f to)
seen_piece f (Arc clockwise to i k) = seen_round f clockwise to i k

-- an arc by I and K
abbrev pub arc : Bool → ℤ → ℤ → Course
arc clockwise i k = course.Arc clockwise (Offset i k)

-- an arc of the tape, from its I and K across and along the passes
abbrev pub told_round : Way → Bool → ℤ → ℤ → Course
told_round Along clockwise across along = arc clockwise across along
told_round Across clockwise across along = arc (not clockwise) along across

-- how a block of the tape moves
abbrev pub told_course : Frame → Leg → Course
told_course f Rapid = course.Rapid
told_course f Cut = course.Cut
told_course f (Round clockwise i k) =
    told_round f.way (sense_of f.across (sense_of f.along clockwise)) (signed f.across i) (signed f.along k)

-- a block of the tape, from where it leads across and along the passes
abbrev pub told_move : Way → Course → Option ℤ → Option ℤ → PlainBlock
told_move Along how across along = Move how across along
told_move Across how across along = Move how along across

-- a move over a contour, as a block of the tape
abbrev pub told : Frame → SeenMove → PlainBlock
told f it = told_move f.way (told_course f it.leg) (signed_if f.across it.x) (signed_if f.along it.z)

-- a leg whose lengths have a negative
unfoldable pub IsSmallLeg : Leg → Type 0
IsSmallLeg Rapid = Unit {0}
IsSmallLeg Cut = Unit {0}
IsSmallLeg (Round clockwise i k) = (unsigned_abs i ≤ LONGEST_SAID) × (unsigned_abs k ≤ LONGEST_SAID)

-- a move whose lengths have a negative
pub record IsSmallMove (it : SeenMove) : Type 0 where
  -- those of its leg
  pub leg : IsSmallLeg it.leg
  -- across
  pub across : IfSome it.x (λ l. unsigned_abs l ≤ 4000000000000000)
  -- along
  pub along : IfSome it.z (λ l. unsigned_abs l ≤ 4000000000000000)
