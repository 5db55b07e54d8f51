-- A cut along a taper: where its line begins, its four moves, and why it can't be made. src/cut.rt
-- computes it. The letters are bytes: 82 R, 88 X, 90 Z.
use Rattle.std.specs.Prelude.{◌≤◌, Bool, true, false, not, ◌&&◌, ◌||◌, nat_lt, int_lt, unsigned_abs, List, [], ◌∷◌, Option, Some, None, ℤ, pos, ◌+ℤ◌, if◌then◌else◌}
use Rattle.nc_number.specs.declared.limits.TheConstants.{LONGEST_SAID}
use Rattle.nc_number.specs.declared.point.Point.{Point}
use Rattle.nc_number.specs.Position.{is_position, IsPosition}
use Rattle.plain_block.specs.declared.course.Course.TheVariants.{Rapid, Cut}
use Rattle.plain_block.specs.declared.block.PlainBlock.{PlainBlock}
use Rattle.plain_block.specs.Blocks.{across_to, along_to, straight_to}
use Rattle.plain_form.specs.declared.cause.PlainCause.{PlainCause}
use Rattle.plain_form.specs.declared.cause.PlainCause.TheVariants as cause
use Rattle.cycle_words.specs.Causes.{first_cause}
use Rattle.taper_form.specs.declared.kind.TaperKind.{TaperKind}
use Rattle.taper_form.specs.declared.kind.TaperKind.TheVariants.{Turning, Facing}
use Rattle.taper_form.specs.declared.cut.TaperCut.{TaperCut}

-- where the taper's line begins: as much farther in X than it ends as twice the taper, which is a
-- radius, at the start's Z; or in Z, at the start's X
abbrev pub begin_from : TaperKind → Point → Point → ℤ → Point
begin_from Turning start target taper = record { x = target.x +ℤ (taper +ℤ taper); z = start.z }
begin_from Facing start target taper = record { x = start.x; z = target.z +ℤ taper }

abbrev pub begin_of : TaperCut → Point
begin_of cut = begin_from cut.kind cut.start cut.target cut.taper

-- its moves: to the begin, along the line, off the part, and back
abbrev pub moves_from : TaperKind → Point → Point → Point → List PlainBlock
moves_from Turning start begin target =
    across_to Rapid begin.x ∷ straight_to Cut target ∷ across_to Cut start.x ∷ along_to Rapid start.z ∷ []
moves_from Facing start begin target =
    along_to Rapid begin.z ∷ straight_to Cut target ∷ along_to Cut start.z ∷ across_to Rapid start.x ∷ []

abbrev pub cut_blocks : TaperCut → List PlainBlock
cut_blocks cut = moves_from cut.kind cut.start (begin_of cut) cut.target

-- a start lies between two other places
abbrev pub is_past : ℤ → ℤ → ℤ → Bool
is_past start begin target = (int_lt begin start && int_lt start target) || (int_lt target start && int_lt start begin)

-- the start lies between the begin of the line and its end
abbrev pub is_crossed_from : TaperKind → Point → Point → Point → Bool
is_crossed_from Turning start begin target = is_past start.x begin.x target.x
is_crossed_from Facing start begin target = is_past start.z begin.z target.z

abbrev pub is_crossed : TaperCut → Point → Bool
is_crossed cut begin = is_crossed_from cut.kind cut.start begin cut.target

-- why the line from this begin can't be cut
abbrev pub line_fault : TaperCut → Point → Option PlainCause
line_fault cut begin = if not (is_position begin) || is_crossed cut begin then Some (cause.Range 82) else None

-- why its end can't be reached
abbrev pub place_fault : TaperCut → Option PlainCause
place_fault cut =
    if is_position cut.target then None
    else if is_position (record { x = cut.target.x; z = pos 0 }) then Some (cause.Range 90)
    else Some (cause.Range 88)

-- why a cut whose end can be reached can't be made
abbrev pub taper_fault : TaperCut → Option PlainCause
taper_fault cut = if nat_lt LONGEST_SAID (unsigned_abs cut.taper) then Some (cause.Range 82) else line_fault cut (begin_of cut)

-- why a cut can't be made: its end or its begin lies too far off, or the start lies between them
abbrev pub cut_fault : TaperCut → Option PlainCause
cut_fault cut = first_cause (place_fault cut) (taper_fault cut)

-- its end may be a position, and a literal can write its taper
pub record IsNearCut (cut : TaperCut) : Type 0 where
  pub target : IsPosition cut.target
  pub taper : unsigned_abs cut.taper ≤ LONGEST_SAID
