-- Why a form can't be written out, as src/check.rt finds it.
use Rattle.std.specs.Prelude.{ℕ, Bool, true, false, ◌&&◌, ◌||◌, List, [], ◌∷◌, length, pos, ◌+ℤ◌, ◌≤ℤ◌, ◌≤◌, int_lt, int_le, nat_eq, nat_lt, Option, Some, None, if◌then◌else◌}
use Rattle.nc_number.specs.declared.point.Point.{Point}
use Rattle.arc_contour.specs.declared.piece.Piece.{Piece}
use Rattle.arc_contour.specs.declared.way.Way.{Way}
use Rattle.arc_contour.specs.Contour.{to_of, last_of}
use Rattle.arc_contour.specs.Circles.{is_taken}
use Rattle.rough_forms.specs.declared.check.FormFault.{FormFault}
use Rattle.rough_forms.specs.declared.check.FormFault.TheVariants.{Depth, Direction, Arc, Start, Passes}
use Rattle.rough_forms.specs.Roughing.{Rough, IsForm, IsFinishStart, passes_from}

-- the first fault, if there is one, or else the other
abbrev pub or_else : Option FormFault → Option FormFault → Option FormFault
or_else (Some fault) other = Some fault
or_else None other = other

-- why a piece from p belongs to no contour
abbrev pub step_fault : Way → Point → Piece → Option FormFault
step_fault way p piece =
    if int_lt (to_of piece).x p.x || int_lt p.z (to_of piece).z
    then Some Direction
    else (if is_taken way p piece then None else Some Arc)

-- why a contour is none: its first piece that belongs to no contour
abbrev pub steps_fault : Way → Point → List Piece → Option FormFault
steps_fault way p [] = None
steps_fault way p (piece ∷ pieces) = or_else (step_fault way p piece) (steps_fault way (to_of piece) pieces)

-- whether the start's X is at least that of the point with an allowance
abbrev pub is_high : Point → ℕ → Point → Bool
is_high last across start = int_le (last.x +ℤ pos across) start.x

-- whether the start lies above the contour's end with its allowance, and before its first point
abbrev pub starts_well : Rough → Bool
starts_well r = is_high (last_of r.first r.pieces) r.across r.start && int_le r.first.z r.start.z

-- whether there are more than 1,000 passes
abbrev pub passes_fault : Rough → Option FormFault
passes_fault r = if nat_lt 1000 (length (passes_from r 1 1001)) then Some Passes else None

-- why the start or the passes do not go with the contour
abbrev pub start_fault : Rough → Option FormFault
start_fault r = if starts_well r then passes_fault r else Some Start

-- why a form can't be written out, if it can't
abbrev pub form_fault : Rough → Option FormFault
form_fault r =
    if nat_eq r.depth 0
    then Some Depth
    else or_else (steps_fault r.frame.way r.first r.pieces) (start_fault r)

-- what is so of a form without a fault
pub record IsSound (r : Rough) : Type 0 where
  -- it is one that may be written out
  pub form : IsForm r
  -- a cut has a depth
  pub deep : 1 ≤ r.depth
  -- the contour begins at the start's Z, or past it
  pub before : r.first.z ≤ℤ r.start.z
  -- the start is one for G70, too
  pub finish : IsFinishStart r r.start
