-- A form as the code keeps it, and the bounds within which the code computes.
use Rattle.std.specs.Prelude.{◌≤◌, All, unsigned_abs}
use Rattle.nc_number.specs.declared.limits.TheConstants.{LONGEST_SAID}
use Rattle.nc_number.specs.declared.point.Point.{Point}
use Rattle.arc_contour.specs.Bounds.{IsWritten, IsPieceWithin}
use Rattle.rough_forms.specs.declared.form.ContourForm.{ContourForm}
use Rattle.rough_forms.specs.Roughing.{Rough}

-- what a form of the code says
abbrev pub rough_of : ContourForm → Rough
rough_of form = record {
  frame = form.frame;
  start = form.start;
  depth = form.depth;
  retreat = form.retreat;
  across = form.across;
  along = form.along;
  enters = form.enters;
  first = form.first;
  pieces = form.pieces.items;
}

-- all lengths of a form are such that a literal can write them
pub record IsNearForm (r : Rough) : Type 0 where
  -- where the cycle starts
  pub start : IsWritten r.start
  -- the depth of a cut
  pub depth : r.depth ≤ LONGEST_SAID
  -- how far a pass draws back off its cut
  pub retreat : r.retreat ≤ LONGEST_SAID
  -- the finishing allowance across the passes
  pub across : r.across ≤ LONGEST_SAID
  -- the finishing allowance along the passes
  pub along : r.along ≤ LONGEST_SAID
  -- the first point of the contour
  pub first : IsWritten r.first
  -- the pieces after it
  pub pieces : All (IsPieceWithin LONGEST_SAID) r.pieces

-- the end of a pass is near enough that the code's sums fit 64 bits: X within 400,000 km, Z within
-- 4,000 km
abbrev pub IsNearPass : Point → Type 0
IsNearPass pass = (unsigned_abs pass.x ≤ 400000000000000) × (unsigned_abs pass.z ≤ 4000000000001)
