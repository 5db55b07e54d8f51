-- A form as the code keeps it, and the bounds within which the code computes. The contracts of
-- src/form.rt ask for them.
use Rattle.std.specs.Prelude.{◌≤◌, All, unsigned_abs}
use Rattle.nc_number.specs.declared.limits.TheConstants.{LONGEST_SAID}
use Rattle.nc_number.specs.declared.point.Point.{Point}
use Rattle.rough_cycle.specs.declared.form.RoughForm.{RoughForm}
use Rattle.rough_cycle.specs.Roughing.{Rough}

-- what a form of the code says
abbrev pub rough_of : RoughForm → Rough
rough_of form = record {
  start = form.start;
  depth = form.depth;
  retreat = form.retreat;
  across = form.across;
  along = form.along;
  first = form.first;
  points = form.points.items;
}

-- both lengths of a point are such that a literal can write them: at most 100 km
abbrev pub IsWritten : Point → Type 0
IsWritten p = (unsigned_abs p.x ≤ LONGEST_SAID) × (unsigned_abs p.z ≤ LONGEST_SAID)

-- all lengths of a form are such that a literal can write them
pub record IsNearForm (r : Rough) : Type 0 where
  -- where the cycle starts
  pub start : IsWritten r.start
  -- the depth of a cut, as a radius
  pub depth : r.depth ≤ LONGEST_SAID
  -- how far a pass draws back off its cut
  pub retreat : r.retreat ≤ LONGEST_SAID
  -- the finishing allowance in X
  pub across : r.across ≤ LONGEST_SAID
  -- the finishing allowance in Z
  pub along : r.along ≤ LONGEST_SAID
  -- the first point of the contour
  pub first : IsWritten r.first
  -- the points after it
  pub points : All IsWritten r.points

-- the end of a pass is near enough that the code's sums fit 64 bits: X within 400,000 km, Z within
-- 4,000 km
abbrev pub IsNearPass : Point → Type 0
IsNearPass pass = (unsigned_abs pass.x ≤ 400000000000000) × (unsigned_abs pass.z ≤ 4000000000000)
