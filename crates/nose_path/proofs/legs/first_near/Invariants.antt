-- The moves so far are off the contour, and those that are left decide (loop of `first_near`,
-- src/legs.rt).
use Rattle.std.proofs.Common.{◌≡◌, drop}
use Rattle.plane_ways.specs.declared.place.TheConstants.{FAR}
use Rattle.plane_ways.specs.Plane.{IsWithin}
use Rattle.nose_path.specs.Paths.{first_near}
use Rattle.nose_path.proofs.legs.first_near.Given as goal

abbrev pub invariant-loop-number : goal.invariant-loop-number
invariant-loop-number l = record {
  rest : first_near l.number l.d l.from (drop l.number l.path) l.first l.points ≡ first_near 0 l.d l.start l.path l.first l.points;
  near : IsWithin FAR l.from;
}
