-- The line is off each line of the contour so far, and those that are left decide (loop of `is_off`,
-- src/strip.rt).
use Rattle.std.proofs.Common.{◌≡◌, drop}
use Rattle.plane_ways.specs.declared.place.TheConstants.{FAR}
use Rattle.plane_ways.specs.Plane.{IsWithin}
use Rattle.plane_ways.specs.Apart.{is_off}
use Rattle.plane_ways.proofs.strip.is_off.Given as goal

abbrev pub invariant-loop-to : goal.invariant-loop-to
invariant-loop-to l = record {
  rest : is_off l.d l.line.from l.line.to l.from (drop l.to-index l.points) ≡ is_off l.d l.line.from l.line.to l.fn.first l.points;
  near : IsWithin FAR l.from;
}
