-- The places so far are near enough (loop of `contour`, src/paths.rt).
use Rattle.std.specs.Prelude.{All}
use Rattle.plane_ways.specs.declared.place.TheConstants.{FAR}
use Rattle.plane_ways.specs.Plane.{IsWithin}
use Rattle.nose_vectors.proofs.paths.contour.Given as goal

abbrev pub invariant-loop-k : goal.invariant-loop-k
invariant-loop-k l = All (IsWithin FAR) l.places.items
