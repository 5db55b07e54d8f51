-- The places so far, and those of the legs that are left, are all (loop of `places`, src/legs.rt).
use Rattle.std.proofs.Common.{◌≡◌, ◌++◌, drop}
use Rattle.std.specs.Prelude.{All}
use Rattle.plane_ways.specs.declared.place.TheConstants.{FAR}
use Rattle.plane_ways.specs.Plane.{IsWithin}
use Rattle.nose_path.specs.Legs.{places_of}
use Rattle.nose_path.proofs.legs.places.Given as goal

abbrev pub invariant-loop-leg : goal.invariant-loop-leg
invariant-loop-leg l = record {
  rest : l.places.items ++ places_of (drop l.leg-index l.legs) ≡ places_of l.legs;
  near : All (IsWithin FAR) l.places.items;
}
