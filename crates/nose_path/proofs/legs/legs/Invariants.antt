-- The legs so far, and those of the places that are left, are all (loop of `legs`, src/legs.rt).
use Rattle.std.proofs.Common.{◌≡◌, drop}
use Rattle.std.specs.Prelude.{All}
use Rattle.plane_ways.specs.declared.place.TheConstants.{FAR}
use Rattle.plane_ways.specs.Plane.{IsWithin}
use Rattle.nose_path.specs.Legs.{legs_from, legs_of, IsNearLeg}
use Rattle.nose_path.proofs.Joined.{joined}
use Rattle.nose_path.proofs.legs.legs.Given as goal

abbrev pub invariant-loop-t : goal.invariant-loop-t
invariant-loop-t l = record {
  rest : joined l.legs.items (legs_from l.nose l.ends l.at l.p l.q (drop l.t-index l.points)) ≡ legs_of l.nose l.ends l.first l.second l.points;
  at : IsWithin FAR l.at;
  p : IsWithin FAR l.p;
  q : IsWithin FAR l.q;
  near : All IsNearLeg l.legs.items;
}
