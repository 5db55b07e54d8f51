-- The places so far are those to which the lines before this one lead, and near enough (loop of
-- `places_to`, src/path.rt).
use Rattle.std.proofs.Common.{◌≡◌, map, take, All}
use Rattle.plane_ways.specs.declared.place.TheConstants.{FAR}
use Rattle.plane_ways.specs.Plane.{IsWithin}
use Rattle.nose_words.specs.Path.{end_place}
use Rattle.nose_words.proofs.path.places_to.Given as goal

abbrev pub invariant-loop-line : goal.invariant-loop-line
invariant-loop-line l = record {
  places : l.places.items ≡ map end_place (take l.line-index l.lines);
  near : All (IsWithin FAR) l.places.items;
}
