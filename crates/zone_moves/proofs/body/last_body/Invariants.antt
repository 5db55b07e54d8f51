-- What is found so far, with the bodies that are left, is what all of them give (loop of `last_body`,
-- src/body.rt).
use Rattle.std.proofs.Common.{◌≡◌, drop}
use Rattle.zone_moves.specs.Bodies.{last_body, IsBodyArea}
use Rattle.zone_moves.proofs.body.last_body.Given as goal

abbrev pub invariant-loop-body : goal.invariant-loop-body
invariant-loop-body l = record {
  found : last_body l.fn.path l.fn.tool l.found (drop l.body-index l.bodies) ≡ last_body l.fn.path l.fn.tool l.fn.before l.fn.bodies;
  near : IsBodyArea l.found;
}
