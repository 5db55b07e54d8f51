-- The hull so far, along the stretches that are left, is the hull along all (loop of `hull_along`,
-- src/pruning.rt).
use Rattle.std.proofs.Common.{◌≡◌, drop}
use Rattle.zone_area.specs.Range.{IsInCell}
use Rattle.zone_moves.specs.Pairs.{hull_along}
use Rattle.zone_moves.proofs.pruning.hull_along.Given as goal

abbrev pub invariant-loop-stretch : goal.invariant-loop-stretch
invariant-loop-stretch l = record {
  along : hull_along l.hull (drop l.stretch-index l.stretches) ≡ hull_along l.fn.area l.fn.stretches;
  near : IsInCell l.hull;
}
