-- The stretches that are kept so far, and those to be kept of the rest, are those to be kept of all
-- (loop of `near_ones`, src/pruning.rt).
use Rattle.std.proofs.Common.{◌≡◌, ◌++◌, drop}
use Rattle.std.specs.List.{filter}
use Rattle.zone_moves.specs.Pairs.{meets}
use Rattle.zone_moves.proofs.pruning.near_ones.Given as goal

abbrev pub invariant-loop-stretch : goal.invariant-loop-stretch
invariant-loop-stretch l =
    l.near.items ++ filter (λ s. meets l.fn.gap l.fn.area s.area) (drop l.stretch-index l.stretches)
    ≡ filter (λ s. meets l.fn.gap l.fn.area s.area) l.fn.stretches
