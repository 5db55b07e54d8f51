-- What is left out meets none of the stretches, since it does not meet their hull (`near_rest`,
-- src/pruning.rt).
use Rattle.std.proofs.Common.{◌∷◌, ◌∙◌, ap, sym, subst}
use Rattle.std.specs.List.{All}
use Rattle.zone_moves.specs.Pairs.{first_pair}
use Rattle.zone_moves.specs.Stretches.{IsPlaced}
use Rattle.zone_moves.proofs.Pruned.{hull_pruned, all_kept}
use Rattle.zone_moves.proofs.pruning.near_rest.Goals as goal

pub returns-clause-same : goal.returns-clause-same
returns-clause-same c =
    let one = c.args.one.now in
    let rest = c.args.rest.now in
    ap (first_pair c.args.gap.now (one ∷ rest)) (rw (c.hull_along.ensures.hull) at c.in_ok-near.ensures.near)
    ∙ hull_pruned c.args.gap.now one rest c.args.right.now

pub returns-clause-placed : goal.returns-clause-placed
returns-clause-placed c =
    subst (All IsPlaced) (sym c.in_ok-near.ensures.near) (all_kept IsPlaced _ c.args.right.now c.requires.right)
