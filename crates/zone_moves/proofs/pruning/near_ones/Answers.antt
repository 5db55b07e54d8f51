-- What is kept goes on to be what is kept of all (`near_ones`, src/pruning.rt).
use Rattle.zone_moves.proofs.Pruned.{near_step}
use Rattle.zone_moves.proofs.pruning.near_ones.Goals as goal

pub loop-stretch-preserved : goal.loop-stretch-preserved
loop-stretch-preserved c =
    near_step c.args.gap.now c.args.area.now c.args.stretches.now c.loop-stretch.stretch-index _ c.loop-stretch.near.items _
    c.loop-stretch-test.true c.in_ok-keep_near.ensures c.loop-stretch.invariant
