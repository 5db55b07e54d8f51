-- A disk with a fuse passes a sync on to the disk below, or fails it (src/fuse.rt).
use Rattle.std.proofs.Common.{refl, ◌∙◌}
use Rattle.disk_model.proofs.Fused.{carried_syncs}
use Rattle.disk_model.proofs.fuse.FuseDiskDisk.sync.Goals as goal

pub returns-clause-does : goal.returns-clause-does
returns-clause-does c =
    let e = c.if-not-passes_on.ensures in
    carried_syncs c.args.self.now _ c.sync.new.self (e.whole refl) (c.self.view_is ∙ e.passed refl) c.sync.result c.sync.ensures.does
