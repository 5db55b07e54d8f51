-- A disk with a fuse passes a read on to the disk below, or fails it (src/fuse.rt).
use Rattle.std.proofs.Common.{refl, ◌∙◌}
use Rattle.disk_model.proofs.Fused.{carried_fetches}
use Rattle.disk_model.proofs.fuse.FuseDiskDisk.read_at.Goals as goal

pub returns-clause-does : goal.returns-clause-does
returns-clause-does c =
    let e = c.if-not-passes_on.ensures in
    carried_fetches c.args.self.now _ c.read_at.new.self (e.whole refl) (c.self.view_is ∙ e.passed refl) c.args.at c.args.into.now c.read_at.new.into c.read_at.result c.read_at.ensures.does
