-- Asked for its length, a disk with a fuse passes the call on to the disk below, or fails it
-- (src/fuse.rt).
use Rattle.std.proofs.Common.{refl, ◌∙◌}
use Rattle.disk_model.proofs.Fused.{carried_measures}
use Rattle.disk_model.proofs.fuse.FuseDiskDisk.len.Goals as goal

pub returns-clause-does : goal.returns-clause-does
returns-clause-does c =
    let e = c.if-not-passes_on.ensures in
    carried_measures c.args.self.now _ c.len.new.self (e.whole refl) (c.self.view_is ∙ e.passed refl) c.len.result c.len.ensures.does
