-- A disk with a fuse passes a write on to the disk below, or fails it, and then the write reaches
-- nothing (src/fuse.rt).
use Rattle.std.proofs.Common.{refl, ◌∙◌}
use Rattle.disk_model.proofs.Fused.{carried_writes, carried_model}
use Rattle.disk_model.proofs.fuse.FuseDiskDisk.write_at.Goals as goal

pub returns-clause-model : goal.returns-clause-model
returns-clause-model c =
    let e = c.if-not-passes_on.ensures in
    carried_model c.args.self.now _ c.write_at.new.self (e.whole refl) (c.self.view_is ∙ e.passed refl) c.args.at c.args.bytes.now e.passes c.write_at.ensures.model

pub returns-clause-does : goal.returns-clause-does
returns-clause-does c =
    let e = c.if-not-passes_on.ensures in
    carried_writes c.args.self.now _ c.write_at.new.self (e.whole refl) (c.self.view_is ∙ e.passed refl) c.args.at c.args.bytes.now c.write_at.result c.write_at.ensures.does
