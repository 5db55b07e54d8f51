-- An opening offset that `set` adds takes the place of one for its path, kind and number, and each
-- offset of the list stays allowed, with memory or without (src/preset.rt).
use Rattle.cell_settings.proofs.Kept.{set_keeps}
use Rattle.cell_settings.proofs.preset.PresetList.set.Goals as goal

pub returns-in_err-push-clause-kept : goal.returns-in_err-push-clause-kept
returns-in_err-push-clause-kept c = λ all is.
    set_keeps _ c.args.preset c.self.inside.items.items _ _ c.leave_out.ensures c.push.ensures.items (rw (c.self.view_is) all) is

pub returns-clause-kept : goal.returns-clause-kept
returns-clause-kept c = λ all is.
    set_keeps _ c.args.preset c.self.inside.items.items _ _ c.leave_out.ensures c.push.ensures.items (rw (c.self.view_is) all) is
