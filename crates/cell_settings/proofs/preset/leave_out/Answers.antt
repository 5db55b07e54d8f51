-- `leave_out` takes the offset for the same path, kind and number out of the list (src/preset.rt).
use Rattle.std.proofs.Common.{rules, not}
use Rattle.std.proofs.lemmas.Fn.{filter_same}
use Rattle.cell_settings.specs.Preset.{is_same_place}
use Rattle.cell_settings.proofs.preset.leave_out.Goals as goal

pub returns : goal.returns
returns c = filter_same _ (λ other. not (is_same_place other c.args.place)) _ (λ x b q h. search rules) _ _ c.retain.ensures.filtered
