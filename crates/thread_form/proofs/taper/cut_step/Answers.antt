-- The pass is that of its definition (`cut_step`, src/taper.rt).
use Rattle.std.proofs.Common.{◌≡◌, ap, ◌∙◌}
use Rattle.thread_form.specs.Taper.{pass_of, pass_step}
use Rattle.thread_form.proofs.taper.cut_step.Goals as goal

pub returns : goal.returns
returns c = c.in_ok-step.ensures ∙ ap (pass_step c.args.system) c.pass_of-cycle.ensures
