-- What the choices that are left make of the settings so far is what all make of those before (loop
-- of `take_all`, src/choosing.rt).
use Rattle.std.proofs.Common.{◌≡◌, drop}
use Rattle.form_lines.specs.Choosing.{with_choices}
use Rattle.form_lines.proofs.choosing.take_all.Given as goal

abbrev pub invariant-loop-choice : goal.invariant-loop-choice
invariant-loop-choice l = with_choices l.settings (drop l.choice-index l.choices) ≡ with_choices l.fn.settings l.choices
