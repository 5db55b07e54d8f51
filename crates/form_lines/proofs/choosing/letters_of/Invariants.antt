-- The letters so far are those of the choices so far (loop of `letters_of`, src/choosing.rt).
use Rattle.std.proofs.Common.{◌≡◌, take}
use Rattle.form_lines.specs.Choosing.{idle_letters}
use Rattle.form_lines.proofs.choosing.letters_of.Given as goal

abbrev pub invariant-loop-choice : goal.invariant-loop-choice
invariant-loop-choice l = l.letters.items ≡ idle_letters (take l.choice-index l.choices)
