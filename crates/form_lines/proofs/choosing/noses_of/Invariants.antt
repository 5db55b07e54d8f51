-- The noses so far are those of the choices so far (loop of `noses_of`, src/choosing.rt).
use Rattle.std.proofs.Common.{◌≡◌, take}
use Rattle.form_lines.specs.Choosing.{noses_in}
use Rattle.form_lines.proofs.choosing.noses_of.Given as goal

abbrev pub invariant-loop-choice : goal.invariant-loop-choice
invariant-loop-choice l = l.noses.items ≡ noses_in (take l.choice-index l.choices)
