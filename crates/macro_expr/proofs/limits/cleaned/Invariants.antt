-- What is cleaned so far of the text of a macro expression, with what the rest of the text gives,
-- is the whole text cleaned (loop of `clean_text`, src/limits.rt).
use Rattle.std.proofs.Common.{◌≡◌, ◌++◌, drop, false}
use Rattle.macro_expr.specs.Limits.{clean_text}
use Rattle.macro_expr.proofs.limits.cleaned.Given as goal

abbrev pub invariant-loop-b : goal.invariant-loop-b
invariant-loop-b l = l.clean.items ++ clean_text l.comment (drop l.b-index l.text) ≡ clean_text false l.text
