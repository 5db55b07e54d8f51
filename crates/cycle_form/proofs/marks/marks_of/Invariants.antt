-- The marks so far and those of the bytes ahead are the text's (loop of `marks_of`, src/marks.rt).
use Rattle.std.proofs.Common.{◌≡◌, ◌++◌, false, drop}
use Rattle.cycle_form.specs.Marks.{marks_from}
use Rattle.cycle_form.proofs.marks.marks_of.Given as goal

abbrev pub invariant-loop-b : goal.invariant-loop-b
invariant-loop-b l = l.marks.items ++ marks_from l.marked (drop l.b-index l.text) ≡ marks_from false l.text
