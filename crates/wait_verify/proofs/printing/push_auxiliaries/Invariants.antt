-- For `push_auxiliaries`: the text so far with the M codes that are left is the text with all of
-- them (loop of src/printing.rt).
use Rattle.std.proofs.Common.{◌≡◌, ◌++◌, codes}
use Rattle.wait_verify.specs.Printed.{numbers_text}
use Rattle.wait_verify.proofs.printing.push_auxiliaries.Given as goal

abbrev pub invariant-loop-code : goal.invariant-loop-code
invariant-loop-code l =
    l.fn.text.items ++ numbers_text (codes " M") l.numbers.keys ≡ l.text.items ++ numbers_text (codes " M") l.code-iterator
