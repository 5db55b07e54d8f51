-- For `push_programs`: the text so far with the programs that are left is the text with all of them
-- (loop of src/printing.rt).
use Rattle.std.proofs.Common.{◌≡◌, ◌++◌, codes}
use Rattle.wait_verify.specs.Printed.{numbers_text}
use Rattle.wait_verify.proofs.printing.push_programs.Given as goal

abbrev pub invariant-loop-number : goal.invariant-loop-number
invariant-loop-number l =
    l.fn.text.items ++ numbers_text (codes " O") l.numbers.keys ≡ l.text.items ++ numbers_text (codes " O") l.number-iterator
