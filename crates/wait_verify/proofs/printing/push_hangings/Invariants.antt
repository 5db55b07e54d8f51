-- For `push_hangings`: the text so far with the lines of the switches that are left is the text with
-- all of them (loop of src/printing.rt).
use Rattle.std.proofs.Common.{◌≡◌, ◌++◌, drop}
use Rattle.wait_verify.specs.Printed.{hangings_text}
use Rattle.wait_verify.proofs.printing.push_hangings.Given as goal

abbrev pub invariant-loop-hanging : goal.invariant-loop-hanging
invariant-loop-hanging l =
    l.fn.text.items ++ hangings_text l.switches ≡ l.text.items ++ hangings_text (drop l.hanging-index l.switches)
