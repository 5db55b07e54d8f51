-- For `push_geometries`: the text so far with the G codes that are left is the text with all of
-- them (loop of src/printing.rt).
use Rattle.std.proofs.Common.{◌≡◌, ◌++◌}
use Rattle.wait_verify.specs.Printed.{geometries_text}
use Rattle.wait_verify.proofs.printing.push_geometries.Given as goal

abbrev pub invariant-loop-micro : goal.invariant-loop-micro
invariant-loop-micro l =
    l.fn.text.items ++ geometries_text l.numbers.keys ≡ l.text.items ++ geometries_text l.micro-iterator
