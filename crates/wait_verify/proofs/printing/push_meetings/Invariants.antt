-- For `push_meetings`: the text so far with the lines of the labels that are left is the text with
-- all of them (loop of src/printing.rt).
use Rattle.std.proofs.Common.{◌≡◌, ◌++◌, drop}
use Rattle.wait_verify.specs.Printed.{meetings_text}
use Rattle.wait_verify.proofs.printing.push_meetings.Given as goal

abbrev pub invariant-loop-place : goal.invariant-loop-place
invariant-loop-place l =
    l.fn.text.items ++ meetings_text l.left l.right ≡ l.text.items ++ meetings_text (drop l.place l.left) (drop l.place l.right)
