-- Only other answers were received so far, on the same wire (loop of `await_answer`,
-- src/line_in.rt).
use Rattle.std.proofs.Common.{◌≡◌, ◌++◌, List, ℕ}
use Rattle.drive_line.proofs.line_in.await_answer.Given as goal

abbrev pub invariant-loop : goal.invariant-loop
invariant-loop g l =
    (goal.iterator-loop g).can_next l.iterator' × (goal.iterator-loop g).is_finite l.iterator'
    × (l.back.wire ≡ l.initial.back.wire) × ((others : List ℕ) × (l.back.items ≡ l.initial.back.items ++ others))
