-- For `make_room`: the table has as many places as the loop has made, and each program's lines are
-- as before (loop of src/table.rt).
use Rattle.std.proofs.Common.{◌≡◌, ℕ, ◌≤◌, length}
use Rattle.race_report.specs.Tables.{kept_lines}
use Rattle.race_report.proofs.table.LineTable.make_room.Given as goal

abbrev pub invariant-loop-at : goal.invariant-loop-at
invariant-loop-at l = record {
  many : l._at ≤ length l.self.programs.items;
  same : (q : ℕ) → kept_lines l.self q ≡ kept_lines l.fn.self q;
}
