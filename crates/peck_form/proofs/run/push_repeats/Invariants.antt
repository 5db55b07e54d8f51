-- The lines so far are those before, and the hole's so many times (loop of `push_repeats`,
-- src/run.rt).
use Rattle.std.proofs.Common.{◌≡◌, ◌≤◌, ◌++◌}
use Rattle.peck_form.specs.Run.{hole_lines, repeated}
use Rattle.peck_form.proofs.run.push_repeats.Given as goal

abbrev pub invariant-loop : goal.invariant-loop
invariant-loop l = record {
  put : l.lines.items ≡ l.fn.lines.items ++ repeated l.counter (hole_lines l.said l.turns l.inside l.out);
  rounds : l.counter ≤ l.repeats;
}
