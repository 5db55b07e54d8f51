-- For `races`: the list so far is that of the variables below the next one (loops of
-- src/racing.rt).
use Rattle.std.proofs.Common.{◌+◌, ◌≤◌}
use Rattle.race_report.specs.Found.{IsListedBelow}
use Rattle.race_report.specs.RaceLists.{shared_by}
use Rattle.race_report.proofs.racing.races.Given as goal

-- in the loop over the shared variables from #100 on
abbrev pub invariant-loop-variable : goal.invariant-loop-variable
invariant-loop-variable l = record {
  from : 100 ≤ l.variable;
  upto : l.variable ≤ 100 + l.verified.settings.shared100;
  listed : IsListedBelow (shared_by l.verified.settings) l.verified.left l.verified.right l.variable l.races.items;
}

-- in the loop over the shared variables from #500 on
abbrev pub invariant-loop-variable-2 : goal.invariant-loop-variable-2
invariant-loop-variable-2 l = record {
  from : 500 ≤ l.variable;
  upto : l.variable ≤ 500 + l.verified.settings.shared500;
  listed : IsListedBelow (shared_by l.verified.settings) l.verified.left l.verified.right l.variable l.races.items;
}
