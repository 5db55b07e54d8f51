-- For `first_race`: the parts that the loop has passed have no race, so the first race is that of
-- the parts that are left (loop of src/racing.rt).
use Rattle.std.proofs.Common.{length}
use Rattle.race_report.proofs.FirstRaces.{IsLeft}
use Rattle.race_report.proofs.racing.first_race.Given as goal

abbrev pub invariant-loop-after : goal.invariant-loop-after
invariant-loop-after l = IsLeft l.lines l.variable l.after (length l.lines.one.writes.items)
