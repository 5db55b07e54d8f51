-- For `some_program`: the programs that the loop has passed have no block that does what is looked
-- for, so the rest decides (loop of src/meeting.rt).
use Rattle.std.proofs.Common.{◌≡◌, drop}
use Rattle.race_report.specs.Meeting.{some_program}
use Rattle.race_report.proofs.meeting.some_program.Given as goal

abbrev pub invariant-loop-program : goal.invariant-loop-program
invariant-loop-program l = some_program l.sought l.variable (drop l.program-index l.programs) ≡ some_program l.sought l.variable l.programs
