-- The turret was told what all items that were taken tell, and if it failed, that has halted the
-- run (loop of `run_drive`, src/drive.rt).
use Rattle.std.proofs.Common.{◌≡◌, false}
use Rattle.nc_outside.specs.Calls.{IsCalled}
use Rattle.drive_line.specs.Driving.{has_failed, Serves}
use Rattle.drive_line.specs.Line.{told_among, has_end}
use Rattle.path_worker.specs.Drive.{halts_at, once_halted}
use Rattle.path_worker.proofs.drive.run_drive.Given as goal

abbrev pub invariant-loop : goal.invariant-loop
invariant-loop g l =
    (goal.iterator-loop g).can_next l.iterator' × (goal.iterator-loop g).is_finite l.iterator'
    × (l.line.line ≡ l.initial.line.line)
    × (has_end l.line.items ≡ false)
    × (l.line.asked ≡ false)
    × Serves (told_among l.line.items) l.initial.driven.state l.driven
    × (once_halted l.driven.phase ≡ l.driven.phase)
    × IsCalled (g.H.Stepper.calls l.initial.halter) (g.H.Stepper.calls l.halter) (halts_at l.path (has_failed l.driven.phase))
    × (g.H.Stepper.origin l.halter ≡ g.H.Stepper.origin l.initial.halter)
