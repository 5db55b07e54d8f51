-- So far the path went on behind each answer, the calls and the items sent are those of the
-- answers, and the line has no end yet (loop of `run_path`, src/worker.rt).
use Rattle.std.proofs.Common.{◌≡◌, List, All, false}
use Rattle.nc_outside.specs.declared.halt.Next.{Next}
use Rattle.drive_line.specs.Line.{has_end}
use Rattle.path_worker.specs.Work.{Works, GoesOn}
use Rattle.path_worker.proofs.worker.run_path.Given as goal

abbrev pub invariant-loop : goal.invariant-loop
invariant-loop g l =
    (goal.iterator-loop g).can_next l.iterator' × (goal.iterator-loop g).is_finite l.iterator'
    × (l.line.line ≡ l.initial.line.line) × (has_end l.line.items ≡ false)
    × (g.S.Stepper.origin l.stepper ≡ g.S.Stepper.origin l.initial.stepper)
    × ((answers : List Next)
    × Works l.path (g.S.Stepper.calls l.initial.stepper) (g.S.Stepper.calls l.stepper) l.initial.line.items l.line.items answers
    × All GoesOn answers)
