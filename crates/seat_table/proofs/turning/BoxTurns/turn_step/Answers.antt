-- The step of a table on the heap answers what the table's step does (`turn_step`, src/turning.rt).
use Rattle.seat_table.specs.Turning.{Answers}
use Rattle.seat_table.proofs.Lifting.{step_lifted}
use Rattle.seat_table.proofs.turning.BoxTurns.turn_step.Goals as goal

pub returns-clause-answer : goal.returns-clause-answer
returns-clause-answer g c = step_lifted c.args.self.now _ c.turn_step.new.self c.turn_step.result
    (λ x next. Answers (g.C.Turns.told x c.args.path) next (g.C.Turns.told c.turn_step.new.self c.args.path)) c.as_mut.ensures.value c.turn_step.ensures.answer
