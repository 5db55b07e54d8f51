-- For the proof of `Table::step` (src/table.rt): one step with its moves in the answer, which paths
-- are to be drained after it, and that the other path goes on while this one waits.
use Rattle.std.proofs.Common.{◌≡◌, subst, sym, ◌∙◌}
use Rattle.run_table.specs.declared.answer.TableStep.{TableStep}
use Rattle.run_table.specs.Draining.{resting_behind, FitsRest}
use Rattle.nc_number.specs.Both.{of_path}
use Rattle.run_table.specs.Stepping.{step_of, IsStep}
use Rattle.run_table.proofs.table.Table.step.Goals as goal

pub returns-clause-step : goal.returns-clause-step
returns-clause-step g c =
    subst (λ (s : TableStep). IsStep g.D.Disk.state (step_of c.args.self.now c.args.path) c.args.self.now c.step_into-answer.new.self s)
    (sym c.of.ensures) c.step_into-answer.ensures.step

pub returns-clause-resting : goal.returns-clause-resting
returns-clause-resting g c =
    subst (λ (s : TableStep). c.step_into-answer.new.self.resting ≡ resting_behind c.args.path s c.args.self.now.resting) (sym c.of.ensures) c.step_into-answer.ensures.resting

pub returns-clause-rests : goal.returns-clause-rests
returns-clause-rests g c =
    subst (λ (s : TableStep). FitsRest (of_path c.args.self.now.resting c.args.path) s) (sym c.of.ensures) c.step_into-answer.ensures.rests

pub returns-clause-goes_on : goal.returns-clause-goes_on
returns-clause-goes_on g c = λ code is. c.step_into-answer.ensures.goes_on code (sym c.of.ensures ∙ is)
