-- A step that answers in two parts: an answer without moves, and the list of moves that the caller
-- lends. This joins them to the step of which the other specs speak.
-- No other crate cites this file, but callers meet `step_with` in the clauses of
-- `Table::step_into` (src/table.rt).
use Rattle.std.specs.Prelude.{List, []}
use Rattle.nc_moves.specs.declared.motion.Move.{Move}
use Rattle.two_path.specs.Made.{moves_of_turn, turn_with}
use Rattle.run_table.specs.declared.answer.StepAnswer.{StepAnswer}
use Rattle.run_table.specs.declared.answer.StepAnswer.TheVariants as apart
use Rattle.run_table.specs.declared.answer.TableStep.{TableStep}
use Rattle.run_table.specs.declared.answer.TableStep.TheVariants.{Turned, Drain, Undrained, DiskFault, Halted}

-- the step of this answer and these moves
abbrev pub step_with : StepAnswer → List Move → TableStep
step_with (apart.Turned answer) moves = Turned (turn_with answer moves)
step_with (apart.Drain code) moves = Drain code
step_with apart.Undrained moves = Undrained
step_with apart.DiskFault moves = DiskFault
step_with (apart.Halted why) moves = Halted why

-- the moves of a step: those of its turn, or none if no turn was made
abbrev pub moves_of_step : TableStep → List Move
moves_of_step (Turned turn) = moves_of_turn turn
moves_of_step (Drain code) = []
moves_of_step Undrained = []
moves_of_step DiskFault = []
moves_of_step (Halted why) = []
