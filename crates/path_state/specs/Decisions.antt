-- How a decision of the code (src/decision.rt) is read as the effect of the block, before anything
-- of the path changes; and when it may be done. Its moves stand apart, in a list that was lent.
use Rattle.std.specs.Prelude.{ℕ, List, [], Some, None, Result, Ok, Err}
use Rattle.nc_number.specs.declared.value.Var.{Var}
use Rattle.code_tables.specs.declared.system.System.{System}
use Rattle.block_order.specs.Frames.{MayPass}
use Rattle.nc_moves.specs.declared.motion.Move.{Move}
use Rattle.path_state.specs.declared.words_step.WordsStep.{WordsStep}
use Rattle.path_state.specs.declared.words_step.WordsTurn.{WordsTurn}
use Rattle.path_state.specs.declared.words_step.WordsTurn.TheVariants as turn
use Rattle.path_state.specs.declared.decision.Decision.{Decision}
use Rattle.path_state.specs.declared.decision.Decision.TheVariants as decision
use Rattle.block_values.specs.declared.outcome.Stop.{Stop}
use Rattle.block_values.specs.declared.outcome.Stop.TheVariants as stop
use Rattle.block_order.specs.declared.control.Control.{Control}
use Rattle.block_order.specs.declared.program.ControlProgram.{ControlProgram}
use Rattle.block_words.specs.declared.word.FlowWord.{FlowWord}
use Rattle.block_values.specs.declared.values.Values as kept
use Rattle.block_values.specs.Seen.{values_seen}
use Rattle.path_state.specs.View.{PathView}
use Rattle.path_state.specs.declared.route.Route.TheVariants.{Call}
use Rattle.path_state.specs.Routes.{route_end}
use Rattle.path_state.specs.Standing.{standing_of, with_standing}
use Rattle.path_state.specs.Statements.{After}
use Rattle.path_state.specs.StatementSteps.{after_step}
use Rattle.path_state.specs.Effect.{Effect, Need, Done, AtWait, AtEnd, Alarm, Moved, effect_of_words, effect_of_control, of_moved, with_set_offset}

-- the path behind the words of a block, control aside: modal state, offsets and position are new
abbrev pub behind_words : PathView → WordsStep → PathView
behind_words path step = record path {
  modal = step.modal;
  offsets = with_set_offset path.offsets step.offset;
  position = step.position;
}

-- what the words of a block do, with these moves, or the number of their alarm
abbrev pub moved_seen : PathView → Result WordsStep ℕ → List Move → Result Moved ℕ
moved_seen path (Ok step) moves = Ok (record { path = behind_words path step; moves = moves })
moved_seen path (Err number) moves = Err number

-- the need or the alarm at which a step stopped, as an effect
abbrev pub effect_of_stop : Stop → Effect
effect_of_stop (stop.Needs variable) = Need variable
effect_of_stop (stop.Alarms number value) = Alarm number value

-- the effect of a block whose words say these values, or stopped
abbrev pub of_said : List ControlProgram → PathView → System → List FlowWord → Control → Result kept.Values Stop → Effect
of_said tape path system words control (Ok values) =
    of_moved tape control (effect_of_words path.fixed path system words (values_seen values))
of_said tape path system words control (Err stop) = effect_of_stop stop

-- the effect of a macro call whose arguments are these, or stopped
abbrev pub of_arguments_said : List ControlProgram → PathView → Control → Result (List Var) Stop → Effect
of_arguments_said tape path control (Ok arguments) =
    effect_of_control tape (record { path = path; moves = [] }) (Some arguments) control
of_arguments_said tape path control (Err stop) = effect_of_stop stop

-- the effect of a macro call that was decided: the call is open with these arguments, or it stopped
abbrev pub macro_decided : PathView → ℕ → ℕ → Result (List Var) Stop → Effect
macro_decided path program repeats (Ok arguments) =
    Done (with_standing path (route_end (standing_of path) (Some arguments) (Call program repeats))) None []
macro_decided path program repeats (Err stop) = effect_of_stop stop

-- what was decided of words that call no macro, with these moves, as an effect
abbrev pub words_decided : PathView → WordsTurn → List Move → Effect
words_decided path (turn.Stops stop) moves = effect_of_stop stop
words_decided path (turn.AtWait code) moves = AtWait code
words_decided path (turn.AtEnd step) moves = AtEnd (behind_words path step) moves
words_decided path (turn.Goes step route) moves =
    Done (with_standing (behind_words path step) (route_end (standing_of path) None route)) None moves

-- the effect of a statement that is done, with these moves
abbrev pub done_with : After → List Move → Effect
done_with after moves = Done after.path after.write moves

-- what was decided of a block, with these moves, as an effect
abbrev pub effect_of_decision : PathView → Decision → List Move → Effect
effect_of_decision path (decision.Stops stop) moves = effect_of_stop stop
effect_of_decision path (decision.Words turn) moves = words_decided path turn moves
effect_of_decision path (decision.Macro program repeats arguments) moves =
    Done (with_standing path (route_end (standing_of path) (Some arguments) (Call program repeats))) None moves
effect_of_decision path (decision.Statement step) moves = done_with (after_step path step) moves

-- what was decided of words may be done: if control goes on, the running block has a number for the
-- one behind it
abbrev pub MayTakeWords : PathView → WordsTurn → Type 0
MayTakeWords path (turn.Goes step route) = MayPass path.place
MayTakeWords path _ = Unit {0}

-- a decision may be done: if control goes on, the running block has a number for the one behind it
abbrev pub MayTake : PathView → Decision → Type 0
MayTake path (decision.Stops stop) = Unit {0}
MayTake path (decision.Words turn) = MayTakeWords path turn
MayTake path (decision.Macro program repeats arguments) = MayPass path.place
MayTake path (decision.Statement step) = MayPass path.place
