-- That what was decided of the words of a block leads turret and offset to positions, which every
-- path keeps: the doing of a decision (src/taking.rt) requires it.
use Rattle.std.specs.Prelude.{IfSome}
use Rattle.nc_number.specs.Position.{IsPosition}
use Rattle.path_state.specs.declared.words_step.WordsStep.{WordsStep}
use Rattle.path_state.specs.declared.words_step.WordsTurn.{WordsTurn}
use Rattle.path_state.specs.declared.words_step.WordsTurn.TheVariants as turn
use Rattle.path_state.specs.declared.decision.Decision.{Decision}
use Rattle.path_state.specs.declared.decision.Decision.TheVariants as decision

-- what words do leads the turret, and the offset that is set, to positions
pub record IsFit (step : WordsStep) : Type 0 where
  pub position : IsPosition step.position
  pub offset : IfSome step.offset (λ set. IsPosition set.1)

-- what was decided of words, if they do anything, leads to positions
abbrev pub IsFitTurn : WordsTurn → Type 0
IsFitTurn (turn.AtEnd step) = IsFit step
IsFitTurn (turn.Goes step route) = IsFit step
IsFitTurn _ = Unit {0}

-- a decision of words leads to positions; no other decision moves the turret
abbrev pub HasFitWords : Decision → Type 0
HasFitWords (decision.Words turn) = IsFitTurn turn
HasFitWords _ = Unit {0}
