-- How the code's answers to the turn of a block (src/advance.rt) are read as effects of the block,
-- and what holds of the moves in them.
use Rattle.std.specs.Prelude.{◌≡◌, ◌≤◌, ℕ, List, [], length}
use Rattle.nc_moves.specs.declared.motion.Move.{Move}
use Rattle.nc_moves.specs.declared.motion.Moves.{Moves}
use Rattle.motion_track.specs.declared.targets.TheConstants.{LONGEST}
use Rattle.motion_track.specs.Within.{AreMovesWithin}
use Rattle.path_state.specs.declared.advance.Advance.{Advance}
use Rattle.path_state.specs.declared.advance.Advance.TheVariants as advance
use Rattle.path_state.specs.declared.advance.BlockAnswer.{BlockAnswer}
use Rattle.path_state.specs.declared.advance.BlockAnswer.TheVariants as answer
use Rattle.path_state.specs.View.{PathView}
use Rattle.path_state.specs.StatementSteps.{write_seen}
use Rattle.path_state.specs.Effect.{Effect, Need, Done, AtWait, AtEnd, Alarm}

-- an answer of the code, with the moves and the path behind it, as the effect of the block
abbrev pub effect_told : BlockAnswer → List Move → PathView → Effect
effect_told (answer.Need variable) moves after = Need variable
effect_told (answer.Done write) moves after = Done after (write_seen write) moves
effect_told (answer.AtWait code) moves after = AtWait code
effect_told answer.AtEnd moves after = AtEnd after moves
effect_told (answer.Alarm cause value) moves after = Alarm cause value

-- if the answer is a need, a wait or an alarm, the path after it is as before
abbrev pub StaysUnlessTold : BlockAnswer → PathView → PathView → Type 0
StaysUnlessTold (answer.Need variable) before after = after ≡ before
StaysUnlessTold (answer.Done write) before after = Unit {0}
StaysUnlessTold (answer.AtWait code) before after = after ≡ before
StaysUnlessTold answer.AtEnd before after = Unit {0}
StaysUnlessTold (answer.Alarm cause value) before after = after ≡ before

-- an answer that holds its moves, as one without them
abbrev pub answer_of : Advance → BlockAnswer
answer_of (advance.Need variable) = answer.Need variable
answer_of (advance.Effect write moves) = answer.Done write
answer_of (advance.AtWait code) = answer.AtWait code
answer_of (advance.AtEnd moves) = answer.AtEnd
answer_of (advance.Alarm cause value) = answer.Alarm cause value

-- the moves that an answer holds; none at a need, at a wait and at an alarm
abbrev pub moves_apart : Advance → List Move
moves_apart (advance.Effect write moves) = moves.list
moves_apart (advance.AtEnd moves) = moves.list
moves_apart _ = []

-- an answer that holds its moves, with the path behind it, as the effect of the block
abbrev pub effect_seen : Advance → PathView → Effect
effect_seen advance after = effect_told (answer_of advance) (moves_apart advance) after

-- if an answer that holds its moves is a need, a wait or an alarm, the path after it is as before
abbrev pub StaysUnlessDone : Advance → PathView → PathView → Type 0
StaysUnlessDone advance before after = StaysUnlessTold (answer_of advance) before after

-- the moves of an effect
abbrev pub moves_of : Effect → List Move
moves_of (Need variable) = []
moves_of (Done after write moves) = moves
moves_of (AtWait code) = []
moves_of (AtEnd after moves) = moves
moves_of (Alarm number value) = []

-- what holds of the moves of every block
pub record AreFitMoves (moves : List Move) : Type 0 where
  -- they are at most seven
  pub few : length moves ≤ 7
  -- they lead to positions and have no I, K or R past the longest length
  pub within : AreMovesWithin LONGEST moves

-- the moves with their line are those of a block at this line: at most seven, which lead to
-- positions and have no I, K or R past the longest length
pub record AreMovesOf (line : ℕ) (moves : Moves) : Type 0 where
  pub here : moves.line ≡ line
  pub few : length moves.list ≤ 7
  pub within : AreMovesWithin LONGEST moves.list

-- the moves that an answer holds, if it holds any, are those of the block at this line
abbrev pub AreMovesAt : ℕ → Advance → Type 0
AreMovesAt line (advance.Need variable) = Unit {0}
AreMovesAt line (advance.Effect write moves) = AreMovesOf line moves
AreMovesAt line (advance.AtWait code) = Unit {0}
AreMovesAt line (advance.AtEnd moves) = AreMovesOf line moves
AreMovesAt line (advance.Alarm cause value) = Unit {0}

-- the path behind an effect; behind a need, a wait and an alarm it is as before
abbrev pub path_after : PathView → Effect → PathView
path_after before (Need variable) = before
path_after before (Done after write moves) = after
path_after before (AtWait code) = before
path_after before (AtEnd after moves) = after
path_after before (Alarm number value) = before
