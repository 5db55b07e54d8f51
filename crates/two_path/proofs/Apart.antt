-- A turn and its moves, put apart and joined again: for `Machine::turn` and `turn_into`
-- (src/machine.rt), whose answers differ only in that.
use Rattle.std.proofs.Common.{◌≡◌, ℕ, ◌==◌, Bool, true, false, List, Option, Some, None, refl, sym, ap, ◌∙◌}
use Rattle.nc_number.specs.declared.path.Path.{Path}
use Rattle.nc_moves.specs.declared.motion.Move.{Move}
use Rattle.path_state.specs.Advances.{moves_of}
use Rattle.path_state.specs.Effect.{Effect, Need, Done, AtWait, AtEnd, Alarm}
use Rattle.two_path.specs.declared.turn.Turn.{Turn}
use Rattle.two_path.specs.declared.turn.Turn.TheVariants as turn
use Rattle.two_path.specs.declared.turn.TurnAnswer.{TurnAnswer}
use Rattle.two_path.specs.Machine.{MachineView}
use Rattle.two_path.specs.Turns.{result_at_wait, result_by}
use Rattle.two_path.specs.Made.{answer_of, moves_of_turn, turn_with}

-- the answer of a turn without its moves, and these put in again, is the turn
pub rejoined : (t : Turn) → turn_with (answer_of t) (moves_of_turn t) ≡ t
rejoined (turn.Did moves) = refl
rejoined (turn.Ended moves) = refl
rejoined (turn.Read variable stamp) = refl
rejoined (turn.Arrived code) = refl
rejoined (turn.Met code) = refl
rejoined (turn.Waiting code) = refl
rejoined turn.Finished = refl
rejoined (turn.Alarm alarm) = refl
rejoined (turn.Halted alarm) = refl
rejoined turn.Edited = refl

-- an answer and moves that are a turn's are that turn, and these are its moves
pub is_joined : (t : Turn) (answer : TurnAnswer) (moves : List Move) → answer ≡ answer_of t → moves ≡ moves_of_turn t → turn_with answer moves ≡ t
is_joined t answer moves is are = (λ i. turn_with (is i) (are i)) ∙ rejoined t

-- if an answer and moves are a turn's, these are the moves of the turn that they are put in
pub still_apart : (t : Turn) (answer : TurnAnswer) (moves : List Move) → answer ≡ answer_of t → moves ≡ moves_of_turn t
    → moves_of_turn (turn_with answer moves) ≡ moves
still_apart t answer moves is are = ap moves_of_turn (is_joined t answer moves is are) ∙ sym are

-- a turn at a wait makes no moves, whether the other path waits or not
wait_still : (path : Path) (line : ℕ) (m : MachineView) (code : ℕ) (o : Option ℕ) → moves_of (AtWait code) ≡ moves_of_turn (result_at_wait path line m code o).turn
wait_still path line m code None = refl
wait_still path line m code (Some there) = go (code == there) refl
  where
    go : (b : Bool) → (code == there) ≡ b → moves_of (AtWait code) ≡ moves_of_turn (result_at_wait path line m code (Some there)).turn
    go true e = rw e refl
    go false e = rw e refl

-- the moves of a block's turn are those of its effect
pub by_effect : (path : Path) (line : ℕ) (m : MachineView) (e : Effect) → moves_of e ≡ moves_of_turn (result_by path line m e).turn
by_effect path line m (Need variable) = refl
by_effect path line m (Done after write moves) = refl
by_effect path line m (AtWait code) = wait_still path line m code m.paths.two.waiting
by_effect path line m (AtEnd after moves) = refl
by_effect path line m (Alarm number value) = refl
