-- Where the moves of a block lead and how far they reach: to positions, and no farther than its
-- motion.
-- For the proofs of `last_end` and `put_moves` (src/moves.rt) and of the motion (src/motion.rt).
use Rattle.std.proofs.Common.{ℕ, Bool, true, false, List, [], ◌∷◌, ◌++◌, Option, Some, None, unwrap_or, IfSome, if◌then◌else◌}
use Rattle.std.proofs.lemmas.List.Elements.{All-nil, All-cons, All-head, All-tail, All-append}
use Rattle.nc_number.specs.declared.point.Point.{Point}
use Rattle.nc_number.specs.declared.value.Var.{Var}
use Rattle.nc_number.specs.declared.value.Var.TheVariants.{Vacant, Is}
use Rattle.nc_number.specs.Position.{IsPosition}
use Rattle.nc_moves.specs.declared.motion.Move.{Move}
use Rattle.nc_moves.specs.declared.motion.Move.TheVariants as move
use Rattle.nc_moves.specs.Motion.{end_of}
use Rattle.modal_state.specs.View.{ModalView}
use Rattle.motion_track.specs.declared.targets.TheConstants.{LONGEST}
use Rattle.motion_track.specs.Within.{IsMoveWithin, AreMovesWithin}
use Rattle.block_values.specs.Values.{Values}
use Rattle.block_values.specs.Moves.{speed_moves, tool_moves, is_auxiliary, auxiliary_moves, all_moves, last_end}

-- the move leads to a position, if it leads anywhere, and reaches no farther than a block may
abbrev Lies : Move → Type 0
Lies move = IsMoveWithin LONGEST move

-- the end of a move is a position, and so is where the turret stood if the move leads nowhere
end_after : (end : Option Point) (at : Point) → IsPosition at → IfSome end IsPosition → IsPosition (unwrap_or end at)
end_after None at here there = here
end_after (Some to) at here there = there

-- behind moves within range the turret stands at a position
pub last_end_stands : (at : Point) (moves : List Move) → IsPosition at → AreMovesWithin LONGEST moves → IsPosition (last_end at moves)
last_end_stands at [] here all = here
last_end_stands at (move ∷ moves) here all =
    last_end_stands (unwrap_or (end_of move) at) moves (end_after (end_of move) at here (All-head Lies move moves all).0) (All-tail Lies move moves all)

-- an empty list of moves is within range
pub none_within : AreMovesWithin LONGEST []
none_within = All-nil Lies

-- the one move of a dwell is within range, since it leads nowhere
pub dwell_within : (ms : ℕ) → AreMovesWithin LONGEST (move.Dwell ms ∷ [])
dwell_within ms = All-cons Lies (move.Dwell ms) [] (tt, tt) (All-nil Lies)

-- the move of S is within range, since it leads nowhere
speed_within : (limits : Bool) (modal : ModalView) (speed : Var) → AreMovesWithin LONGEST (speed_moves limits modal speed)
speed_within limits modal Vacant = All-nil Lies
speed_within true modal (Is s) = All-cons Lies _ [] (tt, tt) (All-nil Lies)
speed_within false modal (Is s) = All-cons Lies _ [] (tt, tt) (All-nil Lies)

-- the move of T is within range, since it leads nowhere
tool_within : (tool : Option ℕ) → AreMovesWithin LONGEST (tool_moves tool)
tool_within None = All-nil Lies
tool_within (Some t) = All-cons Lies (move.Tool t) [] (tt, tt) (All-nil Lies)

-- an auxiliary code that the machine gets, or none, is within range
one_more : (b : Bool) (m : ℕ) → AreMovesWithin LONGEST (if b then move.Aux m ∷ [] else [])
one_more true m = All-cons Lies (move.Aux m) [] (tt, tt) (All-nil Lies)
one_more false m = All-nil Lies

-- the move of the M code, if there is one, is within range
auxiliary_within : (code : Option ℕ) → AreMovesWithin LONGEST (auxiliary_moves code)
auxiliary_within None = All-nil Lies
auxiliary_within (Some m) = one_more (is_auxiliary m) m

-- all moves of a block are within range if those of its motion are
pub all_within : (limits : Bool) (modal : ModalView) (values : Values) (motion : List Move) (code : Option ℕ) → AreMovesWithin LONGEST motion → AreMovesWithin LONGEST (all_moves limits modal values motion code)
all_within limits modal values motion code all =
    let behind = All-append Lies motion (auxiliary_moves code) all (auxiliary_within code) in
    let later = All-append Lies (tool_moves values.tool) (motion ++ auxiliary_moves code) (tool_within values.tool) behind in
    All-append Lies (speed_moves limits modal values.speed) _ (speed_within limits modal values.speed) later
