-- All moves that a block asks of its turret, in their order, and where the turret stands behind
-- them.
use Rattle.std.specs.Prelude.{ℕ, Bool, true, false, not, ◌==◌, ◌&&◌, ◌||◌, nat_le, List, [], ◌∷◌, ◌++◌, Option, Some, None, unwrap_or, ℤ, unsigned_abs, if◌then◌else◌}
use Rattle.nc_number.specs.declared.point.Point.{Point}
use Rattle.nc_number.specs.declared.value.Var.{Var}
use Rattle.nc_number.specs.declared.value.Var.TheVariants.{Vacant, Is}
use Rattle.nc_number.specs.Arithmetic.{whole_of}
use Rattle.nc_moves.specs.declared.motion.Move.{Move}
use Rattle.nc_moves.specs.declared.motion.Move.TheVariants as move
use Rattle.nc_moves.specs.Motion.{end_of}
use Rattle.modal_state.specs.View.{ModalView}
use Rattle.block_values.specs.Values.{Values}

-- the size of a whole number, or 0 if the number has a fraction
abbrev pub whole_or_zero : Option ℤ → ℕ
whole_or_zero None = 0
whole_or_zero (Some n) = unsigned_abs n

-- the move of S, if S is said: the highest speed beside G50 (true), else the speed
abbrev pub speed_moves : Bool → ModalView → Var → List Move
speed_moves limits modal Vacant = []
speed_moves true modal (Is s) = move.Limit (whole_or_zero (whole_of s)) ∷ []
speed_moves false modal (Is s) = move.Speed modal.surface (whole_or_zero (whole_of s)) ∷ []

-- the move of T, if T is said
abbrev pub tool_moves : Option ℕ → List Move
tool_moves None = []
tool_moves (Some t) = move.Tool t ∷ []

-- whether the machine gets an M code: it is at most 999, and none of M02, M30, M98 and M99, which
-- the control does itself. Codes of waits are not left out here: the block of a wait has no moves.
abbrev pub is_auxiliary : ℕ → Bool
is_auxiliary m = nat_le m 999 && not (((m == 2) || (m == 30)) || ((m == 98) || (m == 99)))

-- the M code that the machine gets, if there is one
abbrev pub auxiliary_moves : Option ℕ → List Move
auxiliary_moves None = []
auxiliary_moves (Some m) = if is_auxiliary m then move.Aux m ∷ [] else []

-- all moves of a block: the speed limit or the speed, the tool, the motion, the auxiliary M code.
-- `limits`: G50 stands in the block; `code`: its M code.
abbrev pub all_moves : Bool → ModalView → Values → List Move → Option ℕ → List Move
all_moves limits modal values motion code =
    speed_moves limits modal values.speed ++ (tool_moves values.tool ++ (motion ++ auxiliary_moves code))

-- where the turret stands behind these moves, from `at` on: the end of the last one that goes
-- somewhere
abbrev pub last_end : Point → List Move → Point
last_end at [] = at
last_end at (move ∷ moves) = last_end (unwrap_or (end_of move) at) moves
