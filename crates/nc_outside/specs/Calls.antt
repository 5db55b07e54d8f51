-- The calls of a stepper, which gives a path its steps (src/stepper.rt), in order: its steps with
-- what they answered, its drains and its halts. A stepper may tell them or not.
use Rattle.std.specs.Prelude.{◌≡◌, List, [], ◌∷◌, ◌++◌, map, Option, Some, None}
use Rattle.nc_outside.specs.declared.got.Got.{Got}
use Rattle.nc_outside.specs.declared.got.Got.TheVariants.{Moved, Rested}
use Rattle.nc_outside.specs.declared.rest.Rest.TheVariants.{Wait}
use Rattle.nc_outside.specs.declared.lined_move.LinedMove.{LinedMove}
use Rattle.nc_outside.specs.Lined.{lined_moves}
use Rattle.nc_outside.specs.declared.halt.Halt.{Halt}
use Rattle.nc_outside.specs.declared.halt.Halt.TheVariants.{Turret}
use Rattle.nc_outside.specs.declared.halt.Next.{Next}
use Rattle.nc_outside.specs.declared.halt.Next.TheVariants.{Moves, Drain}
use Rattle.nc_outside.specs.declared.stepper.Call.{Call}

-- a stepper had these calls after those before; one that tells none goes on telling none
abbrev pub IsCalled : Option (List Call) → Option (List Call) → List Call → Type 0
IsCalled None after calls = after ≡ None
IsCalled (Some was) after calls = after ≡ Some (was ++ calls)

-- the moves that a step answers, each with the line of its block
abbrev pub moves_of : Next → List LinedMove
moves_of (Moves moves) = lined_moves moves
moves_of _ = []

-- what a step answers for the turret of the path: its moves, or at a drain the rest before the wait
abbrev pub told_at : Next → List Got
told_at (Moves moves) = map Moved (lined_moves moves)
told_at (Drain code) = Rested (Wait code) ∷ []
told_at _ = []

-- what the steps among these calls answered for the turret, in order
abbrev pub told_by : List Call → List Got
told_by [] = []
told_by (Call.Step path answer ∷ calls) = told_at answer ++ told_by calls
told_by (Call.Drained path count ∷ calls) = told_by calls
told_by (Call.Halt why ∷ calls) = told_by calls

-- what the last step among these calls answered, and `before` if there is none
abbrev pub last_answer_behind : Option Next → List Call → Option Next
last_answer_behind before [] = before
last_answer_behind before (Call.Step path answer ∷ calls) = last_answer_behind (Some answer) calls
last_answer_behind before (Call.Drained path count ∷ calls) = last_answer_behind before calls
last_answer_behind before (Call.Halt why ∷ calls) = last_answer_behind before calls

-- what the last step among these calls answered, and none if there is none
abbrev pub last_answer : List Call → Option Next
last_answer calls = last_answer_behind None calls

-- the halt is that of a turret
abbrev pub IsOfTurret : Halt → Type 0
IsOfTurret (Turret path) = Unit {0}
IsOfTurret _ = ⊥
