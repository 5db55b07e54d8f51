-- Which chains of calls of loud programs are short, and which loud program a block calls. A program
-- is loud if it, or one that it calls, has a wait or an end. Their recursion from program to
-- program ends by `IsShort`.
use Rattle.std.specs.Prelude.{◌≡◌, ℕ, ◌<◌, true, List, Option, Some}
use Rattle.block_order.specs.declared.control.Control.{Control}
use Rattle.block_order.specs.declared.control.Control.TheVariants.{Call}
use Rattle.block_order.specs.declared.program.ControlProgram.{ControlProgram}
use Rattle.block_order.specs.Labels.{Chain}
use Rattle.block_order.specs.Loud.{loud}

-- No chain of n calls of loud programs begins in the program.
abbrev pub IsShort : List ControlProgram → ℕ → ℕ → Type 0
IsShort tape n program = Chain tape n program → ⊥

-- If the control is a call of a loud program, no chain of n calls of loud programs begins in that
-- program.
abbrev pub IsShortCall : List ControlProgram → ℕ → Control → Type 0
IsShortCall tape n (Call program repeats) = loud tape program ≡ true → IsShort tape n program
IsShortCall tape n other = Unit {0}

-- The control is a call of the program, which is loud and is to run at least once.
pub record IsCallOf (tape : List ControlProgram) (control : Control) (program : ℕ) : Type 0 where
  -- How often the program runs.
  pub repeats : ℕ
  -- The control is a call of the program.
  pub is : control ≡ Call program repeats
  -- It runs at least once.
  pub some : 0 < repeats
  -- It is loud.
  pub is_loud : loud tape program ≡ true

-- A piece is known of the loud program that a block of this control calls, if it calls one.
abbrev pub IsReady : {P : Type 0} → List ControlProgram → (ℕ → Option P) → Control → Type 0
IsReady {P = P} tape known control =
    (program : ℕ) → IsCallOf tape control program → (piece : P) × (known program ≡ Some piece)
