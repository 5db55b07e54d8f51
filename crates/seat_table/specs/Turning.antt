-- What a step of a path tells the turret of the path, when the path is to be drained, and why a
-- table has halted. The tellings of a path are the moves, each with the line of its block, and the
-- rests that its steps answered, in order.
use Rattle.std.specs.Prelude.{◌≡◌, ℕ, List, ◌++◌, Option, Some, None}
use Rattle.nc_outside.specs.Calls.{told_at}
use Rattle.nc_outside.specs.declared.got.Got.{Got}
use Rattle.nc_outside.specs.declared.halt.Halt.{Halt}
use Rattle.nc_outside.specs.declared.halt.Next.{Next}
use Rattle.nc_outside.specs.declared.halt.Next.TheVariants.{Silent, Moves, Drain, Finished, Halted}

-- The tellings of a path, in order.
abbrev pub Tellings : Type 0
Tellings = List Got

-- What a step adds to the tellings of its path: what it answers for the turret.
abbrev pub Answers : Tellings → Next → Tellings → Type 0
Answers before next after = after ≡ before ++ told_at next

-- Whether a path is to be drained before it goes on.
pub data Draining : Type 0 where
  -- it comes to no wait, or its turret rests for that
  none : Draining
  -- it comes to the wait of this code, and its turret is to rest before
  due : ℕ → Draining
  -- its turret was told to rest before the wait of this code, and it is not known that it does
  asked : ℕ → Draining

-- the step is no drain
abbrev pub IsNoDrain : Option Next → Type 0
IsNoDrain (Some (Drain code)) = ⊥
IsNoDrain _ = Unit {0}

-- What is answered to a path by whether it is to be drained before the step, and whether it is to
-- be drained behind it: a path that is to be is answered so once, and then nothing more until it was
-- drained. No other path is answered so.
abbrev pub AsksDrain : Draining → Option Next → Draining → Type 0
AsksDrain Draining.none answer after = IsNoDrain answer
AsksDrain (Draining.due code) answer after = (answer ≡ Some (Drain code)) × (after ≡ Draining.asked code)
AsksDrain (Draining.asked code) answer after = (answer ≡ Some Silent) × (after ≡ Draining.asked code)

-- whether a path is to be drained once it was: no more, if that was asked for
abbrev pub once_drained : Draining → Draining
once_drained Draining.none = Draining.none
once_drained (Draining.due code) = Draining.due code
once_drained (Draining.asked code) = Draining.none

-- The first reason to halt stays.
abbrev pub first_reason : Option Halt → Halt → Option Halt
first_reason None why = Some why
first_reason (Some first) why = Some first
