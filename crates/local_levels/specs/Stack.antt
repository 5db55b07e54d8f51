-- The local variables of a path as a stack of levels, the running level first: what each call of
-- src/stack.rt makes of it.
use Rattle.std.specs.Prelude.{ℕ, ◌-◌, List, [], ◌∷◌, replicate, slice_index_or, slice_set}
use Rattle.nc_number.specs.declared.value.Var.{Var}
use Rattle.nc_number.specs.declared.value.Var.TheVariants.{Vacant}
use Rattle.local_levels.specs.declared.stack.Level.{Level}
use Rattle.local_levels.specs.declared.stack.TheConstants.{LOCALS}

-- All the variables of a level, vacant.
abbrev pub all_vacant : List Var
all_vacant = replicate LOCALS Vacant

-- A level just opened: its variables hold the arguments.
abbrev pub opened_level : List Var → Level
opened_level arguments = record { arguments = arguments; values = arguments }

-- The level that exists before any call.
abbrev pub base_level : Level
base_level = opened_level all_vacant

-- What variable `#i` of the running level holds, counted from 1; vacant if there is no such one.
abbrev pub local : ℕ → List Level → Var
local i [] = Vacant
local i (running ∷ below) = slice_index_or running.values (i - 1) Vacant

-- The stack with variable `#i` of the running level changed.
abbrev pub with_local : ℕ → Var → List Level → List Level
with_local i v [] = []
with_local i v (running ∷ below) = record running { values = slice_set running.values (i - 1) v } ∷ below

-- The stack with its running level opened anew, with the same arguments.
abbrev pub reopened_stack : List Level → List Level
reopened_stack [] = []
reopened_stack (running ∷ below) = opened_level running.arguments ∷ below

-- The stack without its running level.
abbrev pub stack_below : List Level → List Level
stack_below [] = []
stack_below (running ∷ below) = below
