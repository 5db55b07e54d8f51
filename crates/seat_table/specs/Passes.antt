-- What the passes of a table mean: what clauses see of them (src/seats.rt, src/stepper.rt, and of
-- `IsAsAtStop` src/taking.rt).
use Rattle.std.specs.Prelude.{◌≡◌, Bool, true, false, List, [], ◌∷◌, Option, Some, None, IfSome}
use Rattle.atomic_table.specs.Seated.{TableId}
use Rattle.atomic_table.specs.declared.badge.Badge.{Badge}
use Rattle.nc_number.specs.declared.path.Path.{Path}
use Rattle.nc_number.specs.Both.{of_path}
use Rattle.nc_outside.specs.declared.halt.Halt.{Halt}
use Rattle.nc_outside.specs.declared.stepper.Call.{Call}
use Rattle.seat_table.specs.Turning.{Tellings}
use Rattle.seat_table.specs.declared.knowing.Stop.{Stop}

-- The pass of a path: its table, its path, and the tellings that it lists; the halt of the table, if
-- it had halted when the pass last gave the turn back; and the calls that a stepper over it had.
pub record Pass : Type 0 where
  -- The table at which it has a seat.
  pub table : TableId
  -- The path that it may step.
  pub path : Path
  -- The tellings of the path that its steps made.
  pub told : Tellings
  -- What the table was when the pass found or made it halted, if it did.
  pub stop : Option Stop
  -- The calls that a stepper over the pass had.
  pub calls : List Call

-- The pass of the drive of a path's turret, which lists no tellings.
pub record Halter : Type 0 where
  -- The table at which it has a seat.
  pub table : TableId
  -- The path for whose turret it may halt the run.
  pub path : Path
  -- What the table was when the pass found or made it halted.
  pub stop : Option Stop
  -- The calls that a stepper over the pass had.
  pub calls : List Call

-- A pass that has made no step.
abbrev pub fresh_pass : TableId → Path → Pass
fresh_pass table path = record { table = table; path = path; told = []; stop = None; calls = [] }

-- A pass that has halted nothing.
abbrev pub fresh_halter : TableId → Path → Halter
fresh_halter table path = record { table = table; path = path; stop = None; calls = [] }

-- The table has halted for this reason, with these tellings.
pub record HasStopped {C : Type 0} (told : C → Path → Tellings) (reason : C → Option Halt) (c : C) (stop : Stop) : Type 0 where
  -- The reason is that of the stop.
  pub why : reason c ≡ Some stop.why
  -- The tellings are those of the stop.
  pub told_is : (p : Path) → told c p ≡ of_path stop.told p

-- If a pass knows that the table has halted, the table is what it was then.
abbrev pub IsAsAtStop : {C : Type 0} → (C → Path → Tellings) → (C → Option Halt) → C → Option Stop → Type 0
IsAsAtStop told reason c stop = IfSome stop (HasStopped told reason c)

-- Whether there is a halt among these calls.
abbrev pub has_halt : List Call → Bool
has_halt [] = false
has_halt (Call.Step path answer ∷ calls) = has_halt calls
has_halt (Call.Drained path count ∷ calls) = has_halt calls
has_halt (Call.Halt why ∷ calls) = true

-- What distinguishes the steppers of one table and path from others.
abbrev pub origin_of : TableId → Path → Badge (Unit {0}) × Path
origin_of table path = (record { marker = record {}; table_id = table; id = 0; views = [] }, path)
