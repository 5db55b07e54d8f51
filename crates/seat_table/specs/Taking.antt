-- What one try of a seat comes to, and what it may tell the table. For this crate alone.
use Rattle.std.specs.Prelude.{◌≡◌, ⊤}
use Rattle.nc_outside.specs.Calls.{IsOfTurret}
use Rattle.nc_outside.specs.declared.halt.Next.TheVariants.{Halted}
use Rattle.seat_table.specs.Turning.{Tellings, Answers}
use Rattle.seat_table.specs.declared.knowing.Stop.{Stop}
use Rattle.seat_table.specs.declared.taking.Tried.{Tried}
use Rattle.seat_table.specs.declared.taking.Tried.TheVariants.{Busy, Waits, Stepped}
use Rattle.seat_table.specs.declared.taking.Notice.{Notice}
use Rattle.seat_table.specs.declared.taking.Notice.TheVariants.{Drained, Halt}

-- What one try to step does to the tellings of its path: nothing, or what the step answered.
abbrev pub Tries : Tellings → Tried → Tellings → Type 0
Tries before Busy after = after ≡ before
Tries before Waits after = after ≡ before
Tries before (Stepped next) after = Answers before next after

-- A table that has halted makes no path wait, and its step answers why it halted.
abbrev pub AnswersWhy : Stop → Tried → Type 0
AnswersWhy stop Busy = ⊤
AnswersWhy stop Waits = ⊥
AnswersWhy stop (Stepped next) = next ≡ Halted stop.why

-- The notice may be given: a halt is that of a turret.
abbrev pub IsGiven : Notice → Type 0
IsGiven (Drained path) = ⊤
IsGiven (Halt why) = IsOfTurret why

-- The notice is a halt.
abbrev pub IsHalt : Notice → Type 0
IsHalt (Drained path) = ⊥
IsHalt (Halt why) = ⊤
