-- What a turn of a path does if the path is to be drained, which it is before it comes to a wait.
-- No other crate cites it. `IsDrained` stands in the contracts of `drain` and of the public
-- `give_turn` (src/turns.rt).
use Rattle.std.specs.Prelude.{◌≡◌, ◌⊎◌, ℕ, true}
use Rattle.drive_line.specs.declared.phase.Phase.{Phase}
use Rattle.drive_line.specs.declared.phase.Phase.TheVariants.{Still}
use Rattle.drive_line.specs.Driving.{has_failed}
use Rattle.seat_table.specs.Turning.{Draining}

-- By the phase of the turret, and by whether the path is to be drained for the wait of this code: the
-- turret stands still and the table was told, so that the path is to be drained no more; or the turret
-- failed, and the path was asked to be drained.
abbrev pub IsDrained : ℕ → Phase → Draining → Type 0
IsDrained code phase drains = ((phase ≡ Still) × (drains ≡ Draining.none)) ⊎ ((has_failed phase ≡ true) × (drains ≡ Draining.asked code))
