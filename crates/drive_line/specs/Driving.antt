-- What the drive of a turret knows of it: what it took and missed, and how it stands (`Driven`,
-- src/driven.rt).
use Rattle.std.specs.Prelude.{◌≡◌, ◌⊎◌, ◌≤◌, ℕ, ◌+◌, suc, Bool, true, false, IsTrue, List, [], ◌∷◌, length, take, drop}
use Rattle.nc_outside.specs.declared.got.Got.{Got}
use Rattle.nc_outside.specs.declared.got.Got.TheVariants.{Placed, Moved, Rested}
use Rattle.nc_outside.specs.Faults.{CountsFault}
use Rattle.nc_outside.specs.Received.{TurretState, Receives}
use Rattle.drive_line.specs.declared.phase.Phase.{Phase}
use Rattle.drive_line.specs.declared.phase.Phase.TheVariants.{Moving, Still, Failed, Halted}

-- A turret as its drive has it: its state, how many moves it took, how many it missed since it
-- failed, and how it stands.
pub record DrivenState : Type 0 where
  -- the state of the turret
  pub state : TurretState
  -- how many moves it took
  pub taken : ℕ
  -- how many it missed since it failed
  pub missed : ℕ
  -- how it stands
  pub phase : Phase

-- a turret that was handed nothing; it may be on its way still to where it was placed
abbrev pub fresh_drive : TurretState → DrivenState
fresh_drive state = record { state = state; taken = 0; missed = 0; phase = Moving }

-- whether the turret failed, be the run halted for that or not
abbrev pub has_failed : Phase → Bool
has_failed Moving = false
has_failed Still = false
has_failed Failed = true
has_failed Halted = true

-- the turret took just n moves and stands still behind them, or it failed and the run was halted
-- for that
abbrev pub IsAtRest : DrivenState → ℕ → Type 0
IsAtRest driven n = ((driven.phase ≡ Still) × (driven.taken ≡ n)) ⊎ (driven.phase ≡ Halted)

-- a turret that was handed a move may be on its way, or has failed
abbrev pub HasMoved : Phase → Type 0
HasMoved phase = (phase ≡ Moving) ⊎ (phase ≡ Failed)

-- how many of these are moves
abbrev pub move_count : List Got → ℕ
move_count [] = 0
move_count (Placed at ∷ told) = move_count told
move_count (Moved what ∷ told) = suc (move_count told)
move_count (Rested at ∷ told) = move_count told

-- how many calls failed: one if the turret has failed, as it is called no more then, and else none
abbrev pub failed_calls : Bool → ℕ
failed_calls true = 1
failed_calls false = 0

-- A turret got the first n of these, a call each. If it failed, that was in one call more, for the
-- next of them. Only then its count of faults rose.
pub record GetsFirst (told : List Got) (n : ℕ) (failed : Bool) (old new : TurretState) : Type 0 where
  -- it got no more than there is, with the call that failed
  pub within : n + failed_calls failed ≤ length told
  -- it got the first n, in order, by a call each, beside the call that failed
  pub received : Receives old new (take n told) (n + failed_calls failed)
  -- its count of faults rose just if it failed
  pub counted : CountsFault old.faults new.faults (IsTrue failed)

-- A turret that was to get these (moves and rests) got the first of them, in order and a call each,
-- and missed the others: none, unless it failed, which it did at the call for the next of them.
pub record Serves (told : List Got) (old : TurretState) (driven : DrivenState) : Type 0 where
  -- how many of these it got
  pub n : ℕ
  -- it got the first n, and has failed or not
  pub gets : GetsFirst told n (has_failed driven.phase) old driven.state
  -- one that did not fail got all
  pub all : has_failed driven.phase ≡ false → n ≡ length told
  -- the moves that it took are those that it got
  pub taken : driven.taken ≡ move_count (take n told)
  -- the moves that it missed are the others
  pub missed : driven.missed ≡ move_count (drop n told)
