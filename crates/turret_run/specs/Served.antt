-- What a turret gets in a run: its place and a rest there, then moves and rests, and a rest at the end.
-- Runs and Rests say by it how a run ends.
use Rattle.std.specs.Prelude.{◌≡◌, ◌⊎◌, ℕ, ◌≤◌, Bool, true, false, List, [], ◌∷◌, ◌++◌, length, drop}
use Rattle.nc_number.specs.declared.point.Point.{Point}
use Rattle.nc_outside.specs.declared.got.Got.{Got}
use Rattle.nc_outside.specs.declared.got.Got.TheVariants.{Placed, Rested}
use Rattle.nc_outside.specs.declared.rest.Rest.TheVariants.{Place, End}
use Rattle.nc_outside.specs.Faults.{Rose}
use Rattle.nc_outside.specs.Received.{TurretState, Receives}
use Rattle.drive_line.specs.Driving.{move_count, GetsFirst}

-- a place, and a rest there, as a turret gets them before a run
abbrev pub place_told : Point → List Got
place_told at = Placed at ∷ Rested Place ∷ []

-- a place and a rest there, then this, and then a rest at the end, as a turret gets them in a run
abbrev pub turret_told : Point → List Got → List Got
turret_told at told = place_told at ++ (told ++ Rested End ∷ [])

-- a turret took its place and rested there, in a call each, and did not fail: it stands still at its
-- place
abbrev pub IsPlaced : Point → TurretState → TurretState → Type 0
IsPlaced at old new = Receives old new (place_told at) 2 × (new.faults ≡ old.faults)

-- A turret failed at its place: in the one call with it, by which it got nothing, or in the settle
-- behind it. It got no move, and its count of faults rose.
pub record FailsPlace (at : Point) (old new : TurretState) : Type 0 where
  -- it did not get its place, or got it and did not rest there
  pub received : Receives old new [] 1 ⊎ Receives old new (Placed at ∷ []) 2
  -- its count of faults did not sink
  pub later : old.faults ≤ new.faults
  -- its count of faults rose
  pub rose : Rose old.faults new.faults

-- A turret got the first n of these in a run for which both turrets were placed: its place and the
-- rest there at least.
pub record GetsInRun (what : List Got) (n : ℕ) (failed : Bool) (old new : TurretState) : Type 0 where
  -- it got the first n, in order and a call each, and failed at the next of them or did not fail
  pub gets : GetsFirst what n failed old new
  -- it got its place and rested there, which are the first two of these
  pub placed : 2 ≤ n

-- a turret got a prefix of these, and did not fail
abbrev pub GetsPart : List Got → TurretState → TurretState → Type 0
GetsPart what old new = (n : ℕ) × GetsFirst what n false old new

-- a turret got all of these in a run, and did not fail
abbrev pub GetsAll : List Got → TurretState → TurretState → Type 0
GetsAll what old new = GetsInRun what (length what) false old new

-- a turret got its place and a prefix of the rest in a run, and then failed
abbrev pub FailsAmong : List Got → TurretState → TurretState → Type 0
FailsAmong what old new = (n : ℕ) × GetsInRun what n true old new

-- a turret got its place and a prefix of the rest in a run, and may have failed then
abbrev pub GetsSome : List Got → TurretState → TurretState → Type 0
GetsSome what old new = (n : ℕ) × (failed : Bool) × GetsInRun what n failed old new

-- a turret got the first of these in a run, and missed just as many moves as are among the others; if
-- it did not fail it missed none
abbrev pub Misses : List Got → ℕ → TurretState → TurretState → Type 0
Misses what missed old new =
    (n : ℕ) × (failed : Bool) × (missed ≡ move_count (drop n what)) × (failed ≡ false → missed ≡ 0) × GetsInRun what n failed old new
