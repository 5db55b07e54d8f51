-- What a turret got. A turret may tell it or not. The trait Turret says its calls by it.
use Rattle.std.specs.Prelude.{◌≡◌, ℕ, zero, suc, List, [], ◌++◌, Option, Some, None}
use Rattle.nc_outside.specs.declared.got.Got.{Got}
use Rattle.nc_number.specs.Faults.{next}

-- What a turret got, in order, and how many calls it has had. The count stops at the last value of
-- a u64.
pub record Received : Type 0 where
  -- the places, moves and rests that it got, in order
  pub got : List Got
  -- how many calls of `place`, `hand` and `settle` it has had
  pub calls : ℕ

-- All that contracts see of a turret at one moment.
pub record TurretState : Type 0 where
  pub received : Option Received  -- what it got and was asked, where it tells that
  pub faults : ℕ  -- how often it has failed

-- a count of calls when so many more have been made; it stops at the last value of a u64
unfoldable pub counted_on : ℕ → ℕ → ℕ
counted_on calls zero = calls
counted_on calls (suc more) = next (counted_on calls more)

-- a turret had so many calls more, by which it got these; one that tells nothing goes on telling
-- nothing
abbrev pub Adds : Option Received → Option Received → List Got → ℕ → Type 0
Adds None after got calls = after ≡ None
Adds (Some was) after got calls = after ≡ Some (record { got = was.got ++ got; calls = counted_on was.calls calls })

-- a turret got these by so many calls
abbrev pub Receives : TurretState → TurretState → List Got → ℕ → Type 0
Receives old new got calls = Adds old.received new.received got calls
