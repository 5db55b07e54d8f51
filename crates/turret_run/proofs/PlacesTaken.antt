-- A turret takes its place and rests there, or fails in one of both.
-- The proof of `take_place` (src/placing.rt) uses it.
use Rattle.std.proofs.Common.{arith, ◌≡◌, ◌≤◌, ◌++◌, [], ◌∷◌, ◌∙◌, subst, inl, inr}
use Rattle.nc_number.specs.declared.point.Point.{Point}
use Rattle.nc_outside.specs.declared.got.Got.TheVariants.{Placed, Rested}
use Rattle.nc_outside.specs.declared.rest.Rest.TheVariants.{Place}
use Rattle.nc_outside.specs.Faults.{Rose}
use Rattle.nc_outside.specs.Received.{TurretState, Receives}
use Rattle.drive_line.proofs.Adding.{adds_both}
use Rattle.turret_run.specs.Served.{IsPlaced, FailsPlace}

-- a turret that took its place
module _ (at : Point) (a b c : TurretState) (place : Receives a b (Placed at ∷ []) 1) where
  -- if it rested there and no call failed it stands still at its place
  pub placed : Receives b c (Rested Place ∷ []) 1 → b.faults ≡ a.faults → c.faults ≡ b.faults → IsPlaced at a c
  placed rest first after = (adds_both a.received b.received c.received (Placed at ∷ []) (Rested Place ∷ []) 1 1 place rest, after ∙ first)

  -- if the settle failed, it failed at its place
  pub unsettled : Receives b c [] 1 → b.faults ≡ a.faults → b.faults ≤ c.faults → Rose b.faults c.faults → FailsPlace at a c
  unsettled rest first later rose = record {
    received = inr (adds_both a.received b.received c.received (Placed at ∷ []) [] 1 1 place rest);
    later = omega (arith, first, later);
    rose = subst (λ k. Rose k c.faults) first rose;
  }

-- a turret that failed in the call with its place failed there
pub refused : (at : Point) (a b : TurretState) → Receives a b [] 1 → a.faults ≤ b.faults → Rose a.faults b.faults → FailsPlace at a b
refused at a b got later rose = record { received = inl got; later = later; rose = rose }
