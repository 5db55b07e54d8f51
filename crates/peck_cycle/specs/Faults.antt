-- What no groove and no hole may say. src/fault.rt finds it.
use Rattle.std.specs.Prelude.{◌≡◌, ◌≢◌, ◌⊎◌, ◌≤◌, ◌==◌, ◌&&◌, ◌||◌, not, Bool, ℤ, int_le, Option, Some, None, if◌then◌else◌}
use Rattle.nc_number.specs.Distances.{IsBetween}
use Rattle.peck_cycle.specs.declared.drill.DrillCycle.{DrillCycle}
use Rattle.peck_cycle.specs.declared.groove.GrooveCycle.{GrooveCycle}
use Rattle.peck_cycle.specs.declared.fault.PeckFault.{PeckFault}
use Rattle.peck_cycle.specs.declared.fault.PeckFault.TheVariants.{TooLarge, NoDepth, NoPeck, NoStep, WrongSide}
use Rattle.peck_cycle.specs.declared.pecks.Pecks.{Pecks}
use Rattle.peck_cycle.specs.Grooves.{width_of}
use Rattle.peck_cycle.specs.Near.{IsNearPecks, IsNearGroove, is_near_pecks, is_near_groove}
use Rattle.peck_cycle.specs.Pecks.{depth_of}

-- whether b lies between a and c, or is one of them
abbrev pub is_in_order : ℤ → ℤ → ℤ → Bool
is_in_order a b c = (int_le a b && int_le b c) || (int_le c b && int_le b a)

-- the first of these that pecks say
abbrev pub near_fault_of : Pecks → Option PeckFault
near_fault_of p = if depth_of p == 0 then Some NoDepth else if p.peck == 0 then Some NoPeck else None

-- what pecks may not say
abbrev pub pecks_fault_of : Pecks → Option PeckFault
pecks_fault_of p = if is_near_pecks p then near_fault_of p else Some TooLarge

-- a fault, or else another one
abbrev pub fault_or : Option PeckFault → Option PeckFault → Option PeckFault
fault_or (Some fault) other = Some fault
fault_or None other = other

-- what a hole may not say
abbrev pub hole_fault_of : DrillCycle → Option PeckFault
hole_fault_of d = fault_or (pecks_fault_of d.pecks) (if is_in_order d.start d.pecks.level d.pecks.bottom then None else Some WrongSide)

-- what a groove may not say
abbrev pub groove_fault_of : GrooveCycle → Option PeckFault
groove_fault_of g =
    if is_near_groove g
    then fault_or (pecks_fault_of g.pecks) (if g.step == 0 && not (width_of g == 0) then Some NoStep else None)
    else Some TooLarge

-- pecks that have no fault
pub record IsSoundPecks (p : Pecks) : Type 0 where
  -- words can say them
  pub near : IsNearPecks p
  -- there is something to cut
  pub deep : 1 ≤ depth_of p
  -- a peck is deep
  pub peck : 1 ≤ p.peck

-- a hole that has none
pub record IsSoundHole (d : DrillCycle) : Type 0 where
  -- nor have its pecks
  pub pecks : IsSoundPecks d.pecks
  -- the point R lies between the start and the bottom
  pub ordered : IsBetween d.start d.pecks.level d.pecks.bottom

-- a groove that has none
pub record IsSoundGroove (g : GrooveCycle) : Type 0 where
  -- words can say it
  pub near : IsNearGroove g
  -- its pecks have none
  pub pecks : IsSoundPecks g.pecks
  -- its columns lead on, if there is more than one
  pub columns : (width_of g ≡ 0) ⊎ (1 ≤ g.step)
