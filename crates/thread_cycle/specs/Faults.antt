-- What no threading cycle may say. src/fault.rt finds it.
use Rattle.std.specs.Prelude.{◌≡◌, ◌⊎◌, ◌<◌, ◌≤◌, ◌==◌, nat_le, nat_lt, int_le, ℤ, pos, ◌≤ℤ◌, ◌<ℤ◌, unsigned_abs, Option, Some, None, if◌then◌else◌}
use Rattle.thread_cycle.specs.declared.cycle.ThreadCycle.{ThreadCycle}
use Rattle.thread_cycle.specs.declared.fault.ThreadFault.{ThreadFault}
use Rattle.thread_cycle.specs.declared.fault.ThreadFault.TheVariants.{AllLeft, TooLarge, NoPass, NoLead, Short, Steep, BelowCrest}
use Rattle.thread_cycle.specs.Crests.{IsOffCrest, starts_off}
use Rattle.thread_cycle.specs.Near.{IsNearCycle, is_near_cycle}
use Rattle.thread_cycle.specs.Passes.{whole_length, whole_infeed}

-- what passes can't do that literals can write, the first of these
abbrev pub near_fault_of : ThreadCycle → Option ThreadFault
near_fault_of t =
    if t.finishing == 0
    then Some NoPass
    else if int_le t.lead (pos 0)
    then Some NoLead
    else if nat_le (whole_length t) (whole_infeed t)
    then Some Short
    else if nat_lt (whole_length t) (unsigned_abs t.taper)
    then Some Steep
    else if starts_off t
    then None
    else Some BelowCrest

-- what any passes can't do
abbrev pub pass_fault_of : ThreadCycle → Option ThreadFault
pass_fault_of t = if is_near_cycle t then near_fault_of t else Some TooLarge

-- what a cycle may not say
abbrev pub fault_of : ThreadCycle → Option ThreadFault
fault_of t = if nat_le t.depth t.left then Some AllLeft else pass_fault_of t

-- there are a pass and a lead
abbrev pub IsMade : ThreadCycle → Type 0
IsMade t = (1 ≤ t.finishing) × (pos 0 <ℤ t.lead)

-- and the thread is longer than it begins ahead of the start
abbrev pub IsLong : ThreadCycle → Type 0
IsLong t = IsMade t × (whole_infeed t < whole_length t)

-- when the passes have a fault, and when they have none: each only where those before it are not
abbrev pub IsPassFault : ThreadCycle → Option ThreadFault → Type 0
IsPassFault t (Some AllLeft) = ⊥
IsPassFault t (Some TooLarge) = IsNearCycle t → ⊥
IsPassFault t (Some NoPass) = IsNearCycle t × (t.finishing ≡ 0)
IsPassFault t (Some NoLead) = IsNearCycle t × (1 ≤ t.finishing) × (t.lead ≤ℤ pos 0)
IsPassFault t (Some Short) = IsNearCycle t × IsMade t × (whole_length t ≤ whole_infeed t)
IsPassFault t (Some Steep) = IsNearCycle t × IsLong t × (whole_length t < unsigned_abs t.taper)
IsPassFault t (Some BelowCrest) = IsNearCycle t × IsLong t × (unsigned_abs t.taper ≤ whole_length t) × (IsOffCrest t t.start.x → ⊥)
IsPassFault t None = IsNearCycle t × IsLong t × (unsigned_abs t.taper ≤ whole_length t) × IsOffCrest t t.start.x

-- when the cycle has a fault, and when it has none
abbrev pub IsFault : ThreadCycle → Option ThreadFault → Type 0
IsFault t fault = ((fault ≡ Some AllLeft) × (t.depth ≤ t.left)) ⊎ ((t.left < t.depth) × IsPassFault t fault)
