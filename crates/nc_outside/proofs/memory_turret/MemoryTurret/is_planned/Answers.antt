-- A call of a turret in memory that is planned to fail raises the count of faults, and another
-- leaves it (src/memory_turret.rt).
use Rattle.std.proofs.Common.{◌≡◌, true, false, Bool, IsTrue, refl, subst}
use Rattle.nc_outside.specs.Faults.{CountsFault}
use Rattle.nc_outside.specs.Kept.{KeptMoves, turret_of}
use Rattle.nc_outside.specs.Plan.{fault_count}
use Rattle.nc_outside.proofs.Counted.{in_all, call_counts, settle_counts}
use Rattle.nc_outside.proofs.memory_turret.MemoryTurret.is_planned.Goals as goal

-- what is not true is false
is_false : (b : Bool) → (IsTrue b → ⊥) → b ≡ false
is_false true none = absurd (none refl)
is_false false none = refl

pub returns-in-Placed-clause-fault : goal.returns-in-Placed-clause-fault
returns-in-Placed-clause-fault c =
    let inside = c.self.inside in
    let P : KeptMoves → Type 0 = λ old. CountsFault (turret_of old).faults (in_all (fault_count c.call.new.self) inside.past (fault_count inside.settling)) (IsTrue c.call.result) in
    subst P c.self.view_is (call_counts (fault_count inside.plan) (fault_count c.call.new.self) inside.past (fault_count inside.settling) (IsTrue c.call.result) c.call.ensures.rose (λ none. c.call.ensures.kept (is_false c.call.result none)) c.call.ensures.later)

pub returns-in-Moved-clause-fault : goal.returns-in-Moved-clause-fault
returns-in-Moved-clause-fault c =
    let inside = c.self.inside in
    let call = c.call-in-Moved in
    let P : KeptMoves → Type 0 = λ old. CountsFault (turret_of old).faults (in_all (fault_count call.new.self) inside.past (fault_count inside.settling)) (IsTrue call.result) in
    subst P c.self.view_is (call_counts (fault_count inside.plan) (fault_count call.new.self) inside.past (fault_count inside.settling) (IsTrue call.result) call.ensures.rose (λ none. call.ensures.kept (is_false call.result none)) call.ensures.later)

pub returns-in-Rested-clause-fault : goal.returns-in-Rested-clause-fault
returns-in-Rested-clause-fault c =
    let inside = c.self.inside in
    let call = c.call-in-Rested in
    let P : KeptMoves → Type 0 = λ old. CountsFault (turret_of old).faults (in_all (fault_count inside.plan) inside.past (fault_count call.new.self)) (IsTrue call.result) in
    subst P c.self.view_is (settle_counts (fault_count inside.plan) inside.past (fault_count inside.settling) (fault_count call.new.self) (IsTrue call.result) call.ensures.rose (λ none. call.ensures.kept (is_false call.result none)) call.ensures.later)
