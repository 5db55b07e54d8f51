-- A call that finds no room raises the count of faults (src/memory_turret.rt).
use Rattle.std.proofs.Common.{◌≡◌, ◌∙◌, ℕ, true, false, IsTrue, refl, ap, sym, subst}
use Rattle.nc_outside.specs.Faults.{CountsFault}
use Rattle.nc_outside.specs.Kept.{KeptMoves, turret_of}
use Rattle.nc_outside.specs.Plan.{fault_count}
use Rattle.nc_number.specs.Faults.{next}
use Rattle.nc_outside.proofs.Counted.{in_all, past_counts}
use Rattle.nc_outside.proofs.memory_turret.MemoryTurret.refuses.Goals as goal

pub returns-clause-fault : goal.returns-clause-fault
returns-clause-fault c =
    let inside = c.self.inside in
    let not_planned : IsTrue false → ⊥ = λ e. absurd cc in
    let same : in_all (fault_count inside.plan) inside.past (fault_count inside.settling) ≡ (turret_of c.args.self.now).faults =
    ap (λ (k : KeptMoves). (turret_of k).faults) c.self.view_is ∙ c.if-is_planned.ensures.fault.kept not_planned in
    subst (λ (past : ℕ). CountsFault (turret_of c.args.self.now).faults (in_all (fault_count inside.plan) past (fault_count inside.settling)) (IsTrue true)) (sym c.saturating_add-self-inside.ensures)
    (subst (λ (before : ℕ). CountsFault before (in_all (fault_count inside.plan) (next inside.past) (fault_count inside.settling)) (IsTrue true)) same
    (past_counts (fault_count inside.plan) inside.past (fault_count inside.settling) (IsTrue true) refl))
