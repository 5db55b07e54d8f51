-- What the plan of a disk in memory makes of its calls: those that it allows do not fail. For
-- Kept.antt and the proof of `write_at` (src/memory.rt).
use Rattle.std.proofs.Common.{◌≡◌, ℕ, ◌+◌, ◌^◌, ◌≤◌, ◌<◌, max, false, true, refl, arith}
use Rattle.std.specs.Prelude.{nat_le}
use Rattle.std.proofs.lemmas.Bool.Decides.{nat_tests}
use Rattle.nc_number.specs.Faults.{next}
use Rattle.disk_model.specs.Memory.{Memory, IsKept, HasPlan, MemoryAllows, next_fails, after_look}

-- a call that the plan allows is neither listed nor past the record
plan_passes : (m : Memory) (calls end : ℕ) → HasPlan m calls end → m.calls + 1 ≤ calls → next_fails m ≡ false
plan_passes m calls end plan within =
    let listed = plan.unlisted m.calls (omega arith) in
    let short : m.calls < m.call_room = omega (arith, plan.recorded) in
    let room : nat_le m.call_room m.calls ≡ false = grind (arith, nat_tests) in
    rw (room, listed) refl

-- the count of faults that a write up to this end leaves is 0 where the plan allows it
abbrev pub IsSound : Memory → ℕ → ℕ → Type 0
IsSound m upto faults = (calls end : ℕ) → MemoryAllows m calls end → m.calls + 1 ≤ calls → max m.reach upto ≤ end → faults ≡ 0

-- a call that succeeds adds no fault
pub sound_done : (m : Memory) (upto : ℕ) → IsSound m upto m.faults
sound_done m upto = λ calls end allows used asked. allows.none_yet (omega arith) (omega arith)

-- a call that fails was not allowed
pub sound_failed : (m : Memory) (upto : ℕ) → next_fails m ≡ true → IsSound m upto (next m.faults)
sound_failed m upto fails = λ calls end allows used asked. let passes = plan_passes m calls end allows.plan used in absurd (cc)

-- a call that does not fail is counted exactly
pub short_of : (m : Memory) → IsKept m → next_fails m ≡ false → m.calls + 1 < 2 ^ 64
short_of m kept passes = let fits = kept.record_fits in grind (arith, nat_tests)

-- a call that writes nothing leaves what the disk allows
pub look_allows : (m : Memory) (calls end : ℕ) → MemoryAllows m calls end → MemoryAllows (after_look m) calls end
look_allows m calls end allows = record {
  plan = record { recorded = allows.plan.recorded; counted = allows.plan.counted; unlisted = allows.plan.unlisted; within = allows.plan.within };
  none_yet = λ used asked.
      let counted = allows.plan.counted in
      let passes = plan_passes m calls end allows.plan (omega arith) in
      rw passes (allows.none_yet (omega arith) asked);
}
