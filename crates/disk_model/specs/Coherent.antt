-- The facts of a disk in memory agree with one another, as the trait Disk asks. For src/memory.rt
-- alone.
use Rattle.std.specs.Prelude.{◌≡◌}
use Rattle.std.proofs.Common.{arith, inl, inr}
use Rattle.disk_model.specs.Device.{IsCoherent}
use Rattle.disk_model.specs.Memory.{Memory, memory_state}

-- the facts of a disk in memory agree, whatever it holds (a promise of the trait, by its name)
pub memory_coherent : (m : Memory) → IsCoherent (memory_state m)
memory_coherent m = record {
  counts_now = λ t c le now. inl now;
  only_now = λ c since. elim since [ inl now ↦ now | inr past ↦ absurd (omega (arith, past.1)) ];
  as_read = λ bytes is. let same : bytes ≡ m.bytes = cc in inr same;
  enough = λ bytes calls end told allows used asked. allows.none_yet used asked;
}
