-- A disk that fails every call once it has passed a number of calls on.
-- The disk below it is in Memory. For src/fuse.rt, the law on a new disk (src/laws.rt) and their
-- proofs; tests of other crates meet it in the contracts of the disk.
use Rattle.std.specs.Prelude.{◌≡◌, ◌⊎◌, ℕ, ◌+◌, ◌-◌, ◌^◌, ◌≤◌, ◌==◌, ◌||◌, Bool, List, length, min, max, Some, if◌then◌else◌}
use Rattle.std.proofs.Common.{arith, inl, inr}
use Rattle.disk_model.specs.Device.{DiskState, IsCoherent}
use Rattle.nc_number.specs.Faults.{next}
use Rattle.disk_model.specs.Memory.{Memory, CrashLeaves, CrashLeft, MemoryAllows, next_fails, write_fails, after_look, after_sync, after_write}

-- what a disk with a fuse holds
pub record Fuse : Type 0 where
  -- the disk that it passes calls on to
  pub inner : Memory
  pub passes : ℕ  -- how many calls it will still pass on
  pub burnt : ℕ  -- how many it has failed
  pub reach : ℕ  -- the greatest end that a write was asked for which it failed

-- the next call of a fuse fails: it is burnt out, or the disk below it fails
abbrev pub fuse_fails : Fuse → Bool
fuse_fails f = f.passes == 0 || next_fails f.inner

-- a write up to this end would fail: the fuse is burnt out, or the disk below it would fail it
abbrev pub fuse_write_fails : Fuse → ℕ → Bool
fuse_write_fails f end = f.passes == 0 || write_fails f.inner end

-- after a call that the fuse fails: the disk below is as it was, and the call is counted
abbrev pub after_stop : Fuse → Fuse
after_stop f = record f { burnt = next f.burnt }

-- after a call that the fuse passes on: the disk below is this one, and one pass less is left
abbrev pub after_pass : Fuse → Memory → Fuse
after_pass f inner = record f { passes = f.passes - 1; inner = inner }

-- the disk with its fuse after a call that writes nothing
abbrev pub fuse_after_look : Fuse → Fuse
fuse_after_look f = if f.passes == 0 then after_stop f else after_pass f (after_look f.inner)

-- the disk with its fuse after a sync
abbrev pub fuse_after_sync : Fuse → Fuse
fuse_after_sync f = if f.passes == 0 then after_stop f else after_pass f (after_sync f.inner)

-- the disk with its fuse after a write of these bytes at this offset
abbrev pub fuse_after_write : Fuse → ℕ → List ℕ → Fuse
fuse_after_write f at bytes =
    if f.passes == 0 then record (after_stop f) { reach = max f.reach (at + length bytes) }
    else after_pass f (after_write f.inner at bytes)

-- the disk with its fuse allows so many calls and writes up to this end
pub record FuseAllows (f : Fuse) (calls end : ℕ) : Type 0 where
  -- the disk in memory allows them
  pub inner : MemoryAllows f.inner calls end
  -- the fuse passes so many calls on
  pub passed : calls ≤ f.inner.calls + f.passes
  -- if no more calls were made, the fuse has failed none
  pub unburnt : f.inner.calls + f.burnt ≤ calls → f.burnt ≡ 0

-- all that can be said of a disk with a fuse; the counts of calls and faults stay at the last value
-- of u64
abbrev pub fuse_state : Fuse → DiskState
fuse_state f = record {
  reads = Some f.inner.bytes;
  image = CrashLeaves f.inner;
  image_since = λ t c. CrashLeaves f.inner c ⊎ CrashLeft f.inner t c;
  clock = f.inner.calls + f.burnt;
  calls = min (f.inner.calls + f.burnt) (2 ^ 64 - 1);
  reach = max f.inner.reach f.reach;
  faults = min (f.inner.faults + f.burnt) (2 ^ 64 - 1);
  allows = FuseAllows f;
}

-- the facts of a disk with a fuse agree, whatever it holds
pub fuse_coherent : (f : Fuse) → IsCoherent (fuse_state f)
fuse_coherent f = record {
  counts_now = λ t c le now. inl now;
  only_now = λ c since. elim since [ inl now ↦ now | inr past ↦ absurd (omega (arith, past.1)) ];
  as_read = λ bytes is. let same : bytes ≡ f.inner.bytes = cc in inr same;
  enough = λ bytes calls end told allows used asked.
      let counted = allows.inner.plan.counted in
      let unburnt = allows.unburnt (omega arith) in
      let none = allows.inner.none_yet (omega arith) (omega arith) in
      omega (arith, none, unburnt);
}
