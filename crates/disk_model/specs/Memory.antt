-- What a disk in memory holds, and what each call makes of it. Only the disks in memory of this
-- crate and the law on a new disk cite it (src/memory.rt, fuse.rt, laws.rt); tests of other crates
-- meet it in their contracts. What holds of every disk is in Device.
use Rattle.std.specs.Prelude.{◌≡◌, ◌⊎◌, ℕ, ◌+◌, ◌-◌, ◌^◌, ◌≤◌, ◌<◌, ◌==◌, ◌||◌, nat_le, nat_lt, Bool, false, List, [], ◌∷◌, ◌++◌, length, max, slice_index, Some, if◌then◌else◌}
use Rattle.std.specs.List.{list_any}
use Rattle.disk_model.specs.declared.stretch.Stretch.{Stretch}
use Rattle.disk_model.specs.Device.{DiskState, written_over}
use Rattle.nc_number.specs.Faults.{next}
use Rattle.disk_model.specs.Image.{IsOutside, IsImage, greatest_end}

-- all that a disk in memory keeps
pub record Memory : Type 0 where
  pub bytes : List ℕ  -- what a read gives
  pub synced : List ℕ  -- what was on the disk at the last sync
  pub written : List Stretch  -- where it was written since
  pub earlier_synced : List ℕ  -- what was on the disk at the last sync but one
  pub earlier_written : List Stretch  -- where it was written between the last two syncs
  pub synced_at : ℕ  -- the number of calls just after that sync
  pub room : ℕ  -- how many bytes the disk has room for
  pub call_room : ℕ  -- how many calls its record has room for
  pub failing : List ℕ  -- the numbers of the calls that are to fail, from 1
  pub calls : ℕ  -- how many calls there were
  pub reach : ℕ  -- the greatest end that a write was asked for
  pub faults : ℕ  -- how many calls failed

-- the next call fails: its number is listed, or the record is full
abbrev pub next_fails : Memory → Bool
next_fails m = nat_le m.call_room m.calls || list_any (λ n. n == m.calls + 1) m.failing

-- a write up to this end writes nothing: the record is full, or the end lies past the room
abbrev pub refuses_write : Memory → ℕ → Bool
refuses_write m end = nat_le m.call_room m.calls || nat_lt m.room end

-- a write up to this end would fail: as any call would, or because it ends past the room
abbrev pub write_fails : Memory → ℕ → Bool
write_fails m end = next_fails m || nat_lt m.room end

-- what a crash now may leave: an image since the last sync, of which what a read gives is one
abbrev pub CrashLeaves : Memory → List ℕ → Type 0
CrashLeaves m c = IsImage m.synced m.written c ⊎ (c ≡ m.bytes)

-- what a crash at that time or later, but before the last sync, may have left, as far back as the
-- sync before that
abbrev pub CrashLeft : Memory → ℕ → List ℕ → Type 0
CrashLeft m t c = (t < m.synced_at) × (t < m.calls) × IsImage m.earlier_synced m.earlier_written c

-- the record has room for so many calls, none of them is to fail, and the disk has room up to this
-- end
pub record HasPlan (m : Memory) (calls end : ℕ) : Type 0 where
  -- the record has room for so many calls
  pub recorded : calls ≤ m.call_room
  -- so many calls can be counted
  pub counted : calls < 2 ^ 64 - 1
  -- none of them is listed to fail
  pub unlisted : (k : ℕ) → k < calls → list_any (λ n. n == k + 1) m.failing ≡ false
  -- the disk has room up to this end
  pub within : end ≤ m.room

-- the disk allows so many calls and writes up to this end
pub record MemoryAllows (m : Memory) (calls end : ℕ) : Type 0 where
  -- there is room for them, and none is listed to fail
  pub plan : HasPlan m calls end
  -- if no more were made, and no write past this end, no call has failed
  pub none_yet : m.calls ≤ calls → m.reach ≤ end → m.faults ≡ 0

-- all that can be said of a disk in memory
abbrev pub memory_state : Memory → DiskState
memory_state m = record {
  reads = Some m.bytes;
  image = CrashLeaves m;
  image_since = λ t c. CrashLeaves m c ⊎ CrashLeft m t c;
  clock = m.calls;
  calls = m.calls;
  reach = m.reach;
  faults = m.faults;
  allows = MemoryAllows m;
}

-- what is true of every disk in memory
pub record IsKept (m : Memory) : Type 0 where
  -- what a read gives is an image since the last sync
  pub image : IsImage m.synced m.written m.bytes
  -- what was synced last is an image since the sync before
  pub earlier : IsImage m.earlier_synced m.earlier_written m.synced
  -- the last sync was no later than now
  pub settled : m.synced_at ≤ m.calls
  -- what a read gives fits the room
  pub bytes_fit : length m.bytes ≤ m.room
  -- what was synced and every write since end within the room
  pub ends_fit : greatest_end (length m.synced) m.written ≤ m.room
  -- each call notes one stretch at most
  pub recorded : length m.written ≤ m.calls
  -- the room is below 2^62 bytes
  pub small : m.room < 2 ^ 62
  -- the room for calls is a number of 64 bits
  pub record_fits : m.call_room < 2 ^ 64
  -- the count of calls is a number of 64 bits
  pub calls_fit : m.calls < 2 ^ 64
  -- the count of faults is a number of 64 bits
  pub faults_fit : m.faults < 2 ^ 64

-- What a crash leaves that fills each unsynced byte with this one: those of the written stretches,
-- and those behind the synced end.
pub record IsFilled (with : ℕ) (synced : List ℕ) (written : List Stretch) (c : List ℕ) : Type 0 where
  -- the bytes end where what was synced or the farthest write ends, whichever is later
  pub len : length c ≡ greatest_end (length synced) written
  -- what was not written is as it was synced
  pub outside : (i : ℕ) → i < length synced → IsOutside i written → slice_index c i ≡ slice_index synced i
  -- each other byte is the one to fill with
  pub inside : (i : ℕ) → i < length c → ((i < length synced) × IsOutside i written → ⊥) → slice_index c i ≡ with

-- a disk that has had no call
abbrev pub fresh_disk : List ℕ → ℕ → ℕ → List ℕ → Memory
fresh_disk bytes room call_room failing = record {
  bytes = bytes;
  synced = bytes;
  written = [];
  earlier_synced = bytes;
  earlier_written = [];
  synced_at = 0;
  room = room;
  call_room = call_room;
  failing = failing;
  calls = 0;
  reach = 0;
  faults = 0;
}

-- the disk after a sync that succeeded: all that was written is on it
abbrev pub after_settling : Memory → Memory
after_settling m = record m {
  synced = m.bytes;
  written = [];
  earlier_synced = m.synced;
  earlier_written = m.written;
  synced_at = m.calls;
}

-- the same disk after a crash that left these bytes, all of which count as synced
abbrev pub disk_after_crash : Memory → List ℕ → Memory
disk_after_crash m bytes = after_settling (record m { bytes = bytes })

-- the disk after a call that writes nothing: it is counted, and a fault if it fails
abbrev pub after_look : Memory → Memory
after_look m = record m { calls = next m.calls; faults = (if next_fails m then next m.faults else m.faults) }

-- the disk after a sync: one that is to fail puts nothing on it
abbrev pub after_sync : Memory → Memory
after_sync m = if next_fails m then after_look m else after_settling (after_look m)

-- the disk after a write up to this end was asked for, whatever it did
abbrev pub after_request : Memory → ℕ → Memory
after_request m end = record m { calls = next m.calls; reach = max m.reach end }

-- the disk with one fault more
abbrev pub with_fault : Memory → Memory
with_fault m = record m { faults = next m.faults }

-- the disk with one written stretch more
abbrev pub with_mark : Memory → ℕ → ℕ → Memory
with_mark m at len = record m { written = m.written ++ (record { at = at; len = len }) ∷ [] }

-- the disk after a write: one that is refused writes nothing, and one that is to fail by its number
-- writes nothing and counts as written
abbrev pub after_write : Memory → ℕ → List ℕ → Memory
after_write m at bytes =
    if refuses_write m (at + length bytes) then with_fault (after_request m (at + length bytes))
    else if next_fails m then with_fault (with_mark (after_request m (at + length bytes)) at (length bytes))
    else record (with_mark (after_request m (at + length bytes)) at (length bytes)) {
      bytes = written_over m.bytes at bytes;
    }
