-- How the fields of a disk in memory stand for what it holds, and that its lists have their room.
-- For src/memory.rt and its proofs alone.
use Rattle.std.specs.Prelude.{◌≤◌, vec_capacity}
use Rattle.disk_model.specs.declared.memory.MemoryDisk.TheInside.{Inside}
use Rattle.disk_model.specs.Memory.{Memory, IsKept}

-- the disk of these fields
abbrev pub memory_of : Inside → Memory
memory_of d = record {
  bytes = d.bytes.items;
  synced = d.present.synced.items;
  written = d.present.written.items;
  earlier_synced = d.earlier.synced.items;
  earlier_written = d.earlier.written.items;
  synced_at = d.synced_at;
  room = d.room;
  call_room = d.call_room;
  failing = d.failing.items;
  calls = d.calls;
  reach = d.reach;
  faults = d.faults;
}

-- the facts of the disk agree, and each of its lists has room for all that calls put there, so that
-- no call takes memory
pub record HasRoom (d : Inside) : Type 0 where
  -- what the disk holds has the facts of every disk in memory
  pub kept : IsKept (memory_of d)
  -- there is room for the bytes that a read gives
  pub bytes : d.room ≤ vec_capacity d.bytes
  -- there is room for the bytes of the last sync
  pub synced : d.room ≤ vec_capacity d.present.synced
  -- there is room for the bytes of the sync before the last
  pub earlier_synced : d.room ≤ vec_capacity d.earlier.synced
  -- there is room for a stretch of each call since the last sync
  pub written : d.call_room ≤ vec_capacity d.present.written
  -- there is room for a stretch of each call before the last sync
  pub earlier_written : d.call_room ≤ vec_capacity d.earlier.written
