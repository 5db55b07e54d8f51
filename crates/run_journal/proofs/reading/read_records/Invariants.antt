-- So many records are read, and there is room for those that are left (loop of `read_records`,
-- src/reading.rt).
use Rattle.std.proofs.Common.{◌+◌, ◌-◌, ◌≤◌, length, vec_capacity}
use Rattle.run_journal.specs.Reading.{IsRecordsRead}
use Rattle.run_journal.proofs.reading.read_records.Given as goal

abbrev pub invariant-loop-round : goal.invariant-loop-round
invariant-loop-round l = record {
  read : IsRecordsRead l.version l._round l.at l.bytes l.rest l.fn.entries.items l.entries.items l.fn.offsets.items l.offsets.items;
  room : length l.entries.items + (l.count - l._round) ≤ l.entries.room;
  places : length l.offsets.items + (l.count - l._round) ≤ vec_capacity l.offsets;
  most : l._round ≤ l.count;
}
