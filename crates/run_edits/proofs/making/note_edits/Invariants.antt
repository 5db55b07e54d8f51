-- The records of the edits so far are in the batch that is to be written, and the file is as it was
-- (loop of `note_edits`, src/making.rt).
use Rattle.std.proofs.Common.{◌≡◌, ◌+◌, ◌≤◌, None, length, take}
use Rattle.std.specs.Prelude.{IsTrue}
use Rattle.nc_number.specs.declared.limits.TheConstants.{MOST_RECORDS}
use Rattle.run_records.specs.declared.version.Version.TheVariants.{Two}
use Rattle.run_journal.specs.Stands.{Pends}
use Rattle.run_edits.specs.Made.{records_of}
use Rattle.run_edits.proofs.making.note_edits.Given as goal

abbrev pub invariant-loop-what : goal.invariant-loop-what
invariant-loop-what g l = record {
  pends : Pends Two (records_of (take l.what-index l.edits)) l.journal.batch;
  file : l.journal.file ≡ l.fn.journal.file;
  live : IsTrue l.journal.file.live;
  version : l.journal.version ≡ Two;
  taken : l.journal.count + length l.edits ≤ MOST_RECORDS + l.what-index;
  calm : l.machine.machine.alarm ≡ None;
  room : length l.edits ≤ l.what-index + l.machine.room;
  few : l.machine.machine.count + length l.edits ≤ MOST_RECORDS + l.what-index;
}
