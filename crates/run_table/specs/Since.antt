-- What may have come of a table since an earlier time. A step is in Stepping, and one record's way
-- to the disk in Recording.
use Rattle.std.specs.Prelude.{◌≡◌, ◌⊎◌, ◌+◌, List, length, Some}
use Rattle.disk_model.specs.Device.{DiskState, Rose}
use Rattle.nc_outside.specs.declared.halt.Halt.TheVariants.{Disk}
use Rattle.run_records.specs.Entries.{Entry}
use Rattle.run_table.specs.Recording.{Follows}
use Rattle.run_table.specs.Kept.{TableView}

-- The new table came of the old one by records of the same pair, each within its budget. If it
-- keeps that the disk failed, and the old one did not, a call of the disk has failed.
pub record Since {D : Type 0} (state : D → DiskState) (old new : TableView D) : Type 0 where
  -- the pair stays
  pub verified : new.verified ≡ old.verified
  -- the records made since
  pub made : List Entry
  -- the recording has come of the old one by these records
  pub recording : Follows state made old.recording new.recording
  -- each record is taken off the budget
  pub budget : new.budget + length made ≡ old.budget
  -- a fault of the disk that is kept was kept before, or a call has failed since
  pub cause : new.halt ≡ Some Disk → (old.halt ≡ Some Disk)
      ⊎ Rose (state old.recording.log.file.disk).faults (state new.recording.log.file.disk).faults
