-- What a journal and a machine need for so many edits: the preconditions of the functions of
-- src/making.rt. For this crate alone.
use Rattle.std.specs.Prelude.{◌≡◌, ℕ, ◌+◌, ◌≤◌, List, [], ◌∷◌, IsTrue, None}
use Rattle.nc_number.specs.declared.limits.TheConstants.{MOST_RECORDS}
use Rattle.run_records.specs.declared.version.Version.{Version}
use Rattle.run_records.specs.declared.version.Version.TheVariants.{One, Two}
use Rattle.run_journal.specs.Kept.{Log}
use Rattle.two_path.specs.Joined.{RoomyMachine}
use Rattle.two_path.specs.Machine.{MachineView}

-- how many bytes a raising mark takes, where one may still come: in version 1 alone
abbrev pub mark_size : Version → ℕ
mark_size One = 8
mark_size Two = 0

-- the journal may be written, nothing pends, and it may have so many records more
pub record MayTake {D : Type 0} (count : ℕ) (log : Log D) : Type 0 where
  -- it may be written
  pub live : IsTrue log.file.live
  -- no record is to be written
  pub idle : log.batch ≡ 0 ∷ []
  -- it may have so many records more
  pub room : log.count + count ≤ MOST_RECORDS

-- the machine has no alarm, and may make so many records more
pub record IsCalm (count : ℕ) (m : MachineView) : Type 0 where
  -- there is no alarm
  pub calm : m.alarm ≡ None
  -- it may count so many records more
  pub few : m.count + count ≤ MOST_RECORDS

-- the machine has no alarm, may make so many records more, and has memory for them
pub record MayMake (count : ℕ) (m : RoomyMachine) : Type 0 where
  -- there is no alarm
  pub calm : m.machine.alarm ≡ None
  -- it may count so many records more
  pub few : m.machine.count + count ≤ MOST_RECORDS
  -- it has memory for them
  pub room : count ≤ m.room
