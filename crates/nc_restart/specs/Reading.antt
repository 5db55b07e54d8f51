-- How the records that were read from a journal are done again, and why they are no run.
-- For this crate alone: pair.rt, rebuilding.rt and replay.rt.
use Rattle.std.specs.Prelude.{ℕ, ◌+◌, ◌≤◌, List, length, take}
use Rattle.run_records.specs.Entries.{Entry}
use Rattle.run_records.specs.declared.header.Header.{Header}
use Rattle.two_path.specs.Joined.{RoomyMachine}
use Rattle.nc_verify.specs.declared.verified.Verified.{Verified}
use Rattle.nc_restart.specs.declared.fault.RestartFault.{RestartFault}
use Rattle.nc_restart.specs.declared.fault.RestartFault.TheVariants.{DiskFault, NoRun, Cut, BadRecord, NoMemory}
use Rattle.nc_restart.specs.History.{IsBehind}
use Rattle.nc_restart.specs.Meaning.{IsBadReading}

-- the first so many records are done again, and there is room for the others
pub record AreDone (pair : Verified) (entries : List Entry) (done : ℕ) (now : RoomyMachine) : Type 0 where
  -- the machine stands behind those that are done
  pub behind : IsBehind pair (take done entries) now.machine
  -- it has room for those that are left
  pub room : length entries ≤ done + now.room

-- why the records of a header, which begin at these places, are no run
abbrev pub RefusesReading : Header → List Entry → List ℕ → RestartFault → Type 0
RefusesReading header entries begins (BadRecord offset cause) = IsBadReading header entries begins offset cause
RefusesReading header entries begins NoMemory = Unit {0}
RefusesReading header entries begins DiskFault = ⊥
RefusesReading header entries begins NoRun = ⊥
RefusesReading header entries begins (Cut at) = ⊥
