-- What the two threads of a path begin with, and what they leave.
-- It is for the contracts of src/pair.rt; `StopsBy` stands in that of the public `run_pair`.
use Rattle.std.specs.Prelude.{◌≡◌, ◌++◌, true, false, [], IsTrue, Option, is_some}
use Rattle.atomic_table.specs.Seated.{TableId}
use Rattle.drive_line.specs.declared.phase.Phase.{Phase}
use Rattle.drive_line.specs.Driving.{DrivenState, has_failed, Serves}
use Rattle.drive_line.specs.Line.{Sending, Taking}
use Rattle.nc_number.specs.declared.path.Path.{Path}
use Rattle.nc_outside.specs.declared.halt.Halt.{Halt}
use Rattle.nc_outside.specs.Received.{TurretState}
use Rattle.path_worker.specs.declared.worker.Why.{Why}
use Rattle.path_worker.specs.Work.{told_at_end}
use Rattle.seat_table.specs.Passes.{Pass, Halter}

-- the two ends of one line to which no move was given yet
abbrev pub AreNewEnds : Sending → Taking → Type 0
AreNewEnds sending taking = (sending.line ≡ taking.line) × (sending.items ≡ []) × (taking.items ≡ []) × (taking.asked ≡ false)

-- What a path came to whose turret began so and whose worker ended for this: both passes, that of the
-- worker and that of the drive, are of this table and path, and the turret got what the worker's steps
-- told it, and then its rest at the end of the path if that has ended, or a prefix of it if it failed.
pub record IsPathEnd (table : TableId) (path : Path) (start : TurretState) (why : Why) (pass : Pass) (halter : Halter) (driven : DrivenState) : Type 0 where
  -- the worker's pass is of the table
  pub table_is : pass.table ≡ table
  -- the worker's pass is of the path
  pub path_is : pass.path ≡ path
  -- the drive's pass is of the table
  pub halter_table : halter.table ≡ table
  -- the drive's pass is of the path
  pub halter_path : halter.path ≡ path
  -- the turret got what the steps told it and the end of the path, or a prefix of that
  pub serves : Serves (pass.told ++ told_at_end why) start driven
  -- if the turret failed, the table has halted
  pub halted : has_failed driven.phase ≡ true → IsTrue (is_some halter.stop)

-- if the turret failed, the table has halted for a reason
abbrev pub StopsBy : Phase → Option Halt → Type 0
StopsBy phase reason = has_failed phase ≡ true → IsTrue (is_some reason)
