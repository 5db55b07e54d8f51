-- What the threads of a path come to: the worker, which steps it from its seat, and the drive of its
-- turret (src/jobs.rt). No other crate cites it.
use Rattle.std.specs.Prelude.{◌≡◌, ◌++◌, true, IsTrue, is_some}
use Rattle.atomic_table.specs.Seated.{TableId}
use Rattle.drive_line.specs.Driving.{DrivenState, has_failed, Serves}
use Rattle.drive_line.specs.Line.{LineId, Sending, Taking, told_among, has_end}
use Rattle.nc_number.specs.declared.path.Path.{Path}
use Rattle.nc_outside.specs.Received.{TurretState}
use Rattle.path_worker.specs.declared.worker.Why.{Why}
use Rattle.path_worker.specs.Work.{told_at_end}
use Rattle.seat_table.specs.Passes.{Pass, Halter}

-- A worker of this table, path and line gave back its pass and its end of the line, and why it ended.
pub record Worked (table : TableId) (path : Path) (line : LineId) (pass : Pass) (sending : Sending) (why : Why) : Type 0 where
  -- the pass is of the table
  pub table_is : pass.table ≡ table
  -- the pass is of the path
  pub path_is : pass.path ≡ path
  -- the end is of the line
  pub line_is : sending.line ≡ line
  -- it sent what its steps told the turret, and then the rest at the end of the path if that has ended
  pub sent : told_among sending.items ≡ pass.told ++ told_at_end why

-- A drive of this table, path and line, whose turret began so, gave back its pass, its end of the
-- line and its turret.
pub record Drove (table : TableId) (path : Path) (line : LineId) (start : TurretState) (pass : Halter) (taking : Taking) (driven : DrivenState) : Type 0 where
  -- the pass is of the table
  pub table_is : pass.table ≡ table
  -- the pass is of the path
  pub path_is : pass.path ≡ path
  -- the end is of the line
  pub line_is : taking.line ≡ line
  -- it took all up to the end
  pub ended : has_end taking.items ≡ true
  -- the turret got what was taken, or a prefix of it if it failed
  pub serves : Serves (told_among taking.items) start driven
  -- if the turret failed, the table has halted
  pub halted : has_failed driven.phase ≡ true → IsTrue (is_some pass.stop)
