-- How both turrets are placed before the threads, and what the turns that are left after the
-- threads keep.
-- No other crate cites it. src/placing.rt, rest.rt and run.rt do, and `ServesOn` stands in the
-- contract of the public `give_turn` (src/turns.rt).
use Rattle.std.specs.Prelude.{◌≡◌, ◌≢◌, Bool, ◌++◌, true, false, IsTrue, Option, Some, None}
use Rattle.nc_number.specs.declared.both.Both.{Both}
use Rattle.nc_number.specs.declared.path.Path.{Path}
use Rattle.nc_number.specs.declared.path.Path.TheVariants.{One, Two}
use Rattle.nc_number.specs.Both.{both_of, of_path}
use Rattle.nc_number.specs.Path.{other_of}
use Rattle.nc_outside.specs.declared.halt.Halt.TheVariants.{Disk}
use Rattle.nc_outside.specs.Received.{TurretState}
use Rattle.drive_line.specs.Driving.{DrivenState, has_failed, Serves}
use Rattle.seat_table.specs.Turning.{Tellings}
use Rattle.path_worker.specs.declared.worker.Why.{Why}
use Rattle.path_worker.specs.Work.{told_at_end}
use Rattle.nc_outside.specs.declared.reason.Reason.{Reason}
use Rattle.nc_outside.specs.declared.reason.Reason.TheVariants as reason
use Rattle.two_path.specs.Machine.{MachineView, position_of}
use Rattle.run_table.specs.Ending.{HasEnded}
use Rattle.run_table.specs.Holding.{HeldView}
use Rattle.turret_run.specs.Served.{IsPlaced, FailsPlace}
use Rattle.turret_run.specs.Runs.{StandsBeside}

-- each turret got its place, and stands still there
abbrev pub ArePlaced : MachineView → Both TurretState → Both TurretState → Type 0
ArePlaced m before after = (path : Path) → IsPlaced (position_of path m) (of_path before path) (of_path after path)

-- the turret of this path failed at its place; if it is path 2's, that of path 1 stood still at its
-- place, and if it is path 1's, that of path 2 was not called
abbrev pub FailsAtPlace : MachineView → Both TurretState → Both TurretState → Path → Type 0
FailsAtPlace m before after path =
    FailsPlace (position_of path m) (of_path before path) (of_path after path)
    × StandsBeside path (position_of (other_of path) m) (of_path before (other_of path)) (of_path after (other_of path))

-- a turret that had served the old tellings has served the new ones
abbrev pub ServesOn : Tellings → DrivenState → Tellings → DrivenState → Type 0
ServesOn old was new is = (start : TurretState) → Serves old start was → Serves new start is

-- the same, with what the turret was told at the end of its path behind the tellings, if that has ended
abbrev pub ServesBehind : Why → Tellings → DrivenState → Tellings → DrivenState → Type 0
ServesBehind why old was new is = ServesOn (old ++ told_at_end why) was (new ++ told_at_end why) is

-- which turrets have failed
abbrev pub who_failed : Both DrivenState → Both Bool
who_failed turrets = both_of (λ d. has_failed d.phase) turrets

-- the path whose turret failed, by whether that of path 1 and that of path 2 did; path 1 if both
-- did, and none if neither did
abbrev pub first_by : Bool → Bool → Option Path
first_by true two = Some One
first_by false true = Some Two
first_by false false = None

-- the path whose turret failed, or none; path 1 if both failed
abbrev pub first_failed : Both Bool → Option Path
first_failed failed = first_by failed.one failed.two

-- the first cause, once more turrets may have failed: a fault of the disk, or else the turret that
-- failed, or else the cause from before
abbrev pub cause_behind : Reason → Option Path → Reason
cause_behind reason.DiskFault failed = reason.DiskFault
cause_behind end (Some path) = reason.TurretFault path
cause_behind end None = end

-- Why no turn is given any more, for a held table and the path whose turret failed, if one did: by
-- the first of these causes, a fault of the disk, that turret, or another end of the run.
abbrev pub HasCause : {D : Type 0} → HeldView D → Option Path → Reason → Type 0
HasCause held failed (reason.TurretFault path) = (held.halt ≢ Some Disk) × IsTrue held.file.live × (failed ≡ Some path)
HasCause held failed end = HasEnded held end × (end ≢ reason.DiskFault → failed ≡ None)
