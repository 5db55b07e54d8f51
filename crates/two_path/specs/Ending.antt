-- Why the run of a machine has ended: by an alarm, or by the ends of both paths. Full journals and
-- spent budgets are causes of a table.
use Rattle.std.specs.Prelude.{◌&&◌, Option}
use Rattle.nc_outside.specs.declared.reason.Reason.{Reason}
use Rattle.nc_outside.specs.Reasons.{end_by}
use Rattle.two_path.specs.Machine.{MachineView}

-- the reason for which the run of this machine has ended, if it has: an alarm before the ends of
-- both paths
abbrev pub end_of : MachineView → Option Reason
end_of m = end_by m.alarm (m.paths.one.finished && m.paths.two.finished)
