-- The machine of a pair before its first turn: what `Machine::new` makes, and from which every
-- history is counted.
use Rattle.nc_number.specs.declared.path.Path.TheVariants.{One, Two}
use Rattle.cell_settings.specs.declared.settings.Settings.{Settings}
use Rattle.tape_flow.specs.declared.flow.Flow.{Flow}
use Rattle.path_state.specs.Opening.{opening_path}
use Rattle.two_path.specs.Machine.{MachineView, opening}

-- the machine of both tapes under these settings, before its first turn
abbrev pub machine_at_start : Flow → Flow → Settings → MachineView
machine_at_start left right settings = opening (opening_path left settings One) (opening_path right settings Two)
