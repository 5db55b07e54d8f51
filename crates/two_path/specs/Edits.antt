-- What an operator's edit of a path does to the machine, and its record: the contract of
-- `Machine::edit`. What an edit does to one path is in path_state.
use Rattle.std.specs.Prelude.{◌+◌, [], Option, Some, None}
use Rattle.nc_number.specs.declared.path.Path.{Path}
use Rattle.nc_moves.specs.declared.alarm.Alarm.{Alarm}
use Rattle.run_records.specs.Entries.{Entry}
use Rattle.run_records.specs.declared.edit.Edit.{Edit}
use Rattle.run_records.specs.declared.entry.EntryKind.TheVariants as kind
use Rattle.path_state.specs.Edits.{path_with_edit, shared_write}
use Rattle.two_path.specs.Machine.{MachineView, own_first}
use Rattle.two_path.specs.Turns.{part_at, with_write}

-- Behind an edit of the first path: an offset or a variable of its own is set, or one that both
-- paths share. What blocks had read is forgotten, and they read again, what is there after this
-- record.
abbrev pub behind_edit : Edit → MachineView → MachineView
behind_edit edit m = record m {
  paths = record {
    one = part_at (path_with_edit edit m.paths.one.path) (m.count + 1) m.paths.one;
    two = part_at m.paths.two.path (m.count + 1) m.paths.two;
  };
  writes = with_write (m.count + 1) (shared_write m.paths.one.path.fixed edit) m.writes;
  count = m.count + 1;
}

-- the machine behind an edit of either path
abbrev pub behind_edit_of : Path → Edit → MachineView → MachineView
behind_edit_of path edit m = own_first path (behind_edit edit (own_first path m))

-- the record of an edit, which has no reads
abbrev pub edit_entry : Path → Edit → Entry
edit_entry path edit = record { path = path; kind = kind.Edited edit; stamps = [] }

-- of two answers the one for a machine that an alarm has stopped, or that for a machine without one
abbrev pub unless_alarm : {A : Type 0} → Option Alarm → A → A → A
unless_alarm (Some alarm) still rest = still
unless_alarm None still rest = rest
