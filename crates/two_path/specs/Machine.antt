-- The state of the machine: two paths, and what they share. What a turn does to it is in Turns, and
-- an edit in Edits.
use Rattle.std.specs.Prelude.{ℕ, Bool, false, List, [], Option, None}
use Rattle.nc_number.specs.declared.both.Both.{Both}
use Rattle.nc_number.specs.declared.path.Path.{Path}
use Rattle.nc_number.specs.declared.path.Path.TheVariants.{One, Two}
use Rattle.nc_number.specs.declared.point.Point.{Point}
use Rattle.nc_number.specs.declared.value.Var.{Var}
use Rattle.nc_number.specs.Both.{both_of, of_path}
use Rattle.nc_moves.specs.declared.alarm.Alarm.{Alarm}
use Rattle.common_vars.specs.declared.links.Write.{Write}
use Rattle.path_state.specs.View.{PathView}

-- one path in the machine
pub record Part : Type 0 where
  -- its state as its block begins
  pub path : PathView
  -- the values of shared variables that its block has read so far
  pub values : List Var
  -- how many records there were at each of these reads
  pub stamps : List ℕ
  -- the code of the wait at which it waits, if it waits
  pub waiting : Option ℕ
  -- whether the path has ended
  pub finished : Bool
  -- how many records there were just after the one by which it came to its block, or just after a
  -- later edit
  pub since : ℕ

-- the machine of two paths
pub record MachineView : Type 0 where
  -- each path in the machine
  pub paths : Both Part
  -- the writes to shared variables
  pub writes : List Write
  -- how many records there are
  pub count : ℕ
  -- the alarm that stopped both paths, if one did
  pub alarm : Option Alarm

-- the machine with this path's part first
abbrev pub own_first : Path → MachineView → MachineView
own_first One m = m
own_first Two m = record m { paths = record { one = m.paths.two; two = m.paths.one } }

-- where a path's turret stands
abbrev pub position_of : Path → MachineView → Point
position_of path m = (of_path m.paths path).path.position

-- a path that has not begun
abbrev pub opening_part : PathView → Part
opening_part path = record { path = path; values = []; stamps = []; waiting = None; finished = false; since = 0 }

-- the machine before its first turn
abbrev pub opening : PathView → PathView → MachineView
opening first second = record {
  paths = record { one = opening_part first; two = opening_part second };
  writes = [];
  count = 0;
  alarm = None;
}

-- a path as if its block had read nothing
abbrev pub part_without_reads : Part → Part
part_without_reads part = record part { values = []; stamps = [] }

-- the machine but for what unfinished blocks have read
abbrev pub without_reads : MachineView → MachineView
without_reads m = record m { paths = both_of part_without_reads m.paths }
