-- The events of a turn, as C has them: which event comes of which move and turn, and which of its
-- fields are set. No other crate cites it. The numbers are those of `Kind` (src/event.rt), of
-- `include/lathe.h` and of examples/simulator.py: all change together.
use Rattle.std.specs.Prelude.{ℕ, ◌||◌, Bool, true, false, if◌then◌else◌, pos, List, [], ◌∷◌, ◌++◌, map}
use Rattle.nc_number.specs.declared.path.Path.{Path}
use Rattle.nc_number.specs.declared.point.Point.{Point}
use Rattle.nc_number.specs.Path.{number_of}
use Rattle.nc_moves.specs.declared.alarm.Alarm.{Alarm}
use Rattle.nc_moves.specs.declared.motion.Centre.{Centre}
use Rattle.nc_moves.specs.declared.motion.Centre.TheVariants as centre
use Rattle.nc_moves.specs.declared.motion.Move.{Move}
use Rattle.nc_moves.specs.declared.motion.Move.TheVariants as move
use Rattle.two_path.specs.declared.turn.Turn.{Turn}
use Rattle.two_path.specs.declared.turn.Turn.TheVariants as turn
use Rattle.two_path.specs.Machine.{MachineView}
use Rattle.two_path.specs.Turns.{Tapes, turn_of}
use Rattle.trace_list.specs.declared.looking.Look.{Look}
use Rattle.trace_list.specs.Trace.{line_of, look_of, path_in, is_same_point, is_same_way, says_speed}
use Rattle.lathe_calls.specs.declared.event.Event.{Event}
use Rattle.lathe_calls.specs.declared.event.Kind.{Kind}
use Rattle.lathe_calls.specs.declared.event.Kind.TheVariants as kind
use Rattle.lathe_calls.specs.declared.event.Stamp.{Stamp}

-- the number of a kind of event
abbrev pub kind_number : Kind → ℕ
kind_number kind.Placed = 0
kind_number kind.Rapid = 1
kind_number kind.Feed = 2
kind_number kind.Thread = 3
kind_number kind.Arc = 4
kind_number kind.Dwell = 5
kind_number kind.Speed = 6
kind_number kind.Limit = 7
kind_number kind.Tool = 8
kind_number kind.Aux = 9
kind_number kind.Block = 10
kind_number kind.Arrived = 11
kind_number kind.Met = 12
kind_number kind.Ended = 13
kind_number kind.Alarm = 14
kind_number kind.Read = 15
kind_number kind.Shift = 16
kind_number kind.Home = 17
kind_number kind.Way = 18

-- a yes or no as C has it: 1 or 0
abbrev pub flag : Bool → ℕ
flag true = 1
flag false = 0

-- an event of which nothing is told but its kind
abbrev pub bare_event : Stamp → Kind → Event
bare_event at what = record {
  records = at.records;
  line = at.line;
  path = number_of at.path;
  kind = kind_number what;
  code = 0;
  per_revolution = 0;
  clockwise = 0;
  by_centre = 0;
  at_surface = 0;
  amount = 0;
  x = pos 0;
  z = pos 0;
  i = pos 0;
  k = pos 0;
  value = pos 0;
}

-- an event that tells a code: of a wait, an auxiliary code, a tool, or the cause of an alarm
abbrev pub coded_event : Stamp → Kind → ℕ → Event
coded_event at what code = record (bare_event at what) { code = code }

-- an event that tells an amount
abbrev pub counting_event : Stamp → Kind → ℕ → Event
counting_event at what amount = record (bare_event at what) { amount = amount }

-- an event that leads to this point
abbrev pub moving_event : Stamp → Kind → Point → Event
moving_event at what to = record (bare_event at what) { x = to.x; z = to.z }

-- the event of an arc, by its centre or by its radius
abbrev pub arc_event : Stamp → Point → Centre → Event
arc_event at to (centre.Offset i k) = record (moving_event at kind.Arc to) { by_centre = 1; i = i; k = k }
arc_event at to (centre.Radius r) = record (moving_event at kind.Arc to) { i = r }

-- the event of a move of a block
abbrev pub move_event : Stamp → Move → Event
move_event at (move.Rapid to) = moving_event at kind.Rapid to
move_event at (move.Feed to feed per_rev) =
    record (moving_event at kind.Feed to) { per_revolution = flag per_rev; value = feed }
move_event at (move.Thread to lead) = record (moving_event at kind.Thread to) { value = lead }
move_event at (move.Arc clockwise to centre feed per_rev) =
    record (arc_event at to centre) { per_revolution = flag per_rev; clockwise = flag clockwise; value = feed }
move_event at (move.Dwell ms) = counting_event at kind.Dwell ms
move_event at (move.Speed surface s) = record (counting_event at kind.Speed s) { at_surface = flag surface }
move_event at (move.Limit s) = counting_event at kind.Limit s
move_event at (move.Tool t) = coded_event at kind.Tool t
move_event at (move.Aux m) = coded_event at kind.Aux m

-- the event of an alarm, with its cause and its value
abbrev pub alarm_event : Stamp → Alarm → Event
alarm_event at alarm = record (coded_event at kind.Alarm alarm.cause) { value = alarm.value }

-- when and where a path begins: before its first block, at no line
abbrev pub begin_stamp : Path → Stamp
begin_stamp path = record { records = 0; path = path; line = 0 }

-- the event that the turret of a path stands at a point before its first block
abbrev pub placed_event : Path → Point → Event
placed_event path to = moving_event (begin_stamp path) kind.Placed to

-- the event that a path comes home at this point
abbrev pub home_event : Path → Point → Event
home_event path at = moving_event (begin_stamp path) kind.Home at

-- the event that a shift is in force: machine coordinates less work coordinates
abbrev pub shift_event : Stamp → Point → Event
shift_event at by = moving_event at kind.Shift by

-- the event that the spindle keeps a surface speed from here on, or no longer
abbrev pub way_event : Stamp → Bool → Event
way_event at surface = record (bare_event at kind.Way) { at_surface = flag surface }

-- the shift, if the block changed it
abbrev pub shift_events : Stamp → Point → Point → List Event
shift_events at before after = if is_same_point before after then [] else shift_event at after ∷ []

-- the way of the spindle, if the block changed it without saying the speed
abbrev pub way_events : Stamp → List Move → Bool → Bool → List Event
way_events at moves before after = if is_same_way before after || says_speed moves then [] else way_event at after ∷ []

-- what a block changed without a move
abbrev pub change_events : Stamp → Look → Look → List Move → List Event
change_events at before after moves = shift_events at before.shift after.shift ++ way_events at moves before.surface after.surface

-- the events of a block: its moves, or that it has none
abbrev pub block_events : Stamp → List Move → List Event
block_events at [] = bare_event at kind.Block ∷ []
block_events at (what ∷ moves) = map (move_event at) (what ∷ moves)

-- the events of a block with which its path ends: its moves, and the end
abbrev pub end_events : Stamp → List Move → List Event
end_events at moves = map (move_event at) moves ++ bare_event at kind.Ended ∷ []

-- the events of a turn, by what was in force for its path before and after it: what its block
-- changed without a move comes first; a turn that waits, or that comes after an end or an alarm, has
-- none
abbrev pub turn_events : Stamp → Look → Look → Turn → List Event
turn_events at before after (turn.Read variable stamp) = counting_event at kind.Read variable ∷ []
turn_events at before after (turn.Did moves) = change_events at before after moves.list ++ block_events at moves.list
turn_events at before after (turn.Arrived code) = coded_event at kind.Arrived code ∷ []
turn_events at before after (turn.Met code) = coded_event at kind.Met code ∷ []
turn_events at before after (turn.Ended moves) = change_events at before after moves.list ++ end_events at moves.list
turn_events at before after (turn.Waiting code) = []
turn_events at before after turn.Finished = []
turn_events at before after (turn.Alarm alarm) = alarm_event at alarm ∷ []
turn_events at before after (turn.Halted alarm) = []
turn_events at before after turn.Edited = []

-- when and where the events of a path's turn are: how many records there are after it, and the line
-- at which the path stood before it
abbrev pub stamp_of : Tapes → Path → MachineView → Stamp
stamp_of tapes path m = record { records = (turn_of tapes path m).machine.count; path = path; line = line_of tapes path m }

-- the events of a path's turn on this machine
abbrev pub events_of_turn : Tapes → Path → MachineView → List Event
events_of_turn tapes path m =
    turn_events (stamp_of tapes path m) (look_of (path_in path m)) (look_of (path_in path (turn_of tapes path m).machine))
    (turn_of tapes path m).turn

-- how a path begins: where its turret stands, where it comes home, and the shift that is in force
abbrev pub begin_events : Path → Point → Point → Point → List Event
begin_events path at home shift = placed_event path at ∷ home_event path home ∷ shift_event (begin_stamp path) shift ∷ []
