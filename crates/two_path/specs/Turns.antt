-- A turn of a path: what it answers, what it does to the machine, and its record. `turn_of` is the
-- one definition of a turn, over the effects that path_state defines. Histories builds on it.
use Rattle.std.specs.Prelude.{ℕ, ◌+◌, ◌==◌, Bool, true, false, List, [], ◌∷◌, ◌++◌, Option, Some, None, ℤ, pos, if◌then◌else◌}
use Rattle.nc_number.specs.declared.cause.Cause.TheVariants.{WaitDiffers}
use Rattle.nc_number.specs.declared.both.Both.{Both}
use Rattle.nc_number.specs.declared.path.Path.{Path}
use Rattle.nc_number.specs.declared.value.Var.{Var}
use Rattle.nc_number.specs.Causes.{cause_number}
use Rattle.nc_number.specs.Both.{both_of, of_path}
use Rattle.nc_moves.specs.declared.alarm.Alarm.{Alarm}
use Rattle.nc_moves.specs.declared.motion.Move.{Move}
use Rattle.nc_moves.specs.declared.motion.Moves.{Moves}
use Rattle.common_vars.specs.declared.links.Write.{Write}
use Rattle.common_vars.specs.Writes.{value_after}
use Rattle.block_order.specs.declared.frame.Frame.{Frame}
use Rattle.block_order.specs.Steps.{place_behind}
use Rattle.run_records.specs.Entries.{Entry}
use Rattle.run_records.specs.declared.entry.EntryKind.{EntryKind}
use Rattle.run_records.specs.declared.entry.EntryKind.TheVariants as kind
use Rattle.tape_flow.specs.declared.flow.Flow.{Flow}
use Rattle.tape_flow.specs.Places.{line_at}
use Rattle.path_state.specs.View.{PathView}
use Rattle.path_state.specs.Statements.{Write as Written}
use Rattle.path_state.specs.Effect.{Effect, effect_of}
use Rattle.path_state.specs.Effect as effect
use Rattle.two_path.specs.declared.turn.Turn.{Turn}
use Rattle.two_path.specs.declared.turn.Turn.TheVariants as turn
use Rattle.two_path.specs.Machine.{Part, MachineView, own_first, part_without_reads}

-- The blocks of a tape, as far as the machine needs them.
pub record Blocks : Type 0 where
  -- what the block at which a path stands comes to, with these values read so far
  pub effect : PathView → List Var → Effect
  -- the line of the block at a place
  pub line : List Frame → ℕ

-- the tapes of both paths
abbrev pub Tapes : Type 0
Tapes = Both Blocks

-- the blocks of a checked tape
abbrev pub blocks_of : Flow → Blocks
blocks_of flow = record { effect = effect_of flow; line = line_at flow.order }

-- the blocks of both tapes
abbrev pub tapes_of : Flow → Flow → Tapes
tapes_of left right = record { one = blocks_of left; two = blocks_of right }

-- a turn: what it answers, and the machine behind it
pub record TurnResult : Type 0 where
  pub turn : Turn
  pub machine : MachineView

-- a turn with this answer, and this machine behind it
abbrev pub result : Turn → MachineView → TurnResult
result answer m = record { turn = answer; machine = m }

-- the machine with one read more by the first path: the variable's value now, at the present number
-- of records
abbrev pub with_read : ℕ → MachineView → MachineView
with_read variable m = record m {
  paths = record m.paths {
    one = record m.paths.one {
      values = m.paths.one.values ++ value_after m.count variable m.writes ∷ [];
      stamps = m.paths.one.stamps ++ m.count ∷ [];
    };
  };
}

-- a path at the block to which it comes by the last of so many records, with nothing read
abbrev pub part_at : PathView → ℕ → Part → Part
part_at path since part = record part { path = path; values = []; stamps = []; since = since }

-- the writes with one more, if there is one, by the last of so many records
abbrev pub with_write : ℕ → Option Written → List Write → List Write
with_write stamp None writes = writes
with_write stamp (Some write) writes = writes ++ record { stamp = stamp; variable = write.variable; value = write.value } ∷ []

-- the machine behind a block of the first path
abbrev pub behind_block : PathView → Option Written → MachineView → MachineView
behind_block path write m = record m {
  paths = record m.paths { one = part_at path (m.count + 1) m.paths.one };
  writes = with_write (m.count + 1) write m.writes;
  count = m.count + 1;
}

-- a path whose place is the block behind its wait
abbrev pub path_behind_wait : PathView → PathView
path_behind_wait path = record path { place = place_behind path.place }

-- a path behind the wait at which it was, by the last of so many records
abbrev pub part_behind_wait : ℕ → Part → Part
part_behind_wait since part = record (part_at (path_behind_wait part.path) since part) { waiting = None }

-- the machine with both paths behind their wait
abbrev pub behind_meeting : MachineView → MachineView
behind_meeting m = record m {
  paths = both_of (part_behind_wait (m.count + 1)) m.paths;
  count = m.count + 1;
}

-- the machine with the first path waiting at this code
abbrev pub with_arrival : ℕ → MachineView → MachineView
with_arrival code m = record m {
  paths = record m.paths { one = record (part_without_reads m.paths.one) { waiting = Some code } };
  count = m.count + 1;
}

-- the machine with the first path ended
abbrev pub with_end : PathView → MachineView → MachineView
with_end path m = record m {
  paths = record m.paths { one = record (part_without_reads m.paths.one) { path = path; finished = true } };
  count = m.count + 1;
}

-- the machine with this alarm, raised by the first path, which stops both
abbrev pub with_alarm : Alarm → MachineView → MachineView
with_alarm alarm m = record m { paths = record m.paths { one = part_without_reads m.paths.one }; count = m.count + 1; alarm = Some alarm }

-- moves, with the line of their block
abbrev pub moves_at : ℕ → List Move → Moves
moves_at line moves = record { line = line; list = moves }

-- an alarm of this path at this line, with the number of its cause and its value
abbrev pub alarm_at : Path → ℕ → ℕ → ℤ → Alarm
alarm_at path line cause value = record { path = path; line = line; cause = cause; value = value }

-- the alarm of a path that is at a wait while the other waits at another code
abbrev pub crossed_waits : Path → ℕ → Alarm
crossed_waits path line = alarm_at path line (cause_number WaitDiffers) (pos 0)

-- the turn that raises this alarm, by which both paths stop
abbrev pub alarm_result : Alarm → MachineView → TurnResult
alarm_result alarm m = result (turn.Alarm alarm) (with_alarm alarm m)

-- A turn in which the first path is at a wait of this code: if the other waits at that code, both
-- go on; if it waits at another, there is an alarm; if it does not wait, the first path waits.
abbrev pub result_at_wait : Path → ℕ → MachineView → ℕ → Option ℕ → TurnResult
result_at_wait path line m code (Some there) =
    if code == there then result (turn.Met code) (behind_meeting m) else alarm_result (crossed_waits path line) m
result_at_wait path line m code None = result (turn.Arrived code) (with_arrival code m)

-- a turn of the first path by what its block comes to
abbrev pub result_by : Path → ℕ → MachineView → Effect → TurnResult
result_by path line m (effect.Need variable) = result (turn.Read variable m.count) (with_read variable m)
result_by path line m (effect.Done after write moves) = result (turn.Did (moves_at line moves)) (behind_block after write m)
result_by path line m (effect.AtWait code) = result_at_wait path line m code m.paths.two.waiting
result_by path line m (effect.AtEnd after moves) = result (turn.Ended (moves_at line moves)) (with_end after m)
result_by path line m (effect.Alarm number value) = alarm_result (alarm_at path line number value) m

-- the turn `rest`, unless there is an alarm, the path has ended or it waits: then nothing happens
abbrev pub unless_idle : MachineView → Option Alarm → Bool → Option ℕ → TurnResult → TurnResult
unless_idle m (Some alarm) finished waiting rest = result (turn.Halted alarm) m
unless_idle m None true waiting rest = result turn.Finished m
unless_idle m None false (Some code) rest = result (turn.Waiting code) m
unless_idle m None false None rest = rest

-- a turn of the first path in which its block runs
abbrev pub block_turn : Blocks → Path → MachineView → TurnResult
block_turn blocks path m = result_by path (blocks.line m.paths.one.path.place) m (blocks.effect m.paths.one.path m.paths.one.values)

-- a turn of the path whose part is the first, which `path` names
abbrev pub own_turn : Blocks → Path → MachineView → TurnResult
own_turn blocks path m = unless_idle m m.alarm m.paths.one.finished m.paths.one.waiting (block_turn blocks path m)

-- a turn of either path
abbrev pub turn_of : Tapes → Path → MachineView → TurnResult
turn_of tapes path m =
    let own = own_turn (of_path tapes path) path (own_first path m) in
    record { turn = own.turn; machine = own_first path own.machine }

-- the kind of a turn's record, if it makes one
abbrev pub kind_of : Turn → Option EntryKind
kind_of (turn.Read variable stamp) = None
kind_of (turn.Did moves) = Some kind.Did
kind_of (turn.Arrived code) = Some kind.Arrived
kind_of (turn.Met code) = Some kind.Met
kind_of (turn.Ended moves) = Some kind.Ended
kind_of (turn.Waiting code) = None
kind_of turn.Finished = None
kind_of (turn.Alarm alarm) = Some kind.Alarmed
kind_of (turn.Halted alarm) = None
kind_of turn.Edited = None

-- a record of this path, these stamps and this kind, if there is a kind
abbrev pub entry_with : Path → List ℕ → Option EntryKind → Option Entry
entry_with path stamps None = None
entry_with path stamps (Some kind) = Some (record { path = path; kind = kind; stamps = stamps })

-- the record of a turn: the path, the kind, and the stamps of what its block read
abbrev pub entry_of : Tapes → Path → MachineView → Option Entry
entry_of tapes path m = entry_with path (of_path m.paths path).stamps (kind_of (turn_of tapes path m).turn)
