-- The trace of a history: its events in their order, and the text of all.
use Rattle.std.specs.Prelude.{ℕ, ◌+◌, ◌&&◌, ◌||◌, Bool, true, false, if◌then◌else◌, List, [], ◌∷◌, ◌++◌, length, map}
use Rattle.std.specs.List.{list_any}
use Rattle.std.specs.Ordering.{int_eq}
use Rattle.nc_number.specs.declared.path.Path.{Path}
use Rattle.nc_number.specs.Both.{of_path}
use Rattle.nc_number.specs.declared.path.Path.TheVariants.{One, Two}
use Rattle.nc_number.specs.declared.point.Point.{Point}
use Rattle.nc_moves.specs.declared.motion.Move.{Move}
use Rattle.nc_moves.specs.declared.motion.Move.TheVariants as move
use Rattle.nc_moves.specs.declared.motion.Moves.{Moves}
use Rattle.nc_outside.specs.Lined.{lined_move}
use Rattle.run_records.specs.Entries.{Entry}
use Rattle.path_state.specs.View.{PathView}
use Rattle.path_state.specs.Looks.{shift_now}
use Rattle.two_path.specs.declared.turn.Turn.{Turn}
use Rattle.two_path.specs.declared.turn.Turn.TheVariants as turn
use Rattle.two_path.specs.Machine.{MachineView}
use Rattle.two_path.specs.Turns.{Tapes}
use Rattle.two_path.specs.Histories.{behind_entry}
use Rattle.two_path.specs.Again.{turn_of_entry}
use Rattle.nc_outside.specs.declared.reason.Reason.{Reason}
use Rattle.move_list.specs.EndText.{end_text}
use Rattle.trace_list.specs.declared.looking.Look.{Look}
use Rattle.trace_list.specs.declared.looking.Standing.{Standing}
use Rattle.trace_list.specs.TraceText.{TraceLine, At, Home, Shift, Spindle, Moved, Wait, Met, Raised, Ended, head_text, lines_text}

-- the state of a path
abbrev pub path_in : Path → MachineView → PathView
path_in path m = (of_path m.paths path).path

-- the line of its tape at which a path stands
abbrev pub line_of : Tapes → Path → MachineView → ℕ
line_of tapes path m = (of_path tapes path).line (path_in path m).place

-- what a trace looks at of a path: its shift, and whether its spindle keeps a surface speed
abbrev pub look_of : PathView → Look
look_of path = record { shift = shift_now path; surface = path.modal.surface }

-- what a trace looks at before a record of this path: where both paths stand, and what is in force
-- for this one
abbrev pub standing_of : Tapes → Path → MachineView → Standing
standing_of tapes path m = record { lines = record { one = line_of tapes One m; two = line_of tapes Two m }; look = look_of (path_in path m) }

-- the points are the same, in 0.001 mm
abbrev pub is_same_point : Point → Point → Bool
is_same_point a b = int_eq a.x b.x && int_eq a.z b.z

-- the spindle keeps a surface speed both times, or neither time
abbrev pub is_same_way : Bool → Bool → Bool
is_same_way true b = b
is_same_way false true = false
is_same_way false false = true

-- the move says the speed of the spindle, and its way with it
abbrev pub is_speed : Move → Bool
is_speed (move.Speed surface s) = true
is_speed other = false

-- some move of the block says the speed of the spindle
abbrev pub says_speed : List Move → Bool
says_speed moves = list_any is_speed moves

-- the line of the shift, if the block changed it
abbrev pub shift_lines : Path → ℕ → Point → Point → List TraceLine
shift_lines path line before after = if is_same_point before after then [] else Shift path line after ∷ []

-- the line of the spindle's way, if the block changed it without saying the speed
abbrev pub spindle_lines : Path → Moves → Bool → Bool → List TraceLine
spindle_lines path moves before after =
    if is_same_way before after || says_speed moves.list then [] else Spindle path moves.line after ∷ []

-- the lines of the moves of a block
abbrev pub moved_lines : Path → ℕ → List Move → List TraceLine
moved_lines path line moves = map (λ (what : Move). Moved path (lined_move line what)) moves

-- the lines of a block: what it changed without a move, and then its moves
abbrev pub block_lines : Path → Moves → Look → Look → List TraceLine
block_lines path moves before after =
    shift_lines path moves.line before.shift after.shift
    ++ (spindle_lines path moves before.surface after.surface ++ moved_lines path moves.line moves.list)

-- the lines of a turn of a path, before which there were `met` meetings: by what stood before it
-- and what is in force after it
abbrev pub turn_lines : Path → ℕ → Standing → Look → Turn → List TraceLine
turn_lines path met before after (turn.Read variable stamp) = []
turn_lines path met before after (turn.Did moves) = block_lines path moves before.look after
turn_lines path met before after (turn.Arrived code) = Wait path (of_path before.lines path) code ∷ []
turn_lines path met before after (turn.Met code) =
    Wait path (of_path before.lines path) code ∷ Met (met + 1) code before.lines.one before.lines.two ∷ []
turn_lines path met before after (turn.Ended moves) = block_lines path moves before.look after ++ Ended path moves.line ∷ []
turn_lines path met before after (turn.Waiting code) = []
turn_lines path met before after turn.Finished = []
turn_lines path met before after (turn.Alarm alarm) = Raised alarm ∷ []
turn_lines path met before after (turn.Halted alarm) = []
turn_lines path met before after turn.Edited = []

-- how many meetings there were after a turn
abbrev pub met_after : ℕ → Turn → ℕ
met_after met (turn.Met code) = met + 1
met_after met other = met

-- the lines of a record, before which there were `met` meetings
abbrev pub lines_of : Tapes → ℕ → MachineView → Entry → List TraceLine
lines_of tapes met m e =
    turn_lines e.path met (standing_of tapes e.path m) (look_of (path_in e.path (behind_entry tapes e m))) (turn_of_entry tapes e m)

-- the events of a history, from a machine on at which there were so many meetings
unfoldable pub traced_lines : Tapes → ℕ → MachineView → List Entry → List TraceLine
traced_lines tapes met m [] = []
traced_lines tapes met m (e ∷ entries) =
    lines_of tapes met m e ++ traced_lines tapes (met_after met (turn_of_entry tapes e m))
    (behind_entry tapes e m) entries

-- the lines of how a path begins that has this reference position
abbrev pub begin_lines : Path → Point → PathView → List TraceLine
begin_lines path home at = At path at.position ∷ Home path home ∷ Shift path 0 (shift_now at) ∷ []

-- the lines of how both paths begin
abbrev pub start_lines : MachineView → List TraceLine
start_lines m = begin_lines One m.paths.one.path.fixed.home m.paths.one.path ++ begin_lines Two m.paths.two.path.fixed.home m.paths.two.path

-- the trace of a history from a machine on, which ended so
unfoldable pub trace_text : Tapes → MachineView → List Entry → Reason → List ℕ
trace_text tapes m entries reason =
    head_text ++ (lines_text (start_lines m ++ traced_lines tapes 0 m entries) ++ end_text (length entries) reason)
