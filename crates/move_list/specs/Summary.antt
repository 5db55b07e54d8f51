-- The summary of a history: how long the tapes of the pair are, what the history comes to, and
-- where both paths end. It is the answer to `make N` if both paths have ended.
use Rattle.std.specs.Prelude.{ℕ, List, ◌++◌, length, filter, codes, decimal}
use Rattle.std.specs.List.{sum_by}
use Rattle.nc_number.specs.declared.path.Path.{Path}
use Rattle.nc_number.specs.declared.path.Path.TheVariants.{One, Two}
use Rattle.nc_number.specs.declared.point.Point.{Point}
use Rattle.nc_number.specs.Path.{number_of}
use Rattle.cell_settings.specs.declared.settings.Settings.{Settings}
use Rattle.tape_flow.specs.declared.flow.Flow.{Flow}
use Rattle.tape_flow.specs.declared.program.FlowProgram.{FlowProgram}
use Rattle.run_records.specs.Entries.{Entry, is_meeting}
use Rattle.two_path.specs.Machine.{MachineView}
use Rattle.two_path.specs.Turns.{Tapes, tapes_of}
use Rattle.two_path.specs.Histories.{fold}
use Rattle.text_pieces.specs.Pieces.{point_text}
use Rattle.move_list.specs.EndText.{records_text}
use Rattle.two_path.specs.Made.{moves_of}
use Rattle.two_path.specs.Start.{machine_at_start}

-- how many blocks a tape has, in all its programs
abbrev pub block_count : List FlowProgram → ℕ
block_count programs = sum_by (λ (program : FlowProgram). length program.blocks) programs

-- the records of meetings
abbrev pub meetings_in : List Entry → List Entry
meetings_in entries = filter (λ (e : Entry). is_meeting e.kind) entries

-- a line of a name and a number
unfoldable pub number_line : List ℕ → ℕ → List ℕ
number_line name number = name ++ decimal number ++ codes "\n"

-- a line of a name and a number for each path, path 1 first
unfoldable pub numbers_line : List ℕ → ℕ → ℕ → List ℕ
numbers_line name one two = name ++ decimal one ++ codes " " ++ decimal two ++ codes "\n"

-- which made pair it is, and how many blocks its tapes have
unfoldable pub pair_text : ℕ → List FlowProgram → List FlowProgram → List ℕ
pair_text number left right =
    number_line (codes "make ") number
    ++ numbers_line (codes "blocks ") (block_count left) (block_count right)

-- how often the paths met, and how many records there are
unfoldable pub history_text : List Entry → List ℕ
history_text entries = number_line (codes "meetings ") (length (meetings_in entries)) ++ records_text (length entries)

-- how many moves each path's records made
unfoldable pub moves_text : Tapes → MachineView → List Entry → List ℕ
moves_text tapes m entries =
    numbers_line (codes "moves ") (length (moves_of tapes m One entries)) (length (moves_of tapes m Two entries))

-- where a path's turret stands, in machine coordinates
unfoldable pub place_text : Path → Point → List ℕ
place_text path at = codes "end " ++ decimal (number_of path) ++ point_text at ++ codes "\n"

-- where both turrets stand
unfoldable pub places_text : MachineView → List ℕ
places_text m = place_text One m.paths.one.path.position ++ place_text Two m.paths.two.path.position

-- the lines of what a history from a machine on comes to: its meetings, records and moves, and
-- where both turrets end
unfoldable pub outcome_text : Tapes → MachineView → List Entry → List ℕ
outcome_text tapes m entries =
    history_text entries ++ (moves_text tapes m entries ++ places_text (fold tapes m entries))

-- the summary of a history of the made pair of this number
unfoldable pub summary_text : ℕ → Flow → Flow → Settings → List Entry → List ℕ
summary_text number left right settings entries =
    pair_text number left.programs right.programs
    ++ outcome_text (tapes_of left right) (machine_at_start left right settings) entries
