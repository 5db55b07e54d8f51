-- What it means that the words for the moves of a path say one thing. `moves_of` (two_path) has the
-- moves of records, each of whose turns is made again; `moves_made` (run_table) those of the records
-- of a history between two numbers; `moves_by` (race_order) the blocks among what a path does in a
-- run of turns. The laws of src/laws.rt say that they agree.
use Rattle.std.specs.Prelude.{◌≡◌, List, ◌++◌, length, flat_map}
use Rattle.nc_number.specs.declared.path.Path.{Path}
use Rattle.nc_moves.specs.declared.motion.Moves.{Moves}
use Rattle.nc_outside.specs.Lined.{lined_moves}
use Rattle.nc_outside.specs.declared.lined_move.LinedMove.{LinedMove}
use Rattle.nc_verify.specs.declared.verified.Verified.{Verified}
use Rattle.two_path.specs.Histories.{Event, run, history, fold, turns_of}
use Rattle.two_path.specs.Made.{moves_of}
use Rattle.run_table.specs.Kept.{tapes_in, opening_of}
use Rattle.run_table.specs.Made.{moves_made}
use Rattle.race_order.specs.Agreement.{moves_by}

-- the moves of blocks, in order, each with the line of its block
abbrev pub moves_with_lines : List Moves → List LinedMove
moves_with_lines blocks = flat_map lined_moves blocks

-- In a run of the pair, of any events and then these turns, the moves of a path are one: of the turns,
-- of their records, and of the whole history from the number of records before the turns up to the
-- number of all.
pub record IsSaidThrice (pair : Verified) (before : List Event) (turns : List Path) (path : Path) : Type 0 where
  -- of the turns and of their records
  pub turns_and_records : moves_with_lines (moves_by (tapes_in pair) path (run (tapes_in pair) (opening_of pair) before) turns)
      ≡ moves_of (tapes_in pair) (fold (tapes_in pair) (opening_of pair) (history (tapes_in pair) (opening_of pair) before)) path
      (history (tapes_in pair) (run (tapes_in pair) (opening_of pair) before) (turns_of turns))
  -- of the turns and of the whole history between the two numbers
  pub turns_and_numbers : moves_with_lines (moves_by (tapes_in pair) path (run (tapes_in pair) (opening_of pair) before) turns)
      ≡ moves_made pair path (length (history (tapes_in pair) (opening_of pair) before))
      (length (history (tapes_in pair) (opening_of pair) (before ++ turns_of turns)))
      (history (tapes_in pair) (opening_of pair) (before ++ turns_of turns))

-- of each run of the pair the moves of each path are one
abbrev pub IsOneWord : Verified → Type 0
IsOneWord pair = (before : List Event) (turns : List Path) (path : Path) → IsSaidThrice pair before turns path
