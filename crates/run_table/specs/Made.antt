-- The moves that the records of a path in a history make, and what they tell the turret of the path.
use Rattle.std.specs.Prelude.{ℕ, List, [], ◌∷◌, ◌++◌, take, drop, if◌then◌else◌}
use Rattle.nc_number.specs.Path.{is_same}
use Rattle.nc_number.specs.declared.path.Path.{Path}
use Rattle.nc_outside.specs.declared.got.Got.{Got}
use Rattle.nc_outside.specs.declared.lined_move.LinedMove.{LinedMove}
use Rattle.nc_verify.specs.declared.verified.Verified.{Verified}
use Rattle.run_records.specs.Entries.{Entry}
use Rattle.two_path.specs.Machine.{MachineView}
use Rattle.two_path.specs.Turns.{Tapes}
use Rattle.two_path.specs.Histories.{behind_entry, fold}
use Rattle.two_path.specs.Again.{turn_of_entry}
use Rattle.two_path.specs.Made.{moves_made_in}
use Rattle.run_table.specs.Draining.{told_in_turn}
use Rattle.run_table.specs.Kept.{tapes_in, opening_of}

-- lists, one after the other
abbrev pub joined : {A : Type 0} → List (List A) → List A
joined [] = []
joined (first ∷ lists) = first ++ joined lists

-- this list as a list of one, if the record is one of the path; else an empty list
abbrev pub if_of : {A : Type 0} → Path → Entry → List A → List (List A)
if_of path entry list = if is_same path entry.path then list ∷ [] else []

-- the moves of each record of the path, made again by its turn, from this machine on
abbrev pub shown_from : Tapes → MachineView → Path → List Entry → List (List LinedMove)
shown_from tapes m path [] = []
shown_from tapes m path (e ∷ entries) =
    if_of path e (moves_made_in (turn_of_entry tapes e m)) ++ shown_from tapes (behind_entry tapes e m) path entries

-- the moves of the path's records in a history of the pair: of the records after the first `from`,
-- up to number `upto`
abbrev pub moves_made : Verified → Path → ℕ → ℕ → List Entry → List LinedMove
moves_made pair path from upto history =
    joined (shown_from (tapes_in pair) (fold (tapes_in pair) (opening_of pair) (take from history)) path
    (drop from (take upto history)))

-- what each record of the path tells the turret of the path, by its turn made again, from this
-- machine on: its moves, or the rest before its wait
abbrev pub told_from : Tapes → MachineView → Path → List Entry → List (List Got)
told_from tapes m path [] = []
told_from tapes m path (e ∷ entries) =
    if_of path e (told_in_turn (turn_of_entry tapes e m)) ++ told_from tapes (behind_entry tapes e m) path entries

-- what the path's records in a history of the pair tell its turret, record by record: those after
-- the first `from`, up to number `upto`
abbrev pub told_made : Verified → Path → ℕ → ℕ → List Entry → List Got
told_made pair path from upto history =
    joined (told_from (tapes_in pair) (fold (tapes_in pair) (opening_of pair) (take from history)) path
    (drop from (take upto history)))
