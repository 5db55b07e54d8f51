-- The moves of records, list by list, are the moves of the records: for the law of src/laws.rt.
use Rattle.std.proofs.Common.{◌≡◌, Bool, true, false, List, [], ◌∷◌, ◌++◌, refl, ap}
use Rattle.nc_number.specs.Path.{is_same}
use Rattle.nc_number.specs.declared.path.Path.{Path}
use Rattle.nc_outside.specs.declared.lined_move.LinedMove.{LinedMove}
use Rattle.run_records.specs.Entries.{Entry}
use Rattle.two_path.specs.Machine.{MachineView}
use Rattle.two_path.specs.Turns.{Tapes}
use Rattle.two_path.specs.Histories.{behind_entry}
use Rattle.two_path.specs.Again.{turn_of_entry}
use Rattle.two_path.specs.Made.{moves_made_in, moves_of, moves_in, turns_from}
use Rattle.run_table.specs.Made.{joined, shown_from}

-- the moves of each record of the path, joined, are the moves of the path's records
pub of_records : (tapes : Tapes) (m : MachineView) (path : Path) (entries : List Entry)
    → joined (shown_from tapes m path entries) ≡ moves_of tapes m path entries
unfolding moves_in turns_from
of_records tapes m path [] = refl
of_records tapes m path (e ∷ entries) =
    go (is_same path e.path) refl (of_records tapes (behind_entry tapes e m) path entries)
  where
    go : (b : Bool) → is_same path e.path ≡ b
        → joined (shown_from tapes (behind_entry tapes e m) path entries) ≡ moves_of tapes (behind_entry tapes e m) path entries
        → joined (shown_from tapes m path (e ∷ entries)) ≡ moves_of tapes m path (e ∷ entries)
    go true is rest = rw is (ap (λ (more : List LinedMove). moves_made_in (turn_of_entry tapes e m) ++ more) rest)
    go false is rest = rw is rest
