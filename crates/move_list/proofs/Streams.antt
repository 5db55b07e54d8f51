-- The lines of moves, as a turret writes them and as a report has them.
use Rattle.std.proofs.Common.{◌≡◌, List, [], ◌∷◌, ◌++◌, map, refl, sym, ap, ◌∙◌, append_assoc}
use Rattle.nc_number.specs.declared.path.Path.{Path}
use Rattle.nc_number.specs.declared.point.Point.{Point}
use Rattle.nc_outside.specs.declared.got.Got.TheVariants.{Placed, Moved}
use Rattle.nc_outside.specs.declared.lined_move.LinedMove.{LinedMove}
use Rattle.move_text.specs.MoveText.{placed_text}
use Rattle.turret_lines.specs.Meetings.{no_standing}
use Rattle.turret_lines.specs.Stream.{lines_from, stream_of}
use Rattle.run_records.specs.Entries.{Entry}
use Rattle.two_path.specs.Histories.{behind_entry, fold}
use Rattle.two_path.specs.Machine.{MachineView}
use Rattle.two_path.specs.Turns.{Tapes}
use Rattle.two_path.specs.Made.{moves_made_by, moves_in, moves_of, turns_from}
use Rattle.move_list.specs.Report.{lined_text, lines_text}
use Rattle.two_path.proofs.Replays.{turn_at}

-- the lines that a turret writes of its moves, without a wait, are those of a report
lines_same : (moves : List LinedMove) → lines_from no_standing (map Moved moves) ≡ lines_text moves
lines_same [] = refl
lines_same (made ∷ moves) = ap (λ rest. lined_text made ++ rest) (lines_same moves)

-- a turret that was placed and got these moves has written its place and their lines
pub stream_is : (at : Point) (moves : List LinedMove) → stream_of (Placed at ∷ map Moved moves) ≡ placed_text at ++ lines_text moves
unfolding stream_of
stream_is at moves = ap (λ rest. placed_text at ++ rest) (lines_same moves)

-- the moves of a longer history are those of its first records and those of the later ones
pub later_moves : (tapes : Tapes) (m : MachineView) (path : Path) (before later : List Entry)
    → moves_of tapes m path (before ++ later) ≡ moves_of tapes m path before ++ moves_of tapes (fold tapes m before) path later
unfolding moves_in turns_from
later_moves tapes m path [] later = refl
later_moves tapes m path (e ∷ before) later =
    let first = moves_made_by path (turn_at tapes m e) in
    let next = behind_entry tapes e m in
    ap (λ rest. first ++ rest) (later_moves tapes next path before later)
    ∙ sym (append_assoc first (moves_of tapes next path before) (moves_of tapes (fold tapes next before) path later))
