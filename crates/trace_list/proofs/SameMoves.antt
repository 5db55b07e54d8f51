-- The moves of a path in a trace are those of the report.
-- For the proof of `a_trace_has_the_moves_of_the_report` (src/laws.rt).
use Rattle.std.proofs.Common.{◌≡◌, ℕ, ◌+◌, ◌||◌, Bool, true, false, List, [], ◌∷◌, ◌++◌, refl, sym, ap, ◌∙◌, append-nil}
use Rattle.std.specs.Prelude.{if◌then◌else◌, map}
use Rattle.std.specs.List.{flat_map}
use Rattle.std.proofs.lemmas.Grind.{flat_map-append}
use Rattle.nc_number.specs.Path.{is_same}
use Rattle.nc_number.specs.declared.path.Path.{Path}
use Rattle.nc_number.specs.declared.point.Point.{Point}
use Rattle.nc_moves.specs.declared.motion.Move.{Move}
use Rattle.nc_moves.specs.declared.motion.Moves.{Moves}
use Rattle.nc_outside.specs.declared.lined_move.LinedMove.{LinedMove}
use Rattle.nc_outside.specs.Lined.{lined_moves, lined_move}
use Rattle.run_records.specs.Entries.{Entry}
use Rattle.two_path.specs.declared.turn.Turn.{Turn}
use Rattle.two_path.specs.declared.turn.Turn.TheVariants as turn
use Rattle.two_path.specs.Machine.{MachineView}
use Rattle.two_path.specs.Turns.{Tapes}
use Rattle.two_path.specs.Histories.{behind_entry}
use Rattle.two_path.specs.Again.{turn_of_entry}
use Rattle.two_path.specs.Made.{moves_made_by, moves_made_in, moves_in, moves_of, turns_from}
use Rattle.trace_list.specs.declared.looking.Look.{Look}
use Rattle.trace_list.specs.declared.looking.Standing.{Standing}
use Rattle.trace_list.specs.Laws.{move_of, moves_traced}
use Rattle.trace_list.specs.Trace.{block_lines, is_same_point, is_same_way, lines_of, look_of, met_after, moved_lines, path_in, says_speed, shift_lines, spindle_lines, standing_of, traced_lines, turn_lines}
use Rattle.trace_list.specs.TraceText.{Shift, Spindle, Ended}

-- these moves for one path (true), and none for the other
abbrev chosen : Bool → List LinedMove → List LinedMove
chosen b moves = if b then moves else []

-- one move more is chosen, or none is
chosen_more : (b : Bool) (x : LinedMove) (xs : List LinedMove) → (if b then x ∷ [] else []) ++ chosen b xs ≡ chosen b (x ∷ xs)
chosen_more true x xs = refl
chosen_more false x xs = refl

-- no moves are chosen of none
chosen_none : (b : Bool) → chosen b [] ≡ []
chosen_none true = refl
chosen_none false = refl

-- the lines of moves have these moves, if they are lines of this path
moved_moves : (path of : Path) (line : ℕ) (moves : List Move) → moves_traced path (moved_lines of line moves) ≡ chosen (is_same path of) (map (lined_move line) moves)
moved_moves path of line [] = sym (chosen_none (is_same path of))
moved_moves path of line (x ∷ xs) =
    ap (λ (t : List LinedMove). (if is_same path of then lined_move line x ∷ [] else []) ++ t) (moved_moves path of line xs)
    ∙ chosen_more (is_same path of) (lined_move line x) (map (lined_move line) xs)

-- the line of a shift has no moves
no_shift : (path of : Path) (line : ℕ) (after : Point) (b : Bool) → moves_traced path (if b then [] else Shift of line after ∷ []) ≡ []
no_shift path of line after true = refl
no_shift path of line after false = refl

-- the line of the spindle's way has no moves
no_way : (path of : Path) (line : ℕ) (after b : Bool) → moves_traced path (if b then [] else Spindle of line after ∷ []) ≡ []
no_way path of line after true = refl
no_way path of line after false = refl

-- the lines of a block have its moves, if it is one of this path
block_moves : (path of : Path) (moves : Moves) (before after : Look) → moves_traced path (block_lines of moves before after) ≡ chosen (is_same path of) (lined_moves moves)
block_moves path of moves before after =
    let shift = shift_lines of moves.line before.shift after.shift in
    let way = spindle_lines of moves before.surface after.surface in
    let rest = moved_lines of moves.line moves.list in
    flat_map-append (move_of path) shift (way ++ rest)
    ∙ ap (λ (t : List LinedMove). t ++ moves_traced path (way ++ rest)) (no_shift path of moves.line after.shift (is_same_point before.shift after.shift))
    ∙ flat_map-append (move_of path) way rest
    ∙ ap (λ (t : List LinedMove). t ++ moves_traced path rest) (no_way path of moves.line after.surface (is_same_way before.surface after.surface || says_speed moves.list))
    ∙ moved_moves path of moves.line moves.list

-- the lines of a turn have the moves that the turn made, if it is one of this path
turn_moves : (path of : Path) (met : ℕ) (before : Standing) (after : Look) (t : Turn)
    → moves_traced path (turn_lines of met before after t) ≡ chosen (is_same path of) (moves_made_in t)
turn_moves path of met before after (turn.Read variable stamp) = sym (chosen_none (is_same path of))
turn_moves path of met before after (turn.Did moves) = block_moves path of moves before.look after
turn_moves path of met before after (turn.Arrived code) = sym (chosen_none (is_same path of))
turn_moves path of met before after (turn.Met code) = sym (chosen_none (is_same path of))
turn_moves path of met before after (turn.Ended moves) =
    flat_map-append (move_of path) (block_lines of moves before.look after) (Ended of moves.line ∷ [])
    ∙ append-nil (moves_traced path (block_lines of moves before.look after)) ∙ block_moves path of moves before.look after
turn_moves path of met before after (turn.Waiting code) = sym (chosen_none (is_same path of))
turn_moves path of met before after turn.Finished = sym (chosen_none (is_same path of))
turn_moves path of met before after (turn.Alarm alarm) = sym (chosen_none (is_same path of))
turn_moves path of met before after (turn.Halted alarm) = sym (chosen_none (is_same path of))
turn_moves path of met before after turn.Edited = sym (chosen_none (is_same path of))

-- the trace of a history has the moves of its report
pub same_moves : (tapes : Tapes) (met : ℕ) (m : MachineView) (path : Path) (entries : List Entry)
    → moves_traced path (traced_lines tapes met m entries) ≡ moves_of tapes m path entries
unfolding traced_lines moves_in turns_from
same_moves tapes met m path [] = refl
same_moves tapes met m path (e ∷ entries) =
    let t = turn_of_entry tapes e m in
    let next = behind_entry tapes e m in
    flat_map-append (move_of path) (lines_of tapes met m e) (traced_lines tapes (met_after met t) next entries)
    ∙ ap (λ (ms : List LinedMove). ms ++ moves_traced path (traced_lines tapes (met_after met t) next entries)) (turn_moves path e.path met (standing_of tapes e.path m) (look_of (path_in e.path next)) t)
    ∙ ap (λ (ms : List LinedMove). moves_made_by path (record { path = e.path; turn = t }) ++ ms) (same_moves tapes (met_after met t) next path entries)
