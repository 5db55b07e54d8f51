-- A path stands where its moves led it, behind any records. The law `moves_lead_to_positions`
-- (src/laws.rt) rests on it.
use Rattle.std.proofs.Common.{◌≡◌, ℕ, ◌==◌, Bool, true, false, List, [], ◌∷◌, ◌++◌, Option, Some, None, refl, ap, sym, ◌∙◌, unwrap_or}
use Rattle.std.proofs.lemmas.List.{map-append}
use Rattle.nc_number.specs.declared.path.Path.{Path}
use Rattle.nc_number.specs.declared.path.Path.TheVariants.{One, Two}
use Rattle.nc_number.specs.declared.point.Point.{Point}
use Rattle.nc_number.specs.Both.{of_path}
use Rattle.nc_moves.specs.declared.motion.Move.{Move}
use Rattle.nc_moves.specs.declared.alarm.Alarm.{Alarm}
use Rattle.nc_moves.specs.Motion.{end_of}
use Rattle.nc_outside.specs.declared.lined_move.LinedMove.{LinedMove}
use Rattle.run_records.specs.Entries.{Entry, edit_of}
use Rattle.run_records.specs.declared.edit.Edit.{Edit}
use Rattle.tape_flow.specs.declared.flow.Flow.{Flow}
use Rattle.block_values.specs.Moves.{last_end}
use Rattle.path_state.specs.Effect.{Effect}
use Rattle.path_state.specs.Effect as effect
use Rattle.two_path.specs.Machine.{MachineView, own_first, position_of}
use Rattle.two_path.specs.Turns.{TurnResult, Tapes, blocks_of, tapes_of, result_at_wait, result_by, unless_idle, block_turn, own_turn, result, behind_meeting, crossed_waits, alarm_result}
use Rattle.two_path.specs.declared.turn.Turn.TheVariants as turn
use Rattle.two_path.specs.Histories.{with_reads, behind_step, behind_own, behind_entry, fold}
use Rattle.two_path.specs.Again.{turn_by, turn_of_entry}
use Rattle.two_path.specs.Made.{moves_of_turn, moves_made_in, moves_made_by, moves_in, turns_from, moves_of}
use Rattle.two_path.proofs.NoCrossing.{either}
use Rattle.two_path.proofs.Replays.{turn_at}
use Rattle.zone_check.specs.Segments.{unlined, path_moves}
use Rattle.zone_check.proofs.Unlined.{unlined_turn}
use Rattle.zone_check.proofs.MovesLead.{LeadsOn, block_leads}

-- The turn that came to this leaves the first path at the end of its moves, and the other where it
-- stood.
abbrev LeadsBy : MachineView → TurnResult → Type 0
LeadsBy m r = (r.machine.paths.one.path.position ≡ last_end m.paths.one.path.position (moves_of_turn r.turn))
    × (r.machine.paths.two.path.position ≡ m.paths.two.path.position)

-- a turn at a wait moves no path
wait_leads : (path : Path) (line : ℕ) (m : MachineView) (code : ℕ) (there : Option ℕ) → LeadsBy m (result_at_wait path line m code there)
wait_leads path line m code None = (refl, refl)
wait_leads path line m code (Some other) =
    either (λ (r : TurnResult). LeadsBy m r) (code == other) (result (turn.Met code) (behind_meeting m)) (alarm_result (crossed_waits path line) m) (refl, refl) (refl, refl)

-- a turn that does a block leads its path to the end of its moves
effect_leads : (path : Path) (line : ℕ) (m : MachineView) (what : Effect) → LeadsOn m.paths.one.path.position what → LeadsBy m (result_by path line m what)
effect_leads path line m (effect.Need variable) is = (refl, refl)
effect_leads path line m (effect.Done after write moves) is = (is, refl)
effect_leads path line m (effect.AtWait code) is = wait_leads path line m code m.paths.two.waiting
effect_leads path line m (effect.AtEnd after moves) is = (is, refl)
effect_leads path line m (effect.Alarm number value) is = (refl, refl)

-- a turn that may do nothing, for an alarm, an end or a wait, leads the first path to the end of
-- its moves, if the turn of its block does
idle_leads : (m : MachineView) (alarm : Option Alarm) (finished : Bool) (waiting : Option ℕ) (rest : TurnResult) → LeadsBy m rest
    → LeadsBy m (unless_idle m alarm finished waiting rest)
idle_leads m (Some alarm) finished waiting rest is = (refl, refl)
idle_leads m None true waiting rest is = (refl, refl)
idle_leads m None false (Some code) rest is = (refl, refl)
idle_leads m None false None rest is = is

-- each turn of the first path leads it to the end of its moves, and leaves the other where it stood
own_leads : (flow : Flow) (path : Path) (m : MachineView) → LeadsBy m (own_turn (blocks_of flow) path m)
own_leads flow path m =
    idle_leads m m.alarm m.paths.one.finished m.paths.one.waiting (block_turn (blocks_of flow) path m)
    (effect_leads path ((blocks_of flow).line m.paths.one.path.place) m ((blocks_of flow).effect m.paths.one.path m.paths.one.values)
    (block_leads flow m.paths.one.path m.paths.one.values))

-- such a turn leaves the first path at the end of its moves with their lines
lined_leads : (m : MachineView) (r : TurnResult) → LeadsBy m r
    → r.machine.paths.one.path.position ≡ last_end m.paths.one.path.position (unlined (moves_made_in r.turn))
lined_leads m r is = is.0 ∙ ap (last_end m.paths.one.path.position) (sym (unlined_turn r.turn))

-- behind a step of this path, with these stamps, each path stands at the end of its moves
step_leads : (left right : Flow) (of path : Path) (stamps : List ℕ) (m : MachineView)
    → position_of path (own_first of (behind_step (of_path (tapes_of left right) of) of stamps (own_first of m)))
    ≡ last_end (position_of path m) (unlined (moves_made_by path (record { path = of; turn = (own_turn (of_path (tapes_of left right) of) of (with_reads (of_path (tapes_of left right) of) stamps (own_first of m))).turn })))
step_leads left right One One stamps m =
    lined_leads (with_reads (blocks_of left) stamps m) (own_turn (blocks_of left) One (with_reads (blocks_of left) stamps m)) (own_leads left One (with_reads (blocks_of left) stamps m))
step_leads left right One Two stamps m = (own_leads left One (with_reads (blocks_of left) stamps m)).1
step_leads left right Two One stamps m = (own_leads right Two (with_reads (blocks_of right) stamps (own_first Two m))).1
step_leads left right Two Two stamps m =
    let first = with_reads (blocks_of right) stamps (own_first Two m) in
    lined_leads first (own_turn (blocks_of right) Two first) (own_leads right Two first)

-- behind a record, a step or an edit, each path stands at the end of its moves
entry_leads : (left right : Flow) (of path : Path) (edit : Option Edit) (stamps : List ℕ) (m : MachineView)
    → position_of path (own_first of (behind_own (of_path (tapes_of left right) of) of edit stamps (own_first of m)))
    ≡ last_end (position_of path m) (unlined (moves_made_by path (record { path = of; turn = turn_by (of_path (tapes_of left right) of) of edit stamps (own_first of m) })))
entry_leads left right of path None stamps m = step_leads left right of path stamps m
entry_leads left right One One (Some edit) stamps m = refl
entry_leads left right One Two (Some edit) stamps m = refl
entry_leads left right Two One (Some edit) stamps m = refl
entry_leads left right Two Two (Some edit) stamps m = refl

-- the last end of moves is that of the later ones from that of the earlier ones
last_end_on : (at : Point) (front back : List Move) → last_end at (front ++ back) ≡ last_end (last_end at front) back
last_end_on at [] back = refl
last_end_on at (move ∷ front) back = last_end_on (unwrap_or (end_of move) at) front back

-- the moves of a path in records are those of the first record, and then those of the others
path_first : (tapes : Tapes) (m : MachineView) (path : Path) (e : Entry) (entries : List Entry)
    → path_moves tapes m path (e ∷ entries) ≡ unlined (moves_made_by path (turn_at tapes m e)) ++ path_moves tapes (behind_entry tapes e m) path entries
unfolding moves_in turns_from
path_first tapes m path e entries =
    map-append (λ (made : LinedMove). made.what) (moves_made_by path (turn_at tapes m e)) (moves_of tapes (behind_entry tapes e m) path entries)

-- behind any records a path stands where its moves led it
pub positions_lead : (left right : Flow) (m : MachineView) (path : Path) (entries : List Entry)
    → position_of path (fold (tapes_of left right) m entries)
    ≡ last_end (position_of path m) (path_moves (tapes_of left right) m path entries)
unfolding moves_in turns_from
positions_lead left right m path [] = refl
positions_lead left right m path (e ∷ entries) =
    let tapes = tapes_of left right in
    let next = behind_entry tapes e m in
    let moves = unlined (moves_made_by path (turn_at tapes m e)) in
    positions_lead left right next path entries
    ∙ ap (λ (at : Point). last_end at (path_moves tapes next path entries)) (entry_leads left right e.path path (edit_of e.kind) e.stamps m)
    ∙ sym (last_end_on (position_of path m) moves (path_moves tapes next path entries))
    ∙ ap (last_end (position_of path m)) (sym (path_first tapes m path e entries))
