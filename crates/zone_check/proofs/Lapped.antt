-- What is hit in the segments kept while records are done again is what is hit in those of the
-- history. `findings` (src/judging.rt) rests on it.
use Rattle.std.proofs.Common.{◌≡◌, ℕ, ◌≤◌, Bool, true, false, List, [], ◌∷◌, ◌++◌, Option, None, Result, Ok, Err, length, drop, map, refl, ap, sym, ◌∙◌, append_assoc, append-nil, if◌then◌else◌}
use Rattle.std.specs.Prelude.{IfOk}
use Rattle.std.proofs.lemmas.List.{at_drop_all}
use Rattle.nc_number.specs.declared.both.Both.{Both}
use Rattle.nc_number.specs.declared.path.Path.{Path}
use Rattle.nc_number.specs.declared.path.Path.TheVariants.{One, Two}
use Rattle.nc_number.specs.declared.point.Point.{Point}
use Rattle.nc_outside.specs.declared.lined_move.LinedMove.{LinedMove}
use Rattle.run_records.specs.Entries.{Entry, is_meeting}
use Rattle.two_path.specs.declared.turn.Turn.{Turn}
use Rattle.two_path.specs.Machine.{MachineView}
use Rattle.two_path.specs.Turns.{Tapes}
use Rattle.two_path.specs.Histories.{behind_entry, fold}
use Rattle.two_path.specs.Again.{turn_of_entry}
use Rattle.two_path.specs.Made.{moves_made_by, moves_in, turns_from, moves_of}
use Rattle.two_path.proofs.Replays.{turn_at, fold_more}
use Rattle.zone_area.specs.Passing.{place_after}
use Rattle.zone_moves.specs.declared.stretch.Stretch.{Stretch}
use Rattle.zone_moves.specs.Stretches.{CellView, TrailView, tool_after, move_stretch, move_stretches, stretches_of, trail_at, trail_with, trail_along}
use Rattle.zone_moves.specs.Judged.{judged}
use Rattle.zone_cell.specs.declared.finding.Finding.{Finding}
use Rattle.zone_check.specs.Laps.{Lap, tool_in_force, lap_of, met_code, laps_from, finding_of, findings_of_history}
use Rattle.zone_check.specs.Trailed.{FoundView, trails_at, trails_with, trails_finding, found_with, findings_from}
use Rattle.zone_check.proofs.Folded.{moves_more}

-- following moves and then others follows all of them
along_on : (cell : CellView) (path : Path) (trail : TrailView) (front back : List LinedMove)
    → trail_along cell path trail (front ++ back) ≡ trail_along cell path (trail_along cell path trail front) back
along_on cell path trail [] back = refl
along_on cell path trail (made ∷ front) back = along_on cell path (trail_with cell path trail made) front back

-- the stretches of a trail go on with those of its moves
stretches_on : (cell : CellView) (path : Path) (trail : TrailView) (moves : List LinedMove)
    → (trail_along cell path trail moves).stretches ≡ trail.stretches ++ move_stretches cell path trail.tool trail.at moves
stretches_on cell path trail [] = sym (append-nil trail.stretches)
stretches_on cell path trail (made ∷ moves) =
    stretches_on cell path (trail_with cell path trail made) moves
    ∙ append_assoc trail.stretches (move_stretch cell path trail.tool trail.at made ∷ [])
    (move_stretches cell path (tool_after trail.tool made.what) (place_after trail.at made.what) moves)

-- the stretches of the trail of moves are those of the moves
stretches_are : (cell : CellView) (path : Path) (tool : ℕ) (at : Point) (moves : List LinedMove)
    → (trail_along cell path (trail_at cell path tool at) moves).stretches ≡ stretches_of cell path tool at moves
stretches_are cell path tool at moves = stretches_on cell path (trail_at cell path tool at) moves

-- the trails of both paths in a segment
abbrev trails_of : CellView → Lap → Both TrailView
trails_of cell lap = record {
  one = trail_along cell One (trail_at cell One lap.left_tool lap.left_at) lap.left;
  two = trail_along cell Two (trail_at cell Two lap.right_tool lap.right_at) lap.right;
}

-- what is hit by the trails of a segment is what is hit in it
trails_found : (cell : CellView) (lap : Lap) → trails_finding cell lap.met (trails_of cell lap) ≡ finding_of cell lap
trails_found cell lap =
    let hit : List Stretch → List Stretch → Finding = λ lefts rights. record { met = lap.met; hit = judged cell lefts rights } in
    let left = stretches_are cell One lap.left_tool lap.left_at lap.left in
    let right = stretches_are cell Two lap.right_tool lap.right_at lap.right in
    ap (λ lefts. hit lefts (trails_of cell lap).two.stretches) left
    ∙ ap (λ rights. hit (stretches_of cell One lap.left_tool lap.left_at lap.left) rights) right

-- one record more, that is no meeting, adds the moves of its turn to the trails of the segment
trails_more : (tapes : Tapes) (cell : CellView) (met : Option ℕ) (m : MachineView) (front : List Entry) (e : Entry)
    → trails_of cell (lap_of tapes met m (front ++ e ∷ []))
    ≡ trails_with cell (trails_of cell (lap_of tapes met m front)) e.path (turn_of_entry tapes e (fold tapes m front))
trails_more tapes cell met m front e =
    let left = trail_at cell One (tool_in_force m.paths.one) m.paths.one.path.position in
    let right = trail_at cell Two (tool_in_force m.paths.two) m.paths.two.path.position in
    let more = turn_at tapes (fold tapes m front) e in
    let at : TrailView → TrailView → Both TrailView = λ a b. record { one = a; two = b } in
    let one = ap (trail_along cell One left) (moves_more tapes m One front e) ∙ along_on cell One left (moves_of tapes m One front) (moves_made_by One more) in
    let two = ap (trail_along cell Two right) (moves_more tapes m Two front e) ∙ along_on cell Two right (moves_of tapes m Two front) (moves_made_by Two more) in
    ap (λ a. at a (trail_along cell Two right (moves_of tapes m Two (front ++ e ∷ [])))) one
    ∙ ap (λ b. at (trail_along cell One (trail_along cell One left (moves_of tapes m One front)) (moves_made_by One more)) b) two

-- two functions that agree on both values of a choice agree on the choice
either_way : (test : Bool) (f : FoundView → List Finding) (g : List Lap → List Finding) (one two : FoundView) (some others : List Lap)
    → f one ≡ g some → f two ≡ g others → f (if test then one else two) ≡ g (if test then some else others)
either_way true f g one two some others meets goes_on = meets
either_way false f g one two some others meets goes_on = goes_on

-- a segment without a record has the trails where the machine stands
begun : (tapes : Tapes) (cell : CellView) (met : Option ℕ) (m : MachineView) → trails_at cell m ≡ trails_of cell (lap_of tapes met m [])
unfolding moves_in turns_from
begun tapes cell met m = refl

-- what is hit so far, with the records that are left, is what is hit in the segments
folded : (tapes : Tapes) (cell : CellView) (met : Option ℕ) (m : MachineView) (front : List Entry) (done : List Finding) (entries : List Entry)
    → findings_from tapes cell (fold tapes m front) (record { list = done; met = met; trails = trails_of cell (lap_of tapes met m front) }) entries
    ≡ done ++ map (finding_of cell) (laps_from tapes met m front entries)
folded tapes cell met m front done [] = ap (λ f. done ++ f ∷ []) (trails_found cell (lap_of tapes met m front))
folded tapes cell met m front done (e ∷ entries) =
    let now = fold tapes m front in
    let turn = turn_of_entry tapes e now in
    let code = met_code turn in
    let lap = lap_of tapes met m front in
    let found = trails_finding cell met (trails_of cell lap) in
    let finding = finding_of cell lap in
    let next = fold tapes m (front ++ e ∷ []) in
    let is_next : behind_entry tapes e now ≡ next = fold_more tapes m now front (front ++ e ∷ []) e refl refl in
    let meeting : findings_from tapes cell (behind_entry tapes e now) (record { list = done ++ found ∷ []; met = code; trails = trails_at cell (behind_entry tapes e now) }) entries
    ≡ done ++ map (finding_of cell) (lap ∷ laps_from tapes code next [] entries)
    = ap (λ (x : MachineView). findings_from tapes cell x (record { list = done ++ found ∷ []; met = code; trails = trails_at cell x }) entries) is_next
    ∙ (ap (λ (s : Both TrailView). findings_from tapes cell next (record { list = done ++ found ∷ []; met = code; trails = s }) entries) (begun tapes cell code next)
    ∙ (folded tapes cell code next [] (done ++ found ∷ []) entries
    ∙ (append_assoc done (found ∷ []) (map (finding_of cell) (laps_from tapes code next [] entries))
    ∙ ap (λ f. done ++ f ∷ map (finding_of cell) (laps_from tapes code next [] entries)) (trails_found cell lap)))) in
    let other : findings_from tapes cell (behind_entry tapes e now) (record { list = done; met = met; trails = trails_with cell (trails_of cell lap) e.path turn }) entries
    ≡ done ++ map (finding_of cell) (laps_from tapes met m (front ++ e ∷ []) entries)
    = ap (λ (x : MachineView). findings_from tapes cell x (record { list = done; met = met; trails = trails_with cell (trails_of cell lap) e.path turn }) entries) is_next
    ∙ (ap (λ (s : Both TrailView). findings_from tapes cell next (record { list = done; met = met; trails = s }) entries) (sym (trails_more tapes cell met m front e))
    ∙ folded tapes cell met m (front ++ e ∷ []) done entries) in
    either_way (is_meeting e.kind) (λ k. findings_from tapes cell (behind_entry tapes e now) k entries) (λ ls. done ++ map (finding_of cell) ls)
    (record { list = done ++ found ∷ []; met = code; trails = trails_at cell (behind_entry tapes e now) })
    (record { list = done; met = met; trails = trails_with cell (trails_of cell lap) e.path turn })
    (lap ∷ laps_from tapes code next [] entries) (laps_from tapes met m (front ++ e ∷ []) entries)
    meeting other

-- what is hit in a whole history is what is hit in its segments
pub findings_are_those_of_the_laps : (tapes : Tapes) (m : MachineView) (cell : CellView) (entries : List Entry)
    → findings_from tapes cell m (record { list = []; met = None; trails = trails_at cell m }) entries ≡ findings_of_history tapes m cell entries
findings_are_those_of_the_laps tapes m cell entries =
    ap (λ (s : Both TrailView). findings_from tapes cell m (record { list = []; met = None; trails = s }) entries) (begun tapes cell None m)
    ∙ folded tapes cell None m [] [] entries

-- with one record more done, what is kept and the records that are left give the same findings
pub findings_on : (tapes : Tapes) (cell : CellView) (m after : MachineView) (k more : FoundView) (all : List Finding) (left rest : List Entry) (e : Entry) (turn : Turn)
    → left ≡ e ∷ rest → after ≡ behind_entry tapes e m → turn ≡ turn_of_entry tapes e m → more ≡ found_with cell e turn after k
    → findings_from tapes cell m k left ≡ all → findings_from tapes cell after more rest ≡ all
findings_on tapes cell m after k more all left rest e turn is is_after is_turn is_more so_far =
    rw (is_more, is_turn, is_after) (ap (findings_from tapes cell m k) (sym is) ∙ so_far)

-- behind the last record, what is kept and what is hit in the last segment are all findings
pub findings_at_end : (tapes : Tapes) (cell : CellView) (m : MachineView) (k : FoundView) (all : List Finding) (entries : List Entry) (i : ℕ)
    → length entries ≤ i → findings_from tapes cell m k (drop i entries) ≡ all → k.list ++ trails_finding cell k.met k.trails ∷ [] ≡ all
findings_at_end tapes cell m k all entries i le so_far =
    sym (at_drop_all (λ es. findings_from tapes cell m k es) entries i le) ∙ so_far

-- an answer that is the one list, if there is an answer, is the other list that equals it
pub same_findings : {X E : Type 0} (items : X → List Finding) (result : Result X E) (a b : List Finding) → a ≡ b
    → IfOk result (λ x. items x ≡ a) → IfOk result (λ x. items x ≡ b)
same_findings items (Ok x) a b e is = is ∙ e
same_findings items (Err fault) a b e is = tt
