-- The zones that are kept while records are done again are those of the segments of the history.
-- `boxes` (src/meetings.rt) rests on it.
use Rattle.std.proofs.Common.{◌≡◌, ℕ, Bool, true, false, List, [], ◌∷◌, ◌++◌, map, refl, ap, sym, ◌∙◌, append_assoc, append-nil, if◌then◌else◌}
use Rattle.std.proofs.lemmas.List.{map-append}
use Rattle.nc_number.specs.declared.both.Both.{Both}
use Rattle.nc_number.specs.declared.path.Path.{Path}
use Rattle.nc_number.specs.declared.path.Path.TheVariants.{One, Two}
use Rattle.nc_moves.specs.declared.motion.Move.{Move}
use Rattle.nc_outside.specs.declared.lined_move.LinedMove.{LinedMove}
use Rattle.run_records.specs.Entries.{Entry, is_meeting}
use Rattle.two_path.specs.declared.turn.Turn.{Turn}
use Rattle.two_path.specs.Machine.{MachineView}
use Rattle.two_path.specs.Turns.{Tapes}
use Rattle.two_path.specs.Histories.{behind_entry, fold}
use Rattle.two_path.specs.Again.{turn_of_entry}
use Rattle.two_path.specs.Made.{moves_made_by, moves_in, turns_from, moves_of}
use Rattle.two_path.proofs.Replays.{turn_at, fold_more}
use Rattle.zone_area.specs.Area.{SweptView, swept_at, swept_with, swept_along}
use Rattle.zone_cell.specs.declared.cell.Zone.{Zone}
use Rattle.zone_cell.specs.Zones.{ZonesView}
use Rattle.zone_check.specs.Segments.{Segment, unlined, path_moves, segment_of, segments_from, zone_of, zones_of_history}
use Rattle.zone_check.proofs.Unlined.{unlined_turn}
use Rattle.zone_check.specs.Kept.{KeptView, standing_at, standing_with, zones_from}

-- one record more adds the moves of its turn, with their lines, to its path
pub moves_more : (tapes : Tapes) (m : MachineView) (path : Path) (front : List Entry) (e : Entry)
    → moves_of tapes m path (front ++ e ∷ []) ≡ moves_of tapes m path front ++ moves_made_by path (turn_at tapes (fold tapes m front) e)
unfolding moves_in turns_from
moves_more tapes m path [] e = append-nil (moves_made_by path (turn_at tapes m e))
moves_more tapes m path (x ∷ front) e =
    ap (λ (ms : List LinedMove). moves_made_by path (turn_at tapes m x) ++ ms) (moves_more tapes (behind_entry tapes x m) path front e)
    ∙ sym (append_assoc (moves_made_by path (turn_at tapes m x)) (moves_of tapes (behind_entry tapes x m) path front) (moves_made_by path (turn_at tapes (fold tapes (behind_entry tapes x m) front) e)))

-- one record more adds the moves of its turn, without their lines, to its path
path_more : (tapes : Tapes) (m : MachineView) (path : Path) (front : List Entry) (e : Entry)
    → path_moves tapes m path (front ++ e ∷ [])
    ≡ path_moves tapes m path front ++ unlined (moves_made_by path (turn_at tapes (fold tapes m front) e))
path_more tapes m path front e =
    ap unlined (moves_more tapes m path front e)
    ∙ map-append (λ (made : LinedMove). made.what) (moves_of tapes m path front) (moves_made_by path (turn_at tapes (fold tapes m front) e))

-- sweeping moves and then others sweeps all of them
swept_on : (s : SweptView) (front back : List Move) → swept_along s (front ++ back) ≡ swept_along (swept_along s front) back
swept_on s [] back = refl
swept_on s (move ∷ front) back = swept_on (swept_with s move) front back

-- what both paths have swept in a segment
abbrev standing_of : Segment → Both SweptView
standing_of s = record { one = swept_along (swept_at s.left_at) s.left; two = swept_along (swept_at s.right_at) s.right }

-- what both paths have swept, with the moves that a turn adds to each
swept_by : (s : Both SweptView) (of : Path) (turn : Turn)
    → ◌≡◌ {A = Both SweptView} (record {
      one = swept_along s.one (unlined (moves_made_by One (record { path = of; turn = turn })));
      two = swept_along s.two (unlined (moves_made_by Two (record { path = of; turn = turn })));
    }) (standing_with s of turn)
swept_by s One turn =
    let with_moves : List Move → Both SweptView = λ moves. record { one = swept_along s.one moves; two = s.two } in
    ap with_moves (unlined_turn turn)
swept_by s Two turn =
    let with_moves : List Move → Both SweptView = λ moves. record { one = s.one; two = swept_along s.two moves } in
    ap with_moves (unlined_turn turn)

-- one record more, that is no meeting, adds the moves of its turn to what the segment swept
standing_more : (tapes : Tapes) (m : MachineView) (front : List Entry) (e : Entry)
    → standing_of (segment_of tapes m (front ++ e ∷ []))
    ≡ standing_with (standing_of (segment_of tapes m front)) e.path (turn_of_entry tapes e (fold tapes m front))
standing_more tapes m front e =
    let left = swept_at m.paths.one.path.position in
    let right = swept_at m.paths.two.path.position in
    let more = turn_at tapes (fold tapes m front) e in
    let at : SweptView → SweptView → Both SweptView = λ a b. record { one = a; two = b } in
    let one : swept_along left (path_moves tapes m One (front ++ e ∷ [])) ≡ swept_along (swept_along left (path_moves tapes m One front)) (unlined (moves_made_by One more))
    = ap (swept_along left) (path_more tapes m One front e) ∙ swept_on left (path_moves tapes m One front) (unlined (moves_made_by One more)) in
    let two : swept_along right (path_moves tapes m Two (front ++ e ∷ [])) ≡ swept_along (swept_along right (path_moves tapes m Two front)) (unlined (moves_made_by Two more))
    = ap (swept_along right) (path_more tapes m Two front e) ∙ swept_on right (path_moves tapes m Two front) (unlined (moves_made_by Two more)) in
    ap (λ a. at a (swept_along right (path_moves tapes m Two (front ++ e ∷ [])))) one
    ∙ (ap (λ b. at (swept_along (swept_along left (path_moves tapes m One front)) (unlined (moves_made_by One more))) b) two
    ∙ swept_by (standing_of (segment_of tapes m front)) e.path (turn_of_entry tapes e (fold tapes m front)))

-- two functions that agree on both values of a choice agree on the choice
either_way : (test : Bool) (f : KeptView → List Zone) (g : List Segment → List Zone) (one two : KeptView) (some others : List Segment)
    → f one ≡ g some → f two ≡ g others → f (if test then one else two) ≡ g (if test then some else others)
either_way true f g one two some others meets goes_on = meets
either_way false f g one two some others meets goes_on = goes_on

-- a segment without a record has swept where the machine stands
begun : (tapes : Tapes) (m : MachineView) → standing_at m ≡ standing_of (segment_of tapes m [])
unfolding moves_in turns_from
begun tapes m = refl

-- the zones kept so far, with those of the records that are left, are the zones of the segments
folded : (tapes : Tapes) (zones : ZonesView) (m : MachineView) (front : List Entry) (done : List Zone) (entries : List Entry)
    → zones_from tapes zones (fold tapes m front) (record { list = done; standing = standing_of (segment_of tapes m front) }) entries
    ≡ done ++ map (zone_of zones) (segments_from tapes m front entries)
folded tapes zones m front done [] = refl
folded tapes zones m front done (e ∷ entries) =
    let now = fold tapes m front in
    let turn = turn_of_entry tapes e now in
    let zone = zone_of zones (segment_of tapes m front) in
    let next = fold tapes m (front ++ e ∷ []) in
    let is_next : behind_entry tapes e now ≡ next = fold_more tapes m now front (front ++ e ∷ []) e refl refl in
    let meeting : zones_from tapes zones (behind_entry tapes e now) (record { list = done ++ zone ∷ []; standing = standing_at (behind_entry tapes e now) }) entries
    ≡ done ++ map (zone_of zones) (segment_of tapes m front ∷ segments_from tapes next [] entries)
    = ap (λ (x : MachineView). zones_from tapes zones x (record { list = done ++ zone ∷ []; standing = standing_at x }) entries) is_next
    ∙ (ap (λ (s : Both SweptView). zones_from tapes zones next (record { list = done ++ zone ∷ []; standing = s }) entries) (begun tapes next)
    ∙ (folded tapes zones next [] (done ++ zone ∷ []) entries
    ∙ append_assoc done (zone ∷ []) (map (zone_of zones) (segments_from tapes next [] entries)))) in
    let other : zones_from tapes zones (behind_entry tapes e now) (record { list = done; standing = standing_with (standing_of (segment_of tapes m front)) e.path turn }) entries
    ≡ done ++ map (zone_of zones) (segments_from tapes m (front ++ e ∷ []) entries)
    = ap (λ (x : MachineView). zones_from tapes zones x (record { list = done; standing = standing_with (standing_of (segment_of tapes m front)) e.path turn }) entries) is_next
    ∙ (ap (λ (s : Both SweptView). zones_from tapes zones next (record { list = done; standing = s }) entries) (sym (standing_more tapes m front e))
    ∙ folded tapes zones m (front ++ e ∷ []) done entries) in
    either_way (is_meeting e.kind) (λ k. zones_from tapes zones (behind_entry tapes e now) k entries) (λ ss. done ++ map (zone_of zones) ss)
    (record { list = done ++ zone ∷ []; standing = standing_at (behind_entry tapes e now) })
    (record { list = done; standing = standing_with (standing_of (segment_of tapes m front)) e.path turn })
    (segment_of tapes m front ∷ segments_from tapes next [] entries) (segments_from tapes m (front ++ e ∷ []) entries)
    meeting other

-- the zones of a whole history are those of its segments
pub zones_are_those_of_the_segments : (tapes : Tapes) (m : MachineView) (zones : ZonesView) (entries : List Entry)
    → zones_from tapes zones m (record { list = []; standing = standing_at m }) entries ≡ zones_of_history tapes m zones entries
zones_are_those_of_the_segments tapes m zones entries =
    ap (λ (s : Both SweptView). zones_from tapes zones m (record { list = []; standing = s }) entries) (begun tapes m)
    ∙ folded tapes zones m [] [] entries
