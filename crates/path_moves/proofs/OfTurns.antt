-- The moves of a path in turns are those of the records that the turns make: for the law of
-- src/laws.rt.
use Rattle.std.proofs.Common.{◌≡◌, List, [], ◌∷◌, ◌++◌, Option, Some, None, refl, ap, sym, ◌∙◌}
use Rattle.nc_number.specs.Both.{of_path}
use Rattle.nc_number.specs.declared.path.Path.{Path}
use Rattle.nc_number.specs.declared.path.Path.TheVariants.{One, Two}
use Rattle.nc_outside.specs.declared.lined_move.LinedMove.{LinedMove}
use Rattle.path_state.specs.View.{PathView}
use Rattle.run_records.specs.Entries.{Entry}
use Rattle.run_records.specs.declared.entry.EntryKind.{EntryKind}
use Rattle.two_path.specs.declared.turn.Turn.{Turn}
use Rattle.two_path.specs.declared.turn.Turn.TheVariants as turn
use Rattle.two_path.specs.Machine.{MachineView, without_reads}
use Rattle.two_path.specs.Turns.{Tapes, TurnResult, turn_of, kind_of, entry_with}
use Rattle.two_path.specs.Histories.{TurnOf, behind_entry, history, list_of, turns_of, AreLawful}
use Rattle.two_path.specs.Made.{moves_made_in, moves_made_by, moves_of, moves_in, turns_from}
use Rattle.two_path.proofs.Edited.{entry}
use Rattle.two_path.proofs.Lawful.{event_sound}
use Rattle.two_path.proofs.Recorded.{recorded, unrecorded}
use Rattle.race_order.specs.Agreement.{Deed, own_deeds, other_deeds, turn_deeds, deeds_by, moves_among, moves_by}
use Rattle.path_moves.specs.OneWord.{moves_with_lines}

-- what a path does in a turn of its own has the moves of the turn
own_moves : (t : Turn) (from : PathView) (rest : List Deed)
    → moves_with_lines (moves_among (own_deeds t from ++ rest)) ≡ moves_made_in t ++ moves_with_lines (moves_among rest)
own_moves (turn.Did moves) from rest = refl
own_moves (turn.Ended moves) from rest = refl
own_moves (turn.Read variable stamp) from rest = refl
own_moves (turn.Arrived code) from rest = refl
own_moves (turn.Met code) from rest = refl
own_moves (turn.Waiting code) from rest = refl
own_moves turn.Finished from rest = refl
own_moves (turn.Alarm alarm) from rest = refl
own_moves (turn.Halted alarm) from rest = refl
own_moves turn.Edited from rest = refl

-- what it does in a turn of the other path has none
other_moves : (t : Turn) (from : PathView) (rest : List Deed)
    → moves_with_lines (moves_among (other_deeds t from ++ rest)) ≡ moves_with_lines (moves_among rest)
other_moves (turn.Did moves) from rest = refl
other_moves (turn.Ended moves) from rest = refl
other_moves (turn.Read variable stamp) from rest = refl
other_moves (turn.Arrived code) from rest = refl
other_moves (turn.Met code) from rest = refl
other_moves (turn.Waiting code) from rest = refl
other_moves turn.Finished from rest = refl
other_moves (turn.Alarm alarm) from rest = refl
other_moves (turn.Halted alarm) from rest = refl
other_moves turn.Edited from rest = refl

-- the moves that a turn of `path` with this answer adds to those of the path `who`
abbrev added : Path → Path → Turn → List LinedMove
added who path answer = moves_made_by who (record { path = path; turn = answer })

-- so what a path does in a turn of either path has the moves that the turn adds
turn_moves : (who path : Path) (r : TurnResult) (rest : List Deed)
    → moves_with_lines (moves_among (turn_deeds who path r ++ rest)) ≡ added who path r.turn ++ moves_with_lines (moves_among rest)
turn_moves One One r rest = own_moves r.turn r.machine.paths.one.path rest
turn_moves Two Two r rest = own_moves r.turn r.machine.paths.two.path rest
turn_moves One Two r rest = other_moves r.turn r.machine.paths.one.path rest
turn_moves Two One r rest = other_moves r.turn r.machine.paths.two.path rest

-- a turn without a record has no moves
none_made : (t : Turn) → kind_of t ≡ None → moves_made_in t ≡ []
none_made (turn.Did moves) none = absurd cc
none_made (turn.Ended moves) none = absurd cc
none_made (turn.Arrived code) none = absurd cc
none_made (turn.Met code) none = absurd cc
none_made (turn.Alarm alarm) none = absurd cc
none_made (turn.Read variable stamp) none = refl
none_made (turn.Waiting code) none = refl
none_made turn.Finished none = refl
none_made (turn.Halted alarm) none = refl
none_made turn.Edited none = refl

-- so it adds none to those of either path
none_added : (who path : Path) (t : Turn) → kind_of t ≡ None → added who path t ≡ []
none_added One One t none = none_made t none
none_added Two Two t none = none_made t none
none_added One Two t none = refl
none_added Two One t none = refl

-- the moves that a turn adds are those of its record, if it makes one; these records follow
by_record : (tapes : Tapes) (who path : Path) (m : MachineView) (rest : List Entry) → AreLawful tapes m
    → (k : Option EntryKind) → kind_of (turn_of tapes path m).turn ≡ k
    → added who path (turn_of tapes path m).turn ++ moves_of tapes (without_reads (turn_of tapes path m).machine) who rest
    ≡ moves_of tapes (without_reads m) who (list_of (entry_with path (of_path m.paths path).stamps (kind_of (turn_of tapes path m).turn)) ++ rest)
unfolding moves_in turns_from
by_record tapes who path m rest lawful (Some k) is =
    let r = turn_of tapes path m in
    let stamps = (of_path m.paths path).stamps in
    let e = entry path k stamps in
    let again = recorded tapes path m lawful k is in
    sym
    (ap (λ x. moves_of tapes (without_reads m) who (list_of (entry_with path stamps x) ++ rest)) is
    ∙ (ap (λ t. added who path t ++ moves_of tapes (behind_entry tapes e (without_reads m)) who rest) again.answer
    ∙ ap (λ x. added who path r.turn ++ moves_of tapes x who rest) again.behind))
by_record tapes who path m rest lawful None is =
    let r = turn_of tapes path m in
    let stamps = (of_path m.paths path).stamps in
    ap (λ (first : List LinedMove). first ++ moves_of tapes (without_reads r.machine) who rest) (none_added who path r.turn is)
    ∙ (ap (λ x. moves_of tapes x who rest) (unrecorded tapes path m lawful is)
    ∙ sym (ap (λ x. moves_of tapes (without_reads m) who (list_of (entry_with path stamps x) ++ rest)) is))

-- the moves of a path in turns are those of the records that these turns make
pub of_turns : (tapes : Tapes) (m : MachineView) (who : Path) (turns : List Path) → AreLawful tapes m
    → moves_with_lines (moves_by tapes who m turns) ≡ moves_of tapes (without_reads m) who (history tapes m (turns_of turns))
unfolding moves_in turns_from
of_turns tapes m who [] lawful = refl
of_turns tapes m who (path ∷ turns) lawful =
    let r = turn_of tapes path m in
    turn_moves who path r (deeds_by tapes who r.machine turns)
    ∙ (ap (λ (more : List LinedMove). added who path r.turn ++ more) (of_turns tapes r.machine who turns (event_sound tapes (TurnOf path) m lawful))
    ∙ by_record tapes who path m (history tapes r.machine (turns_of turns)) lawful (kind_of r.turn) refl)
