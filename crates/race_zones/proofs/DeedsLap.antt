-- The segments of the records of turns are those of what both paths did: for Alike.
use Rattle.std.proofs.Common.{◌≡◌, ℕ, Bool, true, false, List, [], ◌∷◌, ◌++◌, Option, Some, None, refl, ap, sym, ◌∙◌, append-nil, append_assoc}
use Rattle.std.specs.Prelude.{◌/◌}
use Rattle.nc_number.specs.declared.path.Path.{Path}
use Rattle.nc_number.specs.declared.path.Path.TheVariants.{One, Two}
use Rattle.nc_number.specs.Both.{of_path}
use Rattle.nc_outside.specs.declared.lined_move.LinedMove.{LinedMove}
use Rattle.nc_outside.specs.Lined.{lined_moves}
use Rattle.nc_moves.specs.declared.motion.Moves.{Moves}
use Rattle.run_records.specs.Entries.{Entry, is_meeting}
use Rattle.run_records.specs.declared.entry.EntryKind.{EntryKind}
use Rattle.run_records.specs.declared.entry.EntryKind.TheVariants as kind
use Rattle.path_state.specs.View.{PathView}
use Rattle.two_path.specs.declared.turn.Turn.{Turn}
use Rattle.two_path.specs.declared.turn.Turn.TheVariants as turn
use Rattle.two_path.specs.Machine.{MachineView, without_reads}
use Rattle.two_path.specs.Turns.{Tapes, TurnResult, result, turn_of, kind_of, entry_with, entry_of}
use Rattle.two_path.specs.Histories.{TurnOf, behind_entry, history, fold, list_of, turns_of, AreLawful}
use Rattle.two_path.specs.Again.{turn_of_entry}
use Rattle.two_path.specs.Made.{moves_of, moves_in, turns_from, moves_made_by}
use Rattle.two_path.proofs.Edited.{entry}
use Rattle.two_path.proofs.Folds.{fold_push}
use Rattle.two_path.proofs.Lawful.{event_sound}
use Rattle.two_path.proofs.Recorded.{recorded, unrecorded}
use Rattle.race_order.specs.Agreement.{Deed, Makes, Meets, own_deeds, other_deeds, turn_deeds, deeds_by}
use Rattle.zone_check.specs.Laps.{Lap, met_code, lap_of, laps_from, laps_of}
use Rattle.zone_check.proofs.Folded.{moves_more}

-- the segment that begins with this meeting, where both paths stand so, and has these moves
abbrev lap_at : Option ℕ → PathView → PathView → List LinedMove → List LinedMove → Lap
lap_at met mine yours left right = record {
  met = met;
  left_at = mine.position;
  left_tool = mine.modal.tool / 100;
  left = left;
  right_at = yours.position;
  right_tool = yours.modal.tool / 100;
  right = right;
}

-- the moves before the next meeting
abbrev until_meeting : List Deed → List LinedMove
until_meeting [] = []
until_meeting (Makes moves ∷ deeds) = lined_moves moves ++ until_meeting deeds
until_meeting (Meets code from ∷ deeds) = []

-- from where the path goes on behind the next meeting
abbrev goes_from : PathView → List Deed → PathView
goes_from path [] = path
goes_from path (Makes moves ∷ deeds) = goes_from path deeds
goes_from path (Meets code from ∷ deeds) = from

-- what the path does behind the next meeting
abbrev behind_next : List Deed → List Deed
behind_next [] = []
behind_next (Makes moves ∷ deeds) = behind_next deeds
behind_next (Meets code from ∷ deeds) = deeds

-- The segments of what both paths do, of which the first began so and has had these moves so far.
abbrev pub laps_by : Option ℕ → PathView → PathView → List LinedMove → List LinedMove → List Deed → List Deed → List Lap
laps_by met mine yours left right [] theirs = lap_at met mine yours left (right ++ until_meeting theirs) ∷ []
laps_by met mine yours left right (Makes moves ∷ deeds) theirs = laps_by met mine yours (left ++ lined_moves moves) right deeds theirs
laps_by met mine yours left right (Meets code from ∷ deeds) theirs =
    lap_at met mine yours left (right ++ until_meeting theirs)
    ∷ laps_by (Some code) from (goes_from yours theirs) [] [] deeds (behind_next theirs)

-- moves of the second path that come next are as if they had been made already
right_moves : (met : Option ℕ) (mine yours : PathView) (left right more : List LinedMove) (deeds theirs after : List Deed)
    → until_meeting theirs ≡ more ++ until_meeting after → goes_from yours theirs ≡ goes_from yours after → behind_next theirs ≡ behind_next after
    → laps_by met mine yours left right deeds theirs ≡ laps_by met mine yours left (right ++ more) deeds after
right_moves met mine yours left right more [] theirs after moves from rest =
    ap (λ all. lap_at met mine yours left all ∷ []) (ap (λ all. right ++ all) moves ∙ sym (append_assoc right more (until_meeting after)))
right_moves met mine yours left right more (Makes made ∷ deeds) theirs after moves from rest =
    right_moves met mine yours (left ++ lined_moves made) right more deeds theirs after moves from rest
right_moves met mine yours left right more (Meets code here ∷ deeds) theirs after moves from rest =
    ap (λ all. lap_at met mine yours left all ∷ laps_by (Some code) here (goes_from yours theirs) [] [] deeds (behind_next theirs))
    (ap (λ all. right ++ all) moves ∙ sym (append_assoc right more (until_meeting after)))
    ∙ (ap (λ x. lap_at met mine yours left ((right ++ more) ++ until_meeting after) ∷ laps_by (Some code) here x [] [] deeds (behind_next theirs)) from
    ∙ ap (λ x. lap_at met mine yours left ((right ++ more) ++ until_meeting after) ∷ laps_by (Some code) here (goes_from yours after) [] [] deeds x) rest)

-- the moves that a turn of this path with this answer adds to those of the path `who`
abbrev added : Path → Path → Turn → List LinedMove
added who path answer = moves_made_by who (record { path = path; turn = answer })

-- nothing comes to nothing
nothing_made : (met : Option ℕ) (mine yours : PathView) (left right : List LinedMove) (ones twos : List Deed)
    → laps_by met mine yours left right ones twos ≡ laps_by met mine yours (left ++ []) (right ++ []) ones twos
nothing_made met mine yours left right ones twos =
    ap (λ all. laps_by met mine yours all right ones twos) (sym (append-nil left))
    ∙ ap (λ all. laps_by met mine yours (left ++ []) all ones twos) (sym (append-nil right))

-- moves that the first path makes are made
first_made : (met : Option ℕ) (mine yours : PathView) (left right more : List LinedMove) (ones twos : List Deed)
    → laps_by met mine yours (left ++ more) right ones twos ≡ laps_by met mine yours (left ++ more) (right ++ []) ones twos
first_made met mine yours left right more ones twos =
    ap (λ all. laps_by met mine yours (left ++ more) all ones twos) (sym (append-nil right))

-- moves that the second path makes are made
second_made : (met : Option ℕ) (mine yours : PathView) (left right : List LinedMove) (moves : Moves) (ones twos : List Deed)
    → laps_by met mine yours left right ones (Makes moves ∷ twos)
    ≡ laps_by met mine yours (left ++ []) (right ++ lined_moves moves) ones twos
second_made met mine yours left right moves ones twos =
    right_moves met mine yours left right (lined_moves moves) ones (Makes moves ∷ twos) twos refl refl refl
    ∙ ap (λ all. laps_by met mine yours all (right ++ lined_moves moves) ones twos) (sym (append-nil left))

-- whether a turn is a meeting
abbrev is_met : Turn → Bool
is_met (turn.Met code) = true
is_met (turn.Did moves) = false
is_met (turn.Ended moves) = false
is_met (turn.Read variable stamp) = false
is_met (turn.Arrived code) = false
is_met (turn.Waiting code) = false
is_met turn.Finished = false
is_met (turn.Alarm alarm) = false
is_met (turn.Halted alarm) = false
is_met turn.Edited = false

-- what both paths do by a turn that is no meeting comes to the same as its moves, made already
made : (met : Option ℕ) (mine yours : PathView) (left right : List LinedMove) (path : Path) (t : Turn) (m : MachineView) (ones twos : List Deed)
    → is_met t ≡ false
    → laps_by met mine yours left right (turn_deeds One path (result t m) ++ ones) (turn_deeds Two path (result t m) ++ twos)
    ≡ laps_by met mine yours (left ++ added One path t) (right ++ added Two path t) ones twos
made met mine yours left right One (turn.Did moves) m ones twos never = first_made met mine yours left right (lined_moves moves) ones twos
made met mine yours left right One (turn.Ended moves) m ones twos never = first_made met mine yours left right (lined_moves moves) ones twos
made met mine yours left right Two (turn.Did moves) m ones twos never = second_made met mine yours left right moves ones twos
made met mine yours left right Two (turn.Ended moves) m ones twos never = second_made met mine yours left right moves ones twos
made met mine yours left right One (turn.Met code) m ones twos never = absurd cc
made met mine yours left right Two (turn.Met code) m ones twos never = absurd cc
made met mine yours left right One (turn.Read variable stamp) m ones twos never = nothing_made met mine yours left right ones twos
made met mine yours left right One (turn.Arrived code) m ones twos never = nothing_made met mine yours left right ones twos
made met mine yours left right One (turn.Waiting code) m ones twos never = nothing_made met mine yours left right ones twos
made met mine yours left right One turn.Finished m ones twos never = nothing_made met mine yours left right ones twos
made met mine yours left right One (turn.Alarm alarm) m ones twos never = nothing_made met mine yours left right ones twos
made met mine yours left right One (turn.Halted alarm) m ones twos never = nothing_made met mine yours left right ones twos
made met mine yours left right One turn.Edited m ones twos never = nothing_made met mine yours left right ones twos
made met mine yours left right Two (turn.Read variable stamp) m ones twos never = nothing_made met mine yours left right ones twos
made met mine yours left right Two (turn.Arrived code) m ones twos never = nothing_made met mine yours left right ones twos
made met mine yours left right Two (turn.Waiting code) m ones twos never = nothing_made met mine yours left right ones twos
made met mine yours left right Two turn.Finished m ones twos never = nothing_made met mine yours left right ones twos
made met mine yours left right Two (turn.Alarm alarm) m ones twos never = nothing_made met mine yours left right ones twos
made met mine yours left right Two (turn.Halted alarm) m ones twos never = nothing_made met mine yours left right ones twos
made met mine yours left right Two turn.Edited m ones twos never = nothing_made met mine yours left right ones twos

-- the path whose turn has no record does nothing in it
none_own : (t : Turn) (from : PathView) → kind_of t ≡ None → own_deeds t from ≡ []
none_own (turn.Did moves) from none = absurd cc
none_own (turn.Ended moves) from none = absurd cc
none_own (turn.Met code) from none = absurd cc
none_own (turn.Arrived code) from none = absurd cc
none_own (turn.Alarm alarm) from none = absurd cc
none_own (turn.Read variable stamp) from none = refl
none_own (turn.Waiting code) from none = refl
none_own turn.Finished from none = refl
none_own (turn.Halted alarm) from none = refl
none_own turn.Edited from none = refl

-- nor does the other path
none_other : (t : Turn) (from : PathView) → kind_of t ≡ None → other_deeds t from ≡ []
none_other (turn.Did moves) from none = refl
none_other (turn.Ended moves) from none = refl
none_other (turn.Met code) from none = absurd cc
none_other (turn.Arrived code) from none = refl
none_other (turn.Alarm alarm) from none = refl
none_other (turn.Read variable stamp) from none = refl
none_other (turn.Waiting code) from none = refl
none_other turn.Finished from none = refl
none_other (turn.Halted alarm) from none = refl
none_other turn.Edited from none = refl

-- so neither path does anything in a turn without a record
none_done : (who path : Path) (r : TurnResult) → kind_of r.turn ≡ None → turn_deeds who path r ≡ []
none_done One One r none = none_own r.turn r.machine.paths.one.path none
none_done Two Two r none = none_own r.turn r.machine.paths.two.path none
none_done One Two r none = none_other r.turn r.machine.paths.one.path none
none_done Two One r none = none_other r.turn r.machine.paths.two.path none

-- in a meeting both paths meet, whichever had the turn
both_meet : (who path : Path) (code : ℕ) (m : MachineView) → turn_deeds who path (result (turn.Met code) m) ≡ Meets code (of_path m.paths who).path ∷ []
both_meet One One code m = refl
both_meet One Two code m = refl
both_meet Two One code m = refl
both_meet Two Two code m = refl

-- A turn of a path at the machine `m`, and the segment that goes on: it began with the meeting `met` at
-- the machine `m0` and has had these records so far; behind the turn these records follow, and both
-- paths do this.
module _ (tapes : Tapes) (path : Path) (m m0 : MachineView) (met : Option ℕ) (so_far rest : List Entry) (ones twos : List Deed) where
  -- the segments of the records from the turn on are those of what both paths do
  abbrev AreTheirs : Type 0
  AreTheirs =
      laps_from tapes met m0 so_far (list_of (entry_of tapes path m) ++ rest)
      ≡ laps_by met m0.paths.one.path m0.paths.two.path (moves_of tapes m0 One so_far) (moves_of tapes m0 Two so_far)
      (turn_deeds One path (turn_of tapes path m) ++ ones) (turn_deeds Two path (turn_of tapes path m) ++ twos)

  -- so it is behind the turn, if the segment goes on with it
  abbrev GoesOn : Type 0
  GoesOn =
      (more : List Entry) → fold tapes m0 more ≡ without_reads (turn_of tapes path m).machine
      → laps_from tapes met m0 more rest
      ≡ laps_by met m0.paths.one.path m0.paths.two.path (moves_of tapes m0 One more) (moves_of tapes m0 Two more) ones twos

  -- and if the turn is a meeting, so that a segment begins behind it
  abbrev BeginsAnew : Type 0
  BeginsAnew =
      (code : ℕ)
      → laps_from tapes (Some code) (without_reads (turn_of tapes path m).machine) [] rest
      ≡ laps_by (Some code) (turn_of tapes path m).machine.paths.one.path (turn_of tapes path m).machine.paths.two.path [] [] ones twos

  -- a turn with a record that is no meeting
  with_record : AreLawful tapes m → fold tapes m0 so_far ≡ without_reads m → GoesOn → (k : EntryKind) (t : Turn)
      → (turn_of tapes path m).turn ≡ t → kind_of t ≡ Some k → is_meeting k ≡ false → is_met t ≡ false → AreTheirs
  with_record lawful f on k t is kinds calm never =
      let r = turn_of tapes path m in
      let stamps = (of_path m.paths path).stamps in
      let e = entry path k stamps in
      let a = m0.paths.one.path in
      let b = m0.paths.two.path in
      let mine = moves_of tapes m0 One so_far in
      let yours = moves_of tapes m0 Two so_far in
      let kind_is : kind_of r.turn ≡ Some k = ap kind_of is ∙ kinds in
      let made_it = recorded tapes path m lawful k kind_is in
      let folds : fold tapes m0 (so_far ++ e ∷ []) ≡ without_reads r.machine = fold_push tapes m0 so_far e ∙ (ap (behind_entry tapes e) f ∙ made_it.behind) in
      let answer : turn_of_entry tapes e (fold tapes m0 so_far) ≡ t = ap (turn_of_entry tapes e) f ∙ (made_it.answer ∙ is) in
      let first : moves_of tapes m0 One (so_far ++ e ∷ []) ≡ mine ++ added One path t =
      moves_more tapes m0 One so_far e ∙ ap (λ x. mine ++ added One path x) answer in
      let second : moves_of tapes m0 Two (so_far ++ e ∷ []) ≡ yours ++ added Two path t =
      moves_more tapes m0 Two so_far e ∙ ap (λ x. yours ++ added Two path x) answer in
      let step : laps_from tapes met m0 so_far (e ∷ rest) ≡ laps_from tapes met m0 (so_far ++ e ∷ []) rest = rw calm refl in
      ap (λ x. laps_from tapes met m0 so_far (list_of (entry_with path stamps x) ++ rest)) kind_is
      ∙ (step ∙ (on (so_far ++ e ∷ []) folds
      ∙ (ap (λ x. laps_by met a b x (moves_of tapes m0 Two (so_far ++ e ∷ [])) ones twos) first
      ∙ (ap (λ x. laps_by met a b (mine ++ added One path t) x ones twos) second
      ∙ (sym (made met a b mine yours path t r.machine ones twos never)
      ∙ ap (λ x. laps_by met a b mine yours (turn_deeds One path (result x r.machine) ++ ones) (turn_deeds Two path (result x r.machine) ++ twos)) (sym is))))))

  -- a turn without a record
  without_record : AreLawful tapes m → fold tapes m0 so_far ≡ without_reads m → GoesOn → kind_of (turn_of tapes path m).turn ≡ None → AreTheirs
  without_record lawful f on none =
      let r = turn_of tapes path m in
      let a = m0.paths.one.path in
      let b = m0.paths.two.path in
      let mine = moves_of tapes m0 One so_far in
      let yours = moves_of tapes m0 Two so_far in
      ap (λ x. laps_from tapes met m0 so_far (list_of (entry_with path (of_path m.paths path).stamps x) ++ rest)) none
      ∙ (on so_far (f ∙ sym (unrecorded tapes path m lawful none))
      ∙ (ap (λ (x : List Deed). laps_by met a b mine yours (x ++ ones) twos) (sym (none_done One path r none))
      ∙ ap (λ (x : List Deed). laps_by met a b mine yours (turn_deeds One path r ++ ones) (x ++ twos)) (sym (none_done Two path r none))))

  -- a meeting
  with_meeting : AreLawful tapes m → fold tapes m0 so_far ≡ without_reads m → BeginsAnew → (code : ℕ)
      → (turn_of tapes path m).turn ≡ turn.Met code → AreTheirs
  with_meeting lawful f anew code is =
      let r = turn_of tapes path m in
      let stamps = (of_path m.paths path).stamps in
      let e = entry path kind.Met stamps in
      let a = m0.paths.one.path in
      let b = m0.paths.two.path in
      let mine = moves_of tapes m0 One so_far in
      let yours = moves_of tapes m0 Two so_far in
      let kind_is : kind_of r.turn ≡ Some kind.Met = ap kind_of is in
      let made_it = recorded tapes path m lawful kind.Met kind_is in
      let folds : fold tapes m0 (so_far ++ e ∷ []) ≡ without_reads r.machine = fold_push tapes m0 so_far e ∙ (ap (behind_entry tapes e) f ∙ made_it.behind) in
      let answer : met_code (turn_of_entry tapes e (fold tapes m0 so_far)) ≡ Some code =
      ap (λ x. met_code (turn_of_entry tapes e x)) f ∙ (ap met_code made_it.answer ∙ ap met_code is) in
      let lap = lap_of tapes met m0 so_far in
      let there = laps_by (Some code) r.machine.paths.one.path r.machine.paths.two.path [] [] ones twos in
      ap (λ x. laps_from tapes met m0 so_far (list_of (entry_with path stamps x) ++ rest)) kind_is
      ∙ (ap (λ x. lap ∷ laps_from tapes x (fold tapes m0 (so_far ++ e ∷ [])) [] rest) answer
      ∙ (ap (λ x. lap ∷ laps_from tapes (Some code) x [] rest) folds
      ∙ (ap (λ x. lap ∷ x) (anew code)
      ∙ (ap (λ x. lap_at met a b mine x ∷ there) (sym (append-nil yours))
      ∙ (ap (λ (x : List Deed). laps_by met a b mine yours (x ++ ones) (Meets code r.machine.paths.two.path ∷ twos)) (sym (both_meet One path code r.machine))
      ∙ (ap (λ (x : List Deed). laps_by met a b mine yours (turn_deeds One path (result (turn.Met code) r.machine) ++ ones) (x ++ twos)) (sym (both_meet Two path code r.machine))
      ∙ ap (λ x. laps_by met a b mine yours (turn_deeds One path (result x r.machine) ++ ones) (turn_deeds Two path (result x r.machine) ++ twos)) (sym is)))))))

  -- a turn, whatever it answers
  by_turn : AreLawful tapes m → fold tapes m0 so_far ≡ without_reads m → GoesOn → BeginsAnew → (t : Turn) → (turn_of tapes path m).turn ≡ t → AreTheirs
  by_turn lawful f on anew (turn.Did moves) is = with_record lawful f on kind.Did (turn.Did moves) is refl refl refl
  by_turn lawful f on anew (turn.Ended moves) is = with_record lawful f on kind.Ended (turn.Ended moves) is refl refl refl
  by_turn lawful f on anew (turn.Arrived code) is = with_record lawful f on kind.Arrived (turn.Arrived code) is refl refl refl
  by_turn lawful f on anew (turn.Alarm alarm) is = with_record lawful f on kind.Alarmed (turn.Alarm alarm) is refl refl refl
  by_turn lawful f on anew (turn.Met code) is = with_meeting lawful f anew code is
  by_turn lawful f on anew (turn.Read variable stamp) is = without_record lawful f on (ap kind_of is)
  by_turn lawful f on anew (turn.Waiting code) is = without_record lawful f on (ap kind_of is)
  by_turn lawful f on anew turn.Finished is = without_record lawful f on (ap kind_of is)
  by_turn lawful f on anew (turn.Halted alarm) is = without_record lawful f on (ap kind_of is)
  by_turn lawful f on anew turn.Edited is = without_record lawful f on (ap kind_of is)

-- the segments of the records of turns are those of what both paths do
laps_are : (tapes : Tapes) (m0 m : MachineView) (met : Option ℕ) (so_far : List Entry) (turns : List Path) → AreLawful tapes m
    → fold tapes m0 so_far ≡ without_reads m
    → laps_from tapes met m0 so_far (history tapes m (turns_of turns))
    ≡ laps_by met m0.paths.one.path m0.paths.two.path (moves_of tapes m0 One so_far) (moves_of tapes m0 Two so_far)
    (deeds_by tapes One m turns) (deeds_by tapes Two m turns)
unfolding moves_in turns_from
laps_are tapes m0 m met so_far [] lawful f =
    ap (λ x. lap_at met m0.paths.one.path m0.paths.two.path (moves_of tapes m0 One so_far) x ∷ []) (sym (append-nil (moves_of tapes m0 Two so_far)))
laps_are tapes m0 m met so_far (path ∷ turns) lawful f =
    let r = turn_of tapes path m in
    let sound = event_sound tapes (TurnOf path) m lawful in
    by_turn tapes path m m0 met so_far (history tapes r.machine (turns_of turns)) (deeds_by tapes One r.machine turns) (deeds_by tapes Two r.machine turns)
    lawful f
    (λ more folds. laps_are tapes m0 r.machine met more turns sound folds)
    (λ code. laps_are tapes (without_reads r.machine) r.machine (Some code) [] turns sound refl)
    r.turn refl

-- the segments of the records of turns from the beginning on
pub laps_of_turns : (tapes : Tapes) (m : MachineView) (turns : List Path) → AreLawful tapes m → m ≡ without_reads m
    → laps_of tapes m (history tapes m (turns_of turns))
    ≡ laps_by None m.paths.one.path m.paths.two.path [] [] (deeds_by tapes One m turns) (deeds_by tapes Two m turns)
unfolding moves_in turns_from
laps_of_turns tapes m turns lawful bare = laps_are tapes m m None [] turns lawful bare
