-- The waits and the end of a path in a trace, its stops, are the labels of its tape. It is proved
-- by induction on the history, with the labels ahead of the path's place, of which the first is
-- told already if the path waits or has ended. The path of a record has its part first in the
-- machine of the lemmas on one turn, whichever path it is.
-- For the proof of `the_waits_of_a_trace_are_the_labels` (src/laws.rt).
use Rattle.std.proofs.Common.{◌≡◌, ℕ, ◌==◌, ◌||◌, Bool, true, false, List, [], ◌∷◌, ◌++◌, refl, sym, subst, ap, ◌∙◌, Option, Some, None, is_some, append-nil}
use Rattle.std.specs.Prelude.{if◌then◌else◌}
use Rattle.std.proofs.lemmas.Grind.{flat_map-append}
use Rattle.nc_number.specs.Path.{is_same}
use Rattle.nc_number.specs.declared.path.Path.{Path}
use Rattle.nc_number.specs.declared.path.Path.TheVariants.{One, Two}
use Rattle.nc_number.specs.declared.point.Point.{Point}
use Rattle.nc_number.specs.Both.{of_path}
use Rattle.nc_moves.specs.declared.alarm.Alarm.{Alarm}
use Rattle.nc_moves.specs.declared.motion.Move.{Move}
use Rattle.nc_moves.specs.declared.motion.Moves.{Moves}
use Rattle.block_order.specs.declared.control.Control.{Control}
use Rattle.block_order.specs.declared.control.Control.TheVariants as control
use Rattle.block_order.specs.declared.frame.Frame.{Frame}
use Rattle.block_order.specs.declared.label.Label.{Label}
use Rattle.block_order.specs.declared.label.Label.TheVariants as label
use Rattle.block_order.specs.declared.program.ControlProgram.{ControlProgram}
use Rattle.block_order.specs.Labels.{labels_ahead, list, start}
use Rattle.block_order.specs.Steps.{Step, IsPlace, control_of_place, place_behind, Kept, KeepsLabels}
use Rattle.run_records.specs.Entries.{Entry, edit_of}
use Rattle.run_records.specs.declared.edit.Edit.{Edit}
use Rattle.run_records.specs.declared.entry.EntryKind.{EntryKind}
use Rattle.path_state.specs.View.{PathView}
use Rattle.path_state.specs.Effect.{Effect, Need, Done, AtWait, AtEnd}
use Rattle.path_state.specs.Effect as effect
use Rattle.path_state.specs.Controlled.{GoesAsOrdered}
use Rattle.tape_flow.specs.declared.flow.Flow.{Flow}
use Rattle.two_path.specs.declared.turn.Turn.{Turn}
use Rattle.two_path.specs.declared.turn.Turn.TheVariants as turn
use Rattle.two_path.specs.Machine.{Part, MachineView, own_first, opening}
use Rattle.two_path.specs.Turns.{Blocks, Tapes, TurnResult, block_turn, kind_of, own_turn, result_at_wait, result_by, tapes_of, unless_idle}
use Rattle.two_path.specs.Histories.{IsLegal, IsStep, behind_entry, behind_own, behind_step, with_reads}
use Rattle.two_path.specs.Again.{turn_by, turn_of_entry}
use Rattle.two_path.proofs.Edited.{step_of_next}
use Rattle.two_path.proofs.Paired.{AreLed}
use Rattle.two_path.specs.Stuck.{AreAtStart, IsPair}
use Rattle.trace_list.specs.declared.looking.Look.{Look}
use Rattle.trace_list.specs.declared.looking.Standing.{Standing}
use Rattle.trace_list.specs.Stops.{Follows, none, next, anew, stop_of, stops_of}
use Rattle.trace_list.specs.Trace.{block_lines, is_same_point, is_same_way, lines_of, look_of, met_after, moved_lines, path_in, says_speed, shift_lines, spindle_lines, standing_of, traced_lines, turn_lines}
use Rattle.trace_list.specs.TraceText.{Shift, Spindle, Wait, Met, Ended}

-- the waits and the end that a turn tells of its own path
abbrev own_stops : Turn → List Label
own_stops (turn.Arrived code) = label.Wait code ∷ []
own_stops (turn.Met code) = label.Wait code ∷ []
own_stops (turn.Ended moves) = label.End ∷ []
own_stops other = []

-- these labels for one path (true), and none for the other
abbrev chosen : Bool → List Label → List Label
chosen b stops = if b then stops else []

-- no labels are chosen of none
chosen_none : (b : Bool) → chosen b [] ≡ []
chosen_none true = refl
chosen_none false = refl

-- the lines of moves have no waits and no end
no_moves : (path of : Path) (line : ℕ) (moves : List Move) → stops_of path (moved_lines of line moves) ≡ []
no_moves path of line [] = refl
no_moves path of line (x ∷ xs) = no_moves path of line xs

-- the line of a shift has no wait and no end
no_shift : (path of : Path) (line : ℕ) (after : Point) (b : Bool) → stops_of path (if b then [] else Shift of line after ∷ []) ≡ []
no_shift path of line after true = refl
no_shift path of line after false = refl

-- the line of the spindle's way has no wait and no end
no_way : (path of : Path) (line : ℕ) (after b : Bool) → stops_of path (if b then [] else Spindle of line after ∷ []) ≡ []
no_way path of line after true = refl
no_way path of line after false = refl

-- the lines of a block have no waits and no end
block_stops : (path of : Path) (moves : Moves) (before after : Look) → stops_of path (block_lines of moves before after) ≡ []
block_stops path of moves before after =
    let shift = shift_lines of moves.line before.shift after.shift in
    let way = spindle_lines of moves before.surface after.surface in
    let rest = moved_lines of moves.line moves.list in
    flat_map-append (stop_of path) shift (way ++ rest)
    ∙ ap (λ (t : List Label). t ++ stops_of path (way ++ rest)) (no_shift path of moves.line after.shift (is_same_point before.shift after.shift))
    ∙ flat_map-append (stop_of path) way rest
    ∙ ap (λ (t : List Label). t ++ stops_of path rest) (no_way path of moves.line after.surface (is_same_way before.surface after.surface || says_speed moves.list))
    ∙ no_moves path of moves.line moves.list

-- the waits and the end in the lines of a turn are the turn's own, if it is a turn of this path
turn_stops : (path of : Path) (met : ℕ) (before : Standing) (after : Look) (t : Turn)
    → stops_of path (turn_lines of met before after t) ≡ chosen (is_same path of) (own_stops t)
turn_stops path of met before after (turn.Read variable stamp) = sym (chosen_none (is_same path of))
turn_stops path of met before after (turn.Did moves) = block_stops path of moves before.look after ∙ sym (chosen_none (is_same path of))
turn_stops path of met before after (turn.Arrived code) = append-nil (chosen (is_same path of) (label.Wait code ∷ []))
turn_stops path of met before after (turn.Met code) = append-nil (chosen (is_same path of) (label.Wait code ∷ []))
turn_stops path of met before after (turn.Ended moves) =
    flat_map-append (stop_of path) (block_lines of moves before.look after) (Ended of moves.line ∷ [])
    ∙ ap (λ (t : List Label). t ++ stops_of path (Ended of moves.line ∷ [])) (block_stops path of moves before.look after)
    ∙ append-nil (chosen (is_same path of) (label.End ∷ []))
turn_stops path of met before after (turn.Waiting code) = sym (chosen_none (is_same path of))
turn_stops path of met before after turn.Finished = sym (chosen_none (is_same path of))
turn_stops path of met before after (turn.Alarm alarm) = sym (chosen_none (is_same path of))
turn_stops path of met before after (turn.Halted alarm) = sym (chosen_none (is_same path of))
turn_stops path of met before after turn.Edited = sym (chosen_none (is_same path of))

-- the labels still to tell of those ahead: without the first one if the path waits or has ended
-- (true)
abbrev left_of : Bool → List Label → List Label
left_of true [] = []
left_of true (x ∷ xs) = xs
left_of false xs = xs

-- the path waits or has ended
abbrev idle : Option ℕ → Bool → Bool
idle waiting finished = finished || is_some waiting

-- the labels that a path has still to tell: those ahead of its place, without the first one if it
-- waits or has ended
abbrev due : List ControlProgram → Part → List Label
due tape p = left_of (idle p.waiting p.finished) (labels_ahead tape p.path.place)

-- a path at a place of its tape; if it waits, it stands on that wait and has not ended
record IsSide (tape : List ControlProgram) (at : List Frame) (waiting : Option ℕ) (finished : Bool) : Type 0 where
  -- it is a place of the tape
  place : IsPlace tape at
  -- a path that waits at a code stands on a wait of this code, and has not ended
  waits : (code : ℕ) → waiting ≡ Some code → (control_of_place tape at ≡ Some (control.Wait code)) × (finished ≡ false)

-- the path's part of a machine is at a place of its tape, and on its wait if it waits
abbrev SideOf : List ControlProgram → Part → Type 0
SideOf tape p = IsSide tape p.path.place p.waiting p.finished

-- for a step that keeps the labels, what follows after it follows before it
kept_labels : (tape : List ControlProgram) (f : Frame) (stack : List Frame) (c : Control) (to : List Frame) (rest : List Label) → Kept tape f stack c to
    → Follows (list tape) (labels_ahead tape to) rest → Follows (list tape) (labels_ahead tape (f ∷ stack)) rest
kept_labels tape f stack control.Next to rest k follows = subst (λ xs. Follows (list tape) xs rest) k follows
kept_labels tape f stack (control.Goto n) to rest k follows = subst (λ xs. Follows (list tape) xs rest) k follows
kept_labels tape f stack (control.While m) to rest k follows = subst (λ xs. Follows (list tape) xs rest) k follows
kept_labels tape f stack (control.Do m) to rest k follows = subst (λ xs. Follows (list tape) xs rest) k follows
kept_labels tape f stack (control.EndLoop m) to rest k follows = subst (λ xs. Follows (list tape) xs rest) k follows
kept_labels tape f stack (control.Wait code) to rest k follows = subst (λ xs. Follows (list tape) xs rest) k follows
kept_labels tape f stack control.End to rest k follows = subst (λ xs. Follows (list tape) xs rest) k follows
kept_labels tape f stack (control.Call q r) to rest k follows = subst (λ xs. Follows (list tape) xs rest) k follows
kept_labels tape f stack (control.BackTo n) to rest k follows = subst (λ xs. Follows (list tape) xs rest) k follows
kept_labels tape f (g ∷ stack) control.Back to rest k follows = subst (λ xs. Follows (list tape) xs rest) k follows
kept_labels tape f [] control.Back to rest k follows =
    subst (λ xs. Follows (list tape) xs rest) (sym k.0) (anew rest (subst (λ xs. Follows (list tape) xs rest) k.1 follows))

-- what follows from the labels ahead of where a step leads follows from those ahead of where it
-- began
step_labels : (tape : List ControlProgram) → KeepsLabels tape → (from to : List Frame) (rest : List Label) → IsPlace tape from → Step tape from to
    → Follows (list tape) (labels_ahead tape to) rest → Follows (list tape) (labels_ahead tape from) rest
step_labels tape law [] to rest place step follows = absurd place
step_labels tape law (f ∷ stack) to rest place (c, is, goes) follows =
    kept_labels tape f stack c to rest (law.step f stack place c is to goes).1 follows

-- a step leads to a place
step_place : (tape : List ControlProgram) → KeepsLabels tape → (from to : List Frame) → IsPlace tape from → Step tape from to → IsPlace tape to
step_place tape law [] to place step = absurd place
step_place tape law (f ∷ stack) to place (c, is, goes) = (law.step f stack place c is to goes).0

-- a turn leaves the path at a place, and the stops that it tells are the next labels to tell
record Passes (tape : List ControlProgram) (before after : Part) (stops : List Label) : Type 0 where
  -- after the turn the path is at a place
  side : SideOf tape after
  -- stops that follow the labels to tell after the turn follow, with its own stops before them, the
  -- labels to tell before it
  follows : (rest : List Label) → Follows (list tape) (due tape after) rest → Follows (list tape) (due tape before) (stops ++ rest)

-- the path whose part stands first, which neither waits nor has ended, in its turn
module _ (tape : List ControlProgram) (law : KeepsLabels tape) (path : Path) (line : ℕ) (m : MachineView) (side : SideOf tape m.paths.one)
    (none_waits : m.paths.one.waiting ≡ None) (unfinished : m.paths.one.finished ≡ false) where
  -- what follows from the labels to tell at a place follows from those ahead of it, as the path
  -- goes on
  awake : (place : List Frame) (rest : List Label) → Follows (list tape) (left_of (idle m.paths.one.waiting m.paths.one.finished) (labels_ahead tape place)) rest
      → Follows (list tape) (labels_ahead tape place) rest
  awake place rest f =
      subst (λ b. Follows (list tape) (left_of (b || false) (labels_ahead tape place)) rest) unfinished
      (subst (λ (w : Option ℕ). Follows (list tape) (left_of (m.paths.one.finished || is_some w) (labels_ahead tape place)) rest) none_waits f)

  -- the labels to tell are all those ahead of the path's place
  due_is : due tape m.paths.one ≡ labels_ahead tape m.paths.one.path.place
  due_is =
      ap (λ (w : Option ℕ). left_of (m.paths.one.finished || is_some w) (labels_ahead tape m.paths.one.path.place)) none_waits
      ∙ ap (λ b. left_of (b || false) (labels_ahead tape m.paths.one.path.place)) unfinished

  -- what follows from the labels ahead of the path's place follows from those that it has to tell
  from_here : (stops rest : List Label) → Follows (list tape) (labels_ahead tape m.paths.one.path.place) (stops ++ rest) → Follows (list tape) (due tape m.paths.one) (stops ++ rest)
  from_here stops rest f = subst (λ xs. Follows (list tape) xs (stops ++ rest)) (sym due_is) f

  -- the path does not wait
  never_waits : {A : Type 0} (code : ℕ) → m.paths.one.waiting ≡ Some code → A
  never_waits code is = absurd (let clash : ◌≡◌ {A = Option ℕ} None (Some code) = sym none_waits ∙ is in cc)

  -- a turn that changes nothing of the path tells no label
  stays : Passes tape m.paths.one m.paths.one []
  stays = record { side = side; follows = λ rest f. f }

  -- a turn at a wait tells that wait, unless an alarm comes as the other path waits at another code
  at_wait : (code : ℕ) → control_of_place tape m.paths.one.path.place ≡ Some (control.Wait code) → (o : Option ℕ)
      → Passes tape m.paths.one (result_at_wait path line m code o).machine.paths.one (own_stops (result_at_wait path line m code o).turn)
  at_wait code is None = record {
    side = record { place = side.place; waits = λ c same. (is ∙ ap (λ (x : ℕ). Some (control.Wait x)) (let e : ◌≡◌ {A = Option ℕ} (Some code) (Some c) = same in cc), unfinished) };
    follows = λ rest f.
        let ahead_is = (law.wait m.paths.one.path.place code side.place is).1 in
        let told : Follows (list tape) (left_of true (labels_ahead tape m.paths.one.path.place)) rest =
        subst (λ b. Follows (list tape) (left_of (b || true) (labels_ahead tape m.paths.one.path.place)) rest) unfinished f in
        from_here (label.Wait code ∷ []) rest
        (subst (λ xs. Follows (list tape) xs (label.Wait code ∷ rest)) (sym ahead_is)
        (next (label.Wait code) (labels_ahead tape (place_behind m.paths.one.path.place)) rest (subst (λ xs. Follows (list tape) (left_of true xs) rest) ahead_is told)));
  }
  at_wait code is (Some there) = go (code == there) refl
    where
      go : (b : Bool) → (code == there) ≡ b → Passes tape m.paths.one (result_at_wait path line m code (Some there)).machine.paths.one (own_stops (result_at_wait path line m code (Some there)).turn)
      go true e = rw e (record {
        side = record { place = (law.wait m.paths.one.path.place code side.place is).0; waits = λ c same. absurd cc };
        follows = λ rest f.
            let ahead_is = (law.wait m.paths.one.path.place code side.place is).1 in
            let told : Follows (list tape) (labels_ahead tape (place_behind m.paths.one.path.place)) rest =
            subst (λ b. Follows (list tape) (left_of (b || false) (labels_ahead tape (place_behind m.paths.one.path.place))) rest) unfinished f in
            from_here (label.Wait code ∷ []) rest
            (subst (λ xs. Follows (list tape) xs (label.Wait code ∷ rest)) (sym ahead_is) (next (label.Wait code) (labels_ahead tape (place_behind m.paths.one.path.place)) rest told));
      })
      go false e = rw e (record { side = side; follows = λ rest f. f })

  -- a turn by what its block comes to tells the next label, or none
  by_effect : (e : Effect) → GoesAsOrdered tape m.paths.one.path e → Passes tape m.paths.one (result_by path line m e).machine.paths.one (own_stops (result_by path line m e).turn)
  by_effect (Need variable) goes = record { side = side; follows = λ rest f. f }
  by_effect (Done to write moves) goes = record {
    side = record { place = step_place tape law m.paths.one.path.place to.place side.place goes; waits = λ c same. never_waits c same };
    follows = λ rest f. from_here [] rest (step_labels tape law m.paths.one.path.place to.place rest side.place goes (awake to.place rest f));
  }
  by_effect (AtWait code) goes = at_wait code goes m.paths.two.waiting
  by_effect (AtEnd to moves) goes = record {
    side = record { place = subst (IsPlace tape) (sym goes.1) side.place; waits = λ c same. never_waits c same };
    follows = λ rest f.
        let ahead_is = law.ends m.paths.one.path.place side.place goes.0 in
        let told : Follows (list tape) [] rest =
        subst (λ xs. Follows (list tape) (left_of true xs) rest) ahead_is (subst (λ place. Follows (list tape) (left_of true (labels_ahead tape place)) rest) goes.1 f) in
        from_here (label.End ∷ []) rest
        (subst (λ xs. Follows (list tape) xs (label.End ∷ rest)) (sym ahead_is) (next label.End [] rest told));
  }
  by_effect (effect.Alarm number value) goes = record { side = side; follows = λ rest f. f }

-- the path whose part stands second, in a turn of the other one
module _ (tape : List ControlProgram) (law : KeepsLabels tape) (path : Path) (line : ℕ) (m : MachineView) (side : SideOf tape m.paths.two) where
  -- a turn of the other path at a wait tells no label of this one, also if both meet
  met_there : (code : ℕ) (o : Option ℕ) → m.paths.two.waiting ≡ o → Passes tape m.paths.two (result_at_wait path line m code o).machine.paths.two []
  met_there code None is = record { side = side; follows = λ rest f. f }
  met_there code (Some there) is = go (code == there) refl
    where
      waits : (control_of_place tape m.paths.two.path.place ≡ Some (control.Wait there)) × (m.paths.two.finished ≡ false)
      waits = side.waits there is

      go : (b : Bool) → (code == there) ≡ b → Passes tape m.paths.two (result_at_wait path line m code (Some there)).machine.paths.two []
      go true e = rw e (record {
        side = record { place = (law.wait m.paths.two.path.place there side.place waits.0).0; waits = λ c same. absurd cc };
        follows = λ rest f.
            let ahead_is = (law.wait m.paths.two.path.place there side.place waits.0).1 in
            let told : Follows (list tape) (labels_ahead tape (place_behind m.paths.two.path.place)) rest =
            subst (λ b. Follows (list tape) (left_of (b || false) (labels_ahead tape (place_behind m.paths.two.path.place))) rest) waits.1 f in
            let due_is : due tape m.paths.two ≡ labels_ahead tape (place_behind m.paths.two.path.place) =
            ap (λ (w : Option ℕ). left_of (m.paths.two.finished || is_some w) (labels_ahead tape m.paths.two.path.place)) is
            ∙ ap (λ b. left_of (b || true) (labels_ahead tape m.paths.two.path.place)) waits.1
            ∙ ap (left_of true) ahead_is in
            subst (λ xs. Follows (list tape) xs rest) (sym due_is) told;
      })
      go false e = rw e (record { side = side; follows = λ rest f. f })

  -- a turn of the other path, by what its block comes to, tells no label of this one
  by_other : (e : Effect) → Passes tape m.paths.two (result_by path line m e).machine.paths.two []
  by_other (Need variable) = record { side = side; follows = λ rest f. f }
  by_other (Done to write moves) = record { side = side; follows = λ rest f. f }
  by_other (AtWait code) = met_there code m.paths.two.waiting refl
  by_other (AtEnd to moves) = record { side = side; follows = λ rest f. f }
  by_other (effect.Alarm number value) = record { side = side; follows = λ rest f. f }

-- The path whose part stands first neither waits nor has ended, and its turn `r` is that of its
-- block, `rest`.
record IsAwake (m : MachineView) (r rest : TurnResult) : Type 0 where
  -- the path does not wait
  none_waits : m.paths.one.waiting ≡ None
  -- the path has not ended
  unfinished : m.paths.one.finished ≡ false
  -- the turn is that of its block
  same : r ≡ rest

-- a path that makes a record neither waits nor has ended, and its turn is that of its block
awake_by : (m : MachineView) (a : Option Alarm) (f : Bool) (w : Option ℕ) (rest : TurnResult) (kind : EntryKind) → m.paths.one.finished ≡ f → m.paths.one.waiting ≡ w
    → kind_of (unless_idle m a f w rest).turn ≡ Some kind → IsAwake m (unless_idle m a f w rest) rest
awake_by m (Some alarm) f w rest kind ends is makes = absurd (cc)
awake_by m None true w rest kind ends is makes = absurd (cc)
awake_by m None false (Some code) rest kind ends is makes = absurd (cc)
awake_by m None false None rest kind ends is makes = record { none_waits = is; unfinished = ends; same = refl }

-- a turn of the path whose part stands first tells the next of its labels, or none
own_passes : (tape : List ControlProgram) (blocks : Blocks) (path : Path) (kind : EntryKind) (stamps : List ℕ) (m : MachineView) → KeepsLabels tape → AreLed tape blocks
    → SideOf tape m.paths.one → IsStep blocks path m kind stamps
    → Passes tape m.paths.one (own_turn blocks path (with_reads blocks stamps m)).machine.paths.one (own_stops (own_turn blocks path (with_reads blocks stamps m)).turn)
own_passes tape blocks path kind stamps m law led side step =
    let now = with_reads blocks stamps m in
    let is = awake_by now now.alarm now.paths.one.finished now.paths.one.waiting (block_turn blocks path now) kind refl refl step.is in
    let by = by_effect tape law path (blocks.line now.paths.one.path.place) now (record { place = side.place; waits = side.waits }) is.none_waits is.unfinished
    (blocks.effect now.paths.one.path now.paths.one.values) (led now.paths.one.path now.paths.one.values) in
    subst (λ (r : TurnResult). Passes tape m.paths.one r.machine.paths.one (own_stops r.turn)) (sym is.same) (record { side = by.side; follows = by.follows })

-- a turn of the path whose part stands first tells no label of the other path
other_passes : (tape : List ControlProgram) (blocks : Blocks) (path : Path) (kind : EntryKind) (stamps : List ℕ) (m : MachineView) → KeepsLabels tape
    → SideOf tape m.paths.two → IsStep blocks path m kind stamps → Passes tape m.paths.two (own_turn blocks path (with_reads blocks stamps m)).machine.paths.two []
other_passes tape blocks path kind stamps m law side step =
    let now = with_reads blocks stamps m in
    let is = awake_by now now.alarm now.paths.one.finished now.paths.one.waiting (block_turn blocks path now) kind refl refl step.is in
    let by = by_other tape law path (blocks.line now.paths.one.path.place) now (record { place = side.place; waits = side.waits }) (blocks.effect now.paths.one.path now.paths.one.values) in
    subst (λ (r : TurnResult). Passes tape m.paths.two r.machine.paths.two []) (sym is.same) (record { side = by.side; follows = by.follows })

-- the turn of a record with these stamps, as its own path sees it
abbrev turn_after : Tapes → Path → List ℕ → MachineView → Turn
turn_after tapes path stamps m = (own_turn (of_path tapes path) path (with_reads (of_path tapes path) stamps (own_first path m))).turn

-- the machine after the turn of a record with these stamps, as its own path sees it
abbrev machine_after : Tapes → Path → List ℕ → MachineView → MachineView
machine_after tapes path stamps m = own_first path (behind_step (of_path tapes path) path stamps (own_first path m))

-- a step of either path tells the next label of this path if it is its own, and else none
step_passes : (path of : Path) (tapes : Tapes) (tape : List ControlProgram) (kind : EntryKind) (stamps : List ℕ) (m : MachineView) → KeepsLabels tape
    → AreLed tape (of_path tapes path) → SideOf tape (of_path m.paths path) → IsStep (of_path tapes of) of (own_first of m) kind stamps
    → Passes tape (of_path m.paths path) (of_path (machine_after tapes of stamps m).paths path) (chosen (is_same path of) (own_stops (turn_after tapes of stamps m)))
step_passes One One tapes tape kind stamps m law led side step =
    let p = own_passes tape tapes.one One kind stamps m law led side step in record { side = p.side; follows = p.follows }
step_passes One Two tapes tape kind stamps m law led side step =
    let p = other_passes tape tapes.two Two kind stamps (own_first Two m) law side step in record { side = p.side; follows = p.follows }
step_passes Two One tapes tape kind stamps m law led side step =
    let p = other_passes tape tapes.one One kind stamps m law side step in record { side = p.side; follows = p.follows }
step_passes Two Two tapes tape kind stamps m law led side step =
    let p = own_passes tape tapes.two Two kind stamps (own_first Two m) law led side step in record { side = p.side; follows = p.follows }

-- a record, an edit or a turn with these stamps, tells the next label of this path or none; an edit
-- leaves each path where it is
entry_passes : (path of : Path) (tapes : Tapes) (tape : List ControlProgram) (kind : EntryKind) (edit : Option Edit) (stamps : List ℕ) (m : MachineView)
    → KeepsLabels tape → AreLed tape (of_path tapes path) → SideOf tape (of_path m.paths path)
    → (edit ≡ None → IsStep (of_path tapes of) of (own_first of m) kind stamps)
    → Passes tape (of_path m.paths path) (of_path (own_first of (behind_own (of_path tapes of) of edit stamps (own_first of m))).paths path)
    (chosen (is_same path of) (own_stops (turn_by (of_path tapes of) of edit stamps (own_first of m))))
entry_passes path of tapes tape kind None stamps m law led side step = step_passes path of tapes tape kind stamps m law led side (step refl)
entry_passes One One tapes tape kind (Some edit) stamps m law led side step =
    record { side = record { place = side.place; waits = side.waits }; follows = λ rest f. f }
entry_passes One Two tapes tape kind (Some edit) stamps m law led side step =
    record { side = record { place = side.place; waits = side.waits }; follows = λ rest f. f }
entry_passes Two One tapes tape kind (Some edit) stamps m law led side step =
    record { side = record { place = side.place; waits = side.waits }; follows = λ rest f. f }
entry_passes Two Two tapes tape kind (Some edit) stamps m law led side step =
    record { side = record { place = side.place; waits = side.waits }; follows = λ rest f. f }

-- from any machine on, the stops of a path in the trace of a legal history follow the labels that
-- it has still to tell
follows_from : (path : Path) (tapes : Tapes) (tape : List ControlProgram) → KeepsLabels tape → AreLed tape (of_path tapes path) → (met : ℕ) (m : MachineView)
    (entries : List Entry) → SideOf tape (of_path m.paths path) → IsLegal tapes m entries
    → Follows (list tape) (due tape (of_path m.paths path)) (stops_of path (traced_lines tapes met m entries))
unfolding traced_lines
follows_from path tapes tape law led met m [] side legal = none (due tape (of_path m.paths path))
follows_from path tapes tape law led met m (e ∷ entries) side legal =
    let t = turn_of_entry tapes e m in
    let after = behind_entry tapes e m in
    let lines = lines_of tapes met m e in
    let rest = traced_lines tapes (met_after met t) after entries in
    let passes = entry_passes path e.path tapes tape e.kind (edit_of e.kind) e.stamps m law led side (λ step. step_of_next tapes m e step legal.0) in
    subst (λ stops. Follows (list tape) (due tape (of_path m.paths path)) stops)
    (ap (λ (stops : List Label). stops ++ stops_of path rest) (sym (turn_stops path e.path met (standing_of tapes e.path m) (look_of (path_in e.path after)) t))
    ∙ sym (flat_map-append (stop_of path) lines rest))
    (passes.follows (stops_of path rest) (follows_from path tapes tape law led (met_after met t) after entries passes.side legal.1))

-- before its first record a path stands at the start of its tape
start_side : (tape : List ControlProgram) → IsSide tape (start tape) None false
start_side tape = record { place = (refl, refl); waits = λ code is. absurd cc }

-- in the trace of a legal history the stops of each path are its labels, from the first one on
pub follows : (left right : Flow) → KeepsLabels left.order → KeepsLabels right.order → IsPair left right → (first second : PathView)
    → AreAtStart left.order right.order first second → (entries : List Entry) → IsLegal (tapes_of left right) (opening first second) entries
    → Follows (list left.order) (list left.order) (stops_of One (traced_lines (tapes_of left right) 0 (opening first second) entries))
    × Follows (list right.order) (list right.order) (stops_of Two (traced_lines (tapes_of left right) 0 (opening first second) entries))
follows left right left_law right_law pair first second at entries legal = (
  subst (λ place. Follows (list left.order) (labels_ahead left.order place) (stops_of One (traced_lines (tapes_of left right) 0 (opening first second) entries))) at.one
      (follows_from One (tapes_of left right) left.order left_law pair.left_controlled 0 (opening first second) entries
      (subst (λ place. IsSide left.order place None false) (sym at.one) (start_side left.order)) legal),
  subst (λ place. Follows (list right.order) (labels_ahead right.order place) (stops_of Two (traced_lines (tapes_of left right) 0 (opening first second) entries))) at.two
      (follows_from Two (tapes_of left right) right.order right_law pair.right_controlled 0 (opening first second) entries
      (subst (λ place. IsSide right.order place None false) (sym at.two) (start_side right.order)) legal),
)
