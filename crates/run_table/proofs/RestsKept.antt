-- A path whose turret rests for a wait, or was told to, stands before that wait until it comes to it:
-- its own turn is that wait or tells the turret nothing, and no turn of the other path moves it.
-- TablesKept and the proof of `step_into` (src/table.rt) use it.
use Rattle.std.proofs.Common.{◌≡◌, ◌≢◌, ◌⊎◌, inl, inr, ⊎_elim, ℕ, ◌==◌, Bool, true, false, List, [], refl, sym, ◌∙◌, ap, subst, Option, Some, None}
use Rattle.std.specs.Prelude.{⊤, slice_get, if◌then◌else◌}
use Rattle.nc_number.specs.declared.both.Both.{Both}
use Rattle.nc_number.specs.declared.path.Path.{Path}
use Rattle.nc_number.specs.declared.path.Path.TheVariants.{One, Two}
use Rattle.nc_number.specs.Both.{of_path}
use Rattle.nc_moves.specs.declared.alarm.Alarm.{Alarm}
use Rattle.block_order.specs.declared.control.Control.{Control}
use Rattle.block_order.specs.declared.control.Control.TheVariants.{Next, Goto, While, Do, EndLoop, Wait, End, Call, Back, BackTo}
use Rattle.block_order.specs.declared.frame.Frame.{Frame}
use Rattle.block_order.specs.declared.label.Label.{Label}
use Rattle.block_order.specs.declared.label.Label.TheVariants as label
use Rattle.block_order.specs.Steps.{control_of_place}
use Rattle.tape_flow.specs.declared.flow.Flow.{Flow}
use Rattle.tape_flow.specs.Places.{label_of, label_at}
use Rattle.path_state.specs.View.{PathView}
use Rattle.path_state.specs.Effect.{Effect, Need, Done, AtWait, AtEnd, effect_of}
use Rattle.path_state.specs.Effect as effect
use Rattle.nc_verify.specs.declared.verified.Verified.{Verified}
use Rattle.seat_table.specs.Turning.{Draining}
use Rattle.two_path.specs.declared.turn.Turn.{Turn}
use Rattle.two_path.specs.declared.turn.Turn.TheVariants as turn
use Rattle.two_path.specs.Machine.{MachineView, own_first, Part}
use Rattle.two_path.specs.Turns.{TurnResult, Blocks, blocks_of, result_at_wait, result_by, unless_idle, block_turn, own_turn, turn_of}
use Rattle.run_table.specs.Kept.{tapes_in}
use Rattle.run_table.specs.declared.resting.Resting.{Resting}
use Rattle.run_table.specs.declared.resting.Resting.TheVariants.{Unasked, Asked, Rests}
use Rattle.run_table.specs.Apart.{moves_of_step, step_with}
use Rattle.run_table.specs.declared.answer.StepAnswer.{StepAnswer}
use Rattle.run_table.specs.declared.answer.StepAnswer.TheVariants as apart
use Rattle.nc_outside.specs.declared.halt.Halt.{Halt}
use Rattle.disk_model.specs.Device.{DiskState}
use Rattle.run_table.specs.Recording.{RecordingView}
use Rattle.run_table.specs.Stepping.{Answers}
use Rattle.run_table.specs.Stepping.Answers.{at_once, flushed, failed}
use Rattle.run_table.specs.declared.answer.TableStep.{TableStep}
use Rattle.run_table.specs.declared.answer.TableStep.TheVariants.{Turned, Drain, Undrained, Halted}
use Rattle.nc_moves.specs.declared.motion.Move.{Move}
use Rattle.nc_number.specs.Path.{other_of}
use Rattle.path_state.specs.Controlled.{IsControlled}
use Rattle.run_table.proofs.ToldOwn.{rests_kept}
use Rattle.run_table.proofs.WaitsAhead.{wait_ahead}
use Rattle.run_table.specs.Draining.{comes_by, comes_to, drains_by, flow_for, may_come, rest_behind_turn, resting_behind, told_in_turn, wait_of, drain_answer, once_rested, with_drained, with_resting, FitsRest, FitsTurn, StandsAsTold, StandsBefore}

-- where a label is a wait, the control is that wait
label_control : (caller : Option Frame) (s : Option Control) (code : ℕ) → label_of caller s ≡ Some (label.Wait code) → s ≡ Some (Wait code)
label_control caller None code is = absurd (let clash : Some label.Off ≡ Some (label.Wait code) = is in cc)
label_control caller (Some (Wait at)) code is = let same : at ≡ code = cc in ap (λ (k : ℕ). Some (Wait k)) same
label_control caller (Some Next) code is = absurd (let clash : None ≡ Some (label.Wait code) = is in cc)
label_control caller (Some (Goto n)) code is = absurd (let clash : None ≡ Some (label.Wait code) = is in cc)
label_control caller (Some (While m)) code is = absurd (let clash : None ≡ Some (label.Wait code) = is in cc)
label_control caller (Some (Do m)) code is = absurd (let clash : None ≡ Some (label.Wait code) = is in cc)
label_control caller (Some (EndLoop m)) code is = absurd (let clash : None ≡ Some (label.Wait code) = is in cc)
label_control caller (Some End) code is = absurd (let clash : Some label.End ≡ Some (label.Wait code) = is in cc)
label_control caller (Some (Call program repeats)) code is = absurd (let clash : None ≡ Some (label.Wait code) = is in cc)
label_control None (Some Back) code is = absurd (let clash : Some label.Again ≡ Some (label.Wait code) = is in cc)
label_control (Some f) (Some Back) code is = absurd (let clash : None ≡ Some (label.Wait code) = is in cc)
label_control caller (Some (BackTo n)) code is = absurd (let clash : None ≡ Some (label.Wait code) = is in cc)

-- a turn is the wait of this code, or it is no wait, tells the turret nothing, and the path of the
-- first part stays where it is
abbrev pub StaysAt : ℕ → MachineView → TurnResult → Type 0
StaysAt code m r = (wait_of r.turn ≡ Some code)
    ⊎ ((wait_of r.turn ≡ None) × (told_in_turn r.turn ≡ []) × (r.machine.paths.one.path ≡ m.paths.one.path) × (r.machine.paths.one.waiting ≡ m.paths.one.waiting))

-- a turn at a wait
wait_stays : (path : Path) (line : ℕ) (m : MachineView) (code : ℕ) (there : Option ℕ) → StaysAt code m (result_at_wait path line m code there)
wait_stays path line m code None = inl refl
wait_stays path line m code (Some there) = go (code == there) refl
  where
    go : (b : Bool) → (code == there) ≡ b → StaysAt code m (result_at_wait path line m code (Some there))
    go true e = inl (rw e refl)
    go false e = inr (rw e refl, rw e refl, rw e refl, rw e refl)

-- a turn that may do nothing
idle_stays : (code : ℕ) (m : MachineView) (a : Option Alarm) (f : Bool) (w : Option ℕ) (rest : TurnResult) → StaysAt code m rest → StaysAt code m (unless_idle m a f w rest)
idle_stays code m (Some alarm) f w rest stays = inr (refl, refl, refl, refl)
idle_stays code m None true w rest stays = inr (refl, refl, refl, refl)
idle_stays code m None false (Some at) rest stays = inr (refl, refl, refl, refl)
idle_stays code m None false None rest stays = stays

-- the turn of a path that stands at the label of a wait
own_stays : (flow : Flow) → ((path : PathView) (code : ℕ) (reads : _) → control_of_place flow.order path.place ≡ Some (Wait code) → effect_of flow path reads ≡ AtWait code)
    → (path : Path) (m : MachineView) (code : ℕ) → label_at flow.order m.paths.one.path.place ≡ Some (label.Wait code) → StaysAt code m (own_turn (blocks_of flow) path m)
own_stays flow waits path m code is =
    let there : effect_of flow m.paths.one.path m.paths.one.values ≡ AtWait code =
    waits m.paths.one.path code m.paths.one.values (label_control (slice_get m.paths.one.path.place 1) (control_of_place flow.order m.paths.one.path.place) code is) in
    let line = (blocks_of flow).line m.paths.one.path.place in
    idle_stays code m m.alarm m.paths.one.finished m.paths.one.waiting (block_turn (blocks_of flow) path m)
    (subst (λ (e : Effect). StaysAt code m (result_by path line m e)) (sym there) (wait_stays path line m code m.paths.two.waiting))

-- a turn at a wait leaves a path that does not wait
wait_leaves : (path : Path) (line : ℕ) (m : MachineView) (code : ℕ) (there : Option ℕ) → there ≡ None → (result_at_wait path line m code there).machine.paths.two ≡ m.paths.two
wait_leaves path line m code None none = refl
wait_leaves path line m code (Some there) none = absurd (let clash : Some there ≡ None = none in cc)

-- the turn of a block leaves the other path, if that does not wait
by_leaves : (path : Path) (line : ℕ) (m : MachineView) (e : Effect) → m.paths.two.waiting ≡ None → (result_by path line m e).machine.paths.two ≡ m.paths.two
by_leaves path line m (Need variable) none = refl
by_leaves path line m (Done after write moves) none = refl
by_leaves path line m (AtWait code) none = wait_leaves path line m code m.paths.two.waiting none
by_leaves path line m (AtEnd after moves) none = refl
by_leaves path line m (effect.Alarm number value) none = refl

-- a turn that may do nothing leaves the other path, if the turn of the block does
idle_leaves : (m : MachineView) (a : Option Alarm) (f : Bool) (w : Option ℕ) (rest : TurnResult) → rest.machine.paths.two ≡ m.paths.two
    → (unless_idle m a f w rest).machine.paths.two ≡ m.paths.two
idle_leaves m (Some alarm) f w rest leaves = refl
idle_leaves m None true w rest leaves = refl
idle_leaves m None false (Some at) rest leaves = refl
idle_leaves m None false None rest leaves = leaves

-- a turn leaves the other path, if that does not wait
own_leaves : (blocks : Blocks) (path : Path) (m : MachineView) → m.paths.two.waiting ≡ None → (own_turn blocks path m).machine.paths.two ≡ m.paths.two
own_leaves blocks path m none =
    idle_leaves m m.alarm m.paths.one.finished m.paths.one.waiting (block_turn blocks path m)
    (by_leaves path (blocks.line m.paths.one.path.place) m (blocks.effect m.paths.one.path m.paths.one.values) none)

-- behind a wait no turret rests for one
rest_over : (t : Turn) (code : ℕ) (r : Resting) → wait_of t ≡ Some code → rest_behind_turn t r ≡ Unasked
rest_over (turn.Read variable stamp) code r is = absurd (let clash : None ≡ Some code = is in cc)
rest_over (turn.Did moves) code r is = absurd (let clash : None ≡ Some code = is in cc)
rest_over (turn.Arrived at) code r is = refl
rest_over (turn.Met at) code r is = refl
rest_over (turn.Ended moves) code r is = absurd (let clash : None ≡ Some code = is in cc)
rest_over (turn.Waiting at) code r is = absurd (let clash : None ≡ Some code = is in cc)
rest_over turn.Finished code r is = absurd (let clash : None ≡ Some code = is in cc)
rest_over (turn.Alarm alarm) code r is = absurd (let clash : None ≡ Some code = is in cc)
rest_over (turn.Halted alarm) code r is = absurd (let clash : None ≡ Some code = is in cc)
rest_over turn.Edited code r is = absurd (let clash : None ≡ Some code = is in cc)

-- behind another turn a turret rests as before
pub rest_on : (t : Turn) (r : Resting) → wait_of t ≡ None → rest_behind_turn t r ≡ r
rest_on (turn.Read variable stamp) r is = refl
rest_on (turn.Did moves) r is = refl
rest_on (turn.Arrived at) r is = absurd (let clash : Some at ≡ None = is in cc)
rest_on (turn.Met at) r is = absurd (let clash : Some at ≡ None = is in cc)
rest_on (turn.Ended moves) r is = refl
rest_on (turn.Waiting at) r is = refl
rest_on turn.Finished r is = refl
rest_on (turn.Alarm alarm) r is = refl
rest_on (turn.Halted alarm) r is = refl
rest_on turn.Edited r is = refl

-- a turret that was not told to rest was not told so by a turn
unasked_on : (t : Turn) → rest_behind_turn t Unasked ≡ Unasked
unasked_on (turn.Read variable stamp) = refl
unasked_on (turn.Did moves) = refl
unasked_on (turn.Arrived at) = refl
unasked_on (turn.Met at) = refl
unasked_on (turn.Ended moves) = refl
unasked_on (turn.Waiting at) = refl
unasked_on turn.Finished = refl
unasked_on (turn.Alarm alarm) = refl
unasked_on (turn.Halted alarm) = refl
unasked_on turn.Edited = refl

-- the laws of a pair of tapes, and a turn of a path
module _ (verified : Verified)
    (waits : (flow : Flow) (path : PathView) (code : ℕ) (reads : _) → control_of_place flow.order path.place ≡ Some (Wait code) → effect_of flow path reads ≡ AtWait code)
    (path : Path) (m : MachineView) where
  -- the path's turn
  abbrev the_turn : Turn
  the_turn = (turn_of (tapes_in verified) path m).turn

  -- the machine behind it
  abbrev behind : MachineView
  behind = (turn_of (tapes_in verified) path m).machine

  -- the turn of a path before a wait is that wait, or it is none, tells the turret nothing and leaves
  -- the path before that wait
  stays_before : (code : ℕ) → StandsBefore verified m path code
      → (wait_of the_turn ≡ Some code) ⊎ ((wait_of the_turn ≡ None) × (told_in_turn the_turn ≡ []) × StandsBefore verified behind path code)
  stays_before code stands = go path stands
    where
      go : (p : Path) → StandsBefore verified m p code
          → (wait_of (turn_of (tapes_in verified) p m).turn ≡ Some code)
          ⊎ ((wait_of (turn_of (tapes_in verified) p m).turn ≡ None) × (told_in_turn (turn_of (tapes_in verified) p m).turn ≡ [])
          × StandsBefore verified (turn_of (tapes_in verified) p m).machine p code)
      go One at = ⊎_elim (λ e. inl e)
          (λ (e : (wait_of (own_turn (blocks_of verified.left) One m).turn ≡ None) × (told_in_turn (own_turn (blocks_of verified.left) One m).turn ≡ [])
          × ((own_turn (blocks_of verified.left) One m).machine.paths.one.path ≡ m.paths.one.path) × ((own_turn (blocks_of verified.left) One m).machine.paths.one.waiting ≡ m.paths.one.waiting)).
          inr (e.0, e.1, (ap (λ (p : PathView). label_at verified.left.order p.place) e.2 ∙ at.0, e.3 ∙ at.1)))
          (own_stays verified.left (waits verified.left) One m code at.0)
      go Two at = ⊎_elim (λ e. inl e)
          (λ (e : (wait_of (own_turn (blocks_of verified.right) Two (own_first Two m)).turn ≡ None) × (told_in_turn (own_turn (blocks_of verified.right) Two (own_first Two m)).turn ≡ [])
          × ((own_turn (blocks_of verified.right) Two (own_first Two m)).machine.paths.one.path ≡ m.paths.two.path)
          × ((own_turn (blocks_of verified.right) Two (own_first Two m)).machine.paths.one.waiting ≡ m.paths.two.waiting)).
          inr (e.0, e.1, (ap (λ (p : PathView). label_at verified.right.order p.place) e.2 ∙ at.0, e.3 ∙ at.1)))
          (own_stays verified.right (waits verified.right) Two (own_first Two m) code at.0)

  -- the path stands before its wait still behind its turn, if its turret rests for that then
  own_stand : (r : Resting) → StandsAsTold verified m path r → StandsAsTold verified behind path (rest_behind_turn the_turn r)
  own_stand Unasked stands = subst (StandsAsTold verified behind path) (sym (unasked_on the_turn)) tt
  own_stand (Asked code) stands = ⊎_elim (λ e. subst (StandsAsTold verified behind path) (sym (rest_over the_turn code (Asked code) e)) tt)
      (λ (e : (wait_of the_turn ≡ None) × (told_in_turn the_turn ≡ []) × StandsBefore verified behind path code).
      subst (StandsAsTold verified behind path) (sym (rest_on the_turn (Asked code) e.0)) e.2) (stays_before code stands)
  own_stand (Rests code) stands = ⊎_elim (λ e. subst (StandsAsTold verified behind path) (sym (rest_over the_turn code (Rests code) e)) tt)
      (λ (e : (wait_of the_turn ≡ None) × (told_in_turn the_turn ≡ []) × StandsBefore verified behind path code).
      subst (StandsAsTold verified behind path) (sym (rest_on the_turn (Rests code) e.0)) e.2) (stays_before code stands)

-- a path stands as told if its part stays
part_stands : (verified : Verified) (m now : MachineView) (q : Path) (r : Resting) → ((code : ℕ) → StandsBefore verified m q code → StandsBefore verified now q code)
    → StandsAsTold verified m q r → StandsAsTold verified now q r
part_stands verified m now q Unasked stays stands = tt
part_stands verified m now q (Asked code) stays stands = stays code stands
part_stands verified m now q (Rests code) stays stands = stays code stands

-- both paths stand as told behind a turn of one
pub stand_on : (verified : Verified)
    → ((flow : Flow) (path : PathView) (code : ℕ) (reads : _) → control_of_place flow.order path.place ≡ Some (Wait code) → effect_of flow path reads ≡ AtWait code)
    → (path : Path) (m : MachineView) (resting : Both Resting) → ((q : Path) → StandsAsTold verified m q (of_path resting q))
    → (q : Path) → StandsAsTold verified (turn_of (tapes_in verified) path m).machine q (of_path (resting_behind path (Turned (turn_of (tapes_in verified) path m).turn) resting) q)
stand_on verified waits One m resting stands One = own_stand verified waits One m resting.one (stands One)
stand_on verified waits One m resting stands Two =
    part_stands verified m (turn_of (tapes_in verified) One m).machine Two resting.two
    (λ code at. let same : (own_turn (blocks_of verified.left) One m).machine.paths.two ≡ m.paths.two = own_leaves (blocks_of verified.left) One m at.1 in
    (ap (λ (p : Part). label_at verified.right.order p.path.place) same ∙ at.0, ap (λ (p : Part). p.waiting) same ∙ at.1)) (stands Two)
stand_on verified waits Two m resting stands Two = own_stand verified waits Two m resting.two (stands Two)
stand_on verified waits Two m resting stands One =
    part_stands verified m (turn_of (tapes_in verified) Two m).machine One resting.one
    (λ code at. let same : (own_turn (blocks_of verified.right) Two (own_first Two m)).machine.paths.two ≡ m.paths.one = own_leaves (blocks_of verified.right) Two (own_first Two m) at.1 in
    (ap (λ (p : Part). label_at verified.left.order p.path.place) same ∙ at.0, ap (λ (p : Part). p.waiting) same ∙ at.1)) (stands One)

-- a path that comes to a wait stands before it
come_stands : (verified : Verified) (m : MachineView) (path : Path) (a : Option Alarm) (f : Bool) (w : Option ℕ) (here : Option Label) (there : Option ℕ) (code : ℕ)
    → comes_by a f w here there ≡ Some code → (here ≡ Some (label.Wait code)) × (w ≡ None)
come_stands verified m path (Some alarm) f w here there code is = absurd (let clash : None ≡ Some code = is in cc)
come_stands verified m path None true w here there code is = absurd (let clash : None ≡ Some code = is in cc)
come_stands verified m path None false (Some at) here there code is = absurd (let clash : None ≡ Some code = is in cc)
come_stands verified m path None false None here there code is = (label_is here is, refl)
  where
    label_is : (l : Option Label) → comes_to l there ≡ Some code → l ≡ Some (label.Wait code)
    label_is None e = absurd (let clash : None ≡ Some code = e in cc)
    label_is (Some label.End) e = absurd (let clash : None ≡ Some code = e in cc)
    label_is (Some label.Again) e = absurd (let clash : None ≡ Some code = e in cc)
    label_is (Some label.Off) e = absurd (let clash : None ≡ Some code = e in cc)
    label_is (Some (label.Wait at)) e = go (may_come at there) refl e
      where
        go : (b : Bool) → may_come at there ≡ b → (if b then Some at else None) ≡ Some code → Some (label.Wait at) ≡ Some (label.Wait code)
        go true may x = let same : at ≡ code = cc in ap (λ (k : ℕ). Some (label.Wait k)) same
        go false may x = absurd (let clash : None ≡ Some code = x in cc)

-- a turn that comes though its path may have to be drained fits whether the turret rests, if a turn
-- behind a rest is that wait or tells nothing
fits_by : (t : Turn) (r : Resting) (ahead : Option ℕ) → wait_of t ≡ ahead → drains_by r ahead ≡ Draining.none
    → ((code : ℕ) → (r ≡ Asked code) ⊎ (r ≡ Rests code) → (wait_of t ≡ Some code) ⊎ ((wait_of t ≡ None) × (told_in_turn t ≡ []))) → FitsTurn r t
fits_by t Unasked None is calm stays = is
fits_by t Unasked (Some code) is calm stays = absurd (let clash : Draining.due code ≡ Draining.none = calm in cc)
fits_by t (Asked asked) None is calm stays = ⊎_elim
    (λ (e : wait_of t ≡ Some asked). absurd (let clash : None ≡ Some asked = sym is ∙ e in cc))
    (λ (e : (wait_of t ≡ None) × (told_in_turn t ≡ [])). e) (stays asked (inl refl))
fits_by t (Asked asked) (Some code) is calm stays = absurd (let clash : Draining.asked asked ≡ Draining.none = calm in cc)
fits_by t (Rests code) ahead is calm stays = stays code (inr refl)

-- a turn that comes though its path may have to be drained fits whether the turret rests
pub fits_rest : (verified : Verified)
    → ((flow : Flow) (path : PathView) (code : ℕ) (reads : _) → control_of_place flow.order path.place ≡ Some (Wait code) → effect_of flow path reads ≡ AtWait code)
    → (path : Path) (m : MachineView) (r : Resting) → StandsAsTold verified m path r → drains_by r (wait_of (turn_of (tapes_in verified) path m).turn) ≡ Draining.none
    → FitsTurn r (turn_of (tapes_in verified) path m).turn
fits_rest verified waits path m r stands none = fits_by (turn_of (tapes_in verified) path m).turn r (wait_of (turn_of (tapes_in verified) path m).turn) refl none stays
  where
    before : (code : ℕ) → (r ≡ Asked code) ⊎ (r ≡ Rests code) → StandsBefore verified m path code
    before code is = ⊎_elim (λ (e : r ≡ Asked code). subst (StandsAsTold verified m path) e stands) (λ (e : r ≡ Rests code). subst (StandsAsTold verified m path) e stands) is

    stays : (code : ℕ) → (r ≡ Asked code) ⊎ (r ≡ Rests code)
        → (wait_of (turn_of (tapes_in verified) path m).turn ≡ Some code) ⊎ ((wait_of (turn_of (tapes_in verified) path m).turn ≡ None) × (told_in_turn (turn_of (tapes_in verified) path m).turn ≡ []))
    stays code is = ⊎_elim (λ (e : wait_of (turn_of (tapes_in verified) path m).turn ≡ Some code). inl e)
        (λ (e : (wait_of (turn_of (tapes_in verified) path m).turn ≡ None) × (told_in_turn (turn_of (tapes_in verified) path m).turn ≡ [])
        × StandsBefore verified (turn_of (tapes_in verified) path m).machine path code). inr (e.0, e.1)) (stays_before verified waits path m code (before code is))

-- what is answered in a flush fits whether the turret rests as what was to be answered does
pub answer_fits : {D : Type 0} (state : D → DiskState) (due : Bool) (r : Resting) (answer : TableStep) (old new : RecordingView D) (result : TableStep)
    → Answers state due answer old new result → FitsRest r answer → FitsRest r result
answer_fits state due r answer old new result (at_once was same file even) fits = subst (FitsRest r) (sym same) fits
answer_fits state due r answer old new result (flushed was same live all) fits = subst (FitsRest r) (sym same) fits
answer_fits state due r answer old new result (failed was same dead even rose) fits = subst (FitsRest r) (sym same) tt

-- if a table has stopped, its answer leaves which turrets rest
pub halted_rests : {D : Type 0} (state : D → DiskState) (due : Bool) (path : Path) (why : Halt) (old new : RecordingView D) (result : TableStep) (resting : Both Resting)
    → Answers state due (Halted why) old new result → resting ≡ resting_behind path result resting
halted_rests state due path why old new result resting (at_once was same file even) = sym (ap (λ (r : TableStep). resting_behind path r resting) same ∙ rests_kept path resting)
halted_rests state due path why old new result resting (flushed was same live all) = sym (ap (λ (r : TableStep). resting_behind path r resting) same ∙ rests_kept path resting)
halted_rests state due path why old new result resting (failed was same dead even rose) = sym (ap (λ (r : TableStep). resting_behind path r resting) same ∙ rests_kept path resting)

-- what is answered instead of a turn
pub drain_is : (d : Draining) (answer : StepAnswer) → drain_answer d ≡ Some answer
    → ((code : ℕ) × (answer ≡ apart.Drain code) × (d ≡ Draining.due code)) ⊎ ((code : ℕ) × (answer ≡ apart.Undrained) × (d ≡ Draining.asked code))
drain_is Draining.none answer is = absurd (let clash : None ≡ Some answer = is in cc)
drain_is (Draining.due code) answer is = let same : apart.Drain code ≡ answer = cc in inl (code, sym same, refl)
drain_is (Draining.asked code) answer is = let same : apart.Undrained ≡ answer = cc in inr (code, sym same, refl)

-- if nothing is answered instead of a turn, the path is not to be drained
pub none_due : (d : Draining) → drain_answer d ≡ None → d ≡ Draining.none
none_due Draining.none is = refl
none_due (Draining.due code) is = absurd (let clash : Some (apart.Drain code) ≡ None = is in cc)
none_due (Draining.asked code) is = absurd (let clash : Some apart.Undrained ≡ None = is in cc)

-- a path is asked for a drain only if its turret was not told to rest, and it comes to that wait
due_is : (r : Resting) (ahead : Option ℕ) (code : ℕ) → drains_by r ahead ≡ Draining.due code → (r ≡ Unasked) × (ahead ≡ Some code)
due_is r None code is = absurd (let clash : Draining.none ≡ Draining.due code = is in cc)
due_is Unasked (Some at) code is = let same : at ≡ code = cc in (refl, ap Some same)
due_is (Asked asked) (Some at) code is = absurd (let clash : Draining.asked asked ≡ Draining.due code = is in cc)
due_is (Rests rests) (Some at) code is = absurd (let clash : Draining.none ≡ Draining.due code = is in cc)

-- what is answered instead of a turn fits whether the turret rests
pub drain_fits : (r : Resting) (ahead : Option ℕ) (answer : StepAnswer) (moves : List Move) → drain_answer (drains_by r ahead) ≡ Some answer → FitsRest r (step_with answer moves)
drain_fits r ahead answer moves is = ⊎_elim
    (λ (e : (code : ℕ) × (answer ≡ apart.Drain code) × (drains_by r ahead ≡ Draining.due code)).
    subst (λ (a : StepAnswer). FitsRest r (step_with a moves)) (sym e.1) (due_is r ahead e.0 e.2).0)
    (λ (e : (code : ℕ) × (answer ≡ apart.Undrained) × (drains_by r ahead ≡ Draining.asked code)). subst (λ (a : StepAnswer). FitsRest r (step_with a moves)) (sym e.1) tt)
    (drain_is (drains_by r ahead) answer is)

-- what is answered instead of a turn has no moves
pub drain_quiet : (d : Draining) (answer : StepAnswer) (moves : List Move) → drain_answer d ≡ Some answer → moves_of_step (step_with answer moves) ≡ []
drain_quiet d answer moves is = ⊎_elim
    (λ (e : (code : ℕ) × (answer ≡ apart.Drain code) × (d ≡ Draining.due code)). ap (λ (a : StepAnswer). moves_of_step (step_with a moves)) e.1)
    (λ (e : (code : ℕ) × (answer ≡ apart.Undrained) × (d ≡ Draining.asked code)). ap (λ (a : StepAnswer). moves_of_step (step_with a moves)) e.1) (drain_is d answer is)

-- what is answered instead of a turn is no turn
pub drain_no_turn : (d : Draining) (answer : StepAnswer) (moves : List Move) (t : Turn) → drain_answer d ≡ Some answer → step_with answer moves ≡ Turned t → ⊥
drain_no_turn d answer moves t is turned = ⊎_elim
    (λ (e : (code : ℕ) × (answer ≡ apart.Drain code) × (d ≡ Draining.due code)).
    let clash : Drain e.0 ≡ Turned t = sym (ap (λ (a : StepAnswer). step_with a moves) e.1) ∙ turned in absurd cc)
    (λ (e : (code : ℕ) × (answer ≡ apart.Undrained) × (d ≡ Draining.asked code)).
    let clash : Undrained ≡ Turned t = sym (ap (λ (a : StepAnswer). step_with a moves) e.1) ∙ turned in absurd cc) (drain_is d answer is)

-- both paths stand as told if this one is asked for a drain before the wait at which it stands
ask_stands : (verified : Verified) (m : MachineView) (path q : Path) (resting : Both Resting) (code : ℕ) → StandsBefore verified m path code
    → ((p : Path) → StandsAsTold verified m p (of_path resting p)) → StandsAsTold verified m q (of_path (with_resting path (Asked code) resting) q)
ask_stands verified m One One resting code at stands = at
ask_stands verified m One Two resting code at stands = stands Two
ask_stands verified m Two One resting code at stands = stands One
ask_stands verified m Two Two resting code at stands = at

-- both paths stand as told behind what is answered instead of a turn
pub drain_stands : (verified : Verified)
    → ((flow : Flow) → IsControlled flow)
    → ((flow : Flow) (path : PathView) (code : ℕ) (reads : _) → control_of_place flow.order path.place ≡ Some (Wait code) → effect_of flow path reads ≡ AtWait code)
    → (path : Path) (m : MachineView) (resting : Both Resting) (answer : StepAnswer) (moves : List Move)
    → drain_answer (drains_by (of_path resting path) (wait_of (turn_of (tapes_in verified) path m).turn)) ≡ Some answer
    → ((p : Path) → StandsAsTold verified m p (of_path resting p)) → (q : Path) → StandsAsTold verified m q (of_path (resting_behind path (step_with answer moves) resting) q)
drain_stands verified control waits path m resting answer moves is stands q = ⊎_elim
    (λ (e : (code : ℕ) × (answer ≡ apart.Drain code) × (drains_by (of_path resting path) (wait_of (turn_of (tapes_in verified) path m).turn) ≡ Draining.due code)).
    let ahead = (due_is (of_path resting path) (wait_of (turn_of (tapes_in verified) path m).turn) e.0 e.2).1 in
    let at = come_stands verified m path m.alarm (of_path m.paths path).finished (of_path m.paths path).waiting (label_at (flow_for verified path).order (of_path m.paths path).path.place)
    (of_path m.paths (other_of path)).waiting e.0 (wait_ahead verified control waits path m ∙ ahead) in
    subst (λ (a : StepAnswer). StandsAsTold verified m q (of_path (resting_behind path (step_with a moves) resting) q)) (sym e.1) (ask_stands verified m path q resting e.0 at stands))
    (λ (e : (code : ℕ) × (answer ≡ apart.Undrained) × (drains_by (of_path resting path) (wait_of (turn_of (tapes_in verified) path m).turn) ≡ Draining.asked code)).
    subst (λ (a : StepAnswer). StandsAsTold verified m q (of_path (resting_behind path (step_with a moves) resting) q)) (sym e.1)
    (subst (λ (b : Both Resting). StandsAsTold verified m q (of_path b q)) (sym (rests_kept path resting)) (stands q)))
    (drain_is (drains_by (of_path resting path) (wait_of (turn_of (tapes_in verified) path m).turn)) answer is)

-- a path stands as told once it was drained
once_stands : (verified : Verified) (m : MachineView) (q : Path) (r : Resting) → StandsAsTold verified m q r → StandsAsTold verified m q (once_rested r)
once_stands verified m q Unasked stands = tt
once_stands verified m q (Asked code) stands = stands
once_stands verified m q (Rests code) stands = stands

-- both paths stand as told once one was drained
pub drained_stands : (verified : Verified) (m : MachineView) (path : Path) (resting : Both Resting) → ((p : Path) → StandsAsTold verified m p (of_path resting p))
    → (q : Path) → StandsAsTold verified m q (of_path (with_drained path resting) q)
drained_stands verified m One resting stands One = once_stands verified m One resting.one (stands One)
drained_stands verified m One resting stands Two = stands Two
drained_stands verified m Two resting stands One = stands One
drained_stands verified m Two resting stands Two = once_stands verified m Two resting.two (stands Two)
