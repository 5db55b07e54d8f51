-- Two paths over tapes whose lists of labels agree: an invariant of both, which each turn keeps,
-- and under which they go on. For the law `no_pair_is_stuck` (src/laws.rt).
use Rattle.std.proofs.Common.{◌≡◌, ◌≢◌, ℕ, ◌⊎◌, inl, inr, Bool, true, false, ◌==◌, ◌||◌, List, [], ◌∷◌, Option, Some, None, is_some, ℤ, refl, ap, sym, subst, ◌∙◌, arith}
use Rattle.std.proofs.lemmas.Bool.Decides.{nat_tests}
use Rattle.nc_number.specs.declared.cause.Cause.TheVariants.{WaitDiffers}
use Rattle.nc_number.specs.declared.path.Path.{Path}
use Rattle.nc_number.specs.declared.path.Path.TheVariants.{One, Two}
use Rattle.nc_number.specs.declared.value.Var.{Var}
use Rattle.nc_number.specs.Causes.{cause_number}
use Rattle.nc_moves.specs.declared.alarm.Alarm.{Alarm}
use Rattle.nc_moves.specs.declared.motion.Move.{Move}
use Rattle.block_order.specs.declared.control.Control.TheVariants as control
use Rattle.block_order.specs.declared.label.Label.{Label}
use Rattle.block_order.specs.declared.program.ControlProgram.{ControlProgram}
use Rattle.block_order.specs.Labels.{labels_ahead, list, start}
use Rattle.block_order.specs.Steps.{Step, IsPlace, control_of_place, place_behind, KeepsLabels}
use Rattle.run_records.specs.declared.edit.Edit.{Edit}
use Rattle.path_state.specs.View.{PathView}
use Rattle.path_state.specs.Statements.{Write as Written}
use Rattle.path_state.specs.Effect.{Effect, Need, Done, AtWait, AtEnd}
use Rattle.path_state.specs.Effect as effect
use Rattle.path_state.specs.Controlled.{GoesAsOrdered}
use Rattle.nc_number.proofs.Counts.{some_is}
use Rattle.nc_number.specs.Both.{of_path}
use Rattle.pair_order.proofs.Meetings.{Agree, agree_swap, agree_waits, agree_end, step_keeps}
use Rattle.two_path.specs.Machine.{Part, MachineView, own_first, opening}
use Rattle.two_path.specs.Turns.{Blocks, Tapes, result_at_wait, result_by, own_turn}
use Rattle.two_path.specs.Edits.{behind_edit_of, unless_alarm}
use Rattle.two_path.specs.Histories.{Event, TurnOf, EditOf, behind_event, run, is_idle}
use Rattle.two_path.specs.Stuck.{IsStuck, IsCrossed, RaisesNoCrossing, IsFree}
use Rattle.two_path.proofs.Idle.{is_still, own_awake, own_still}

-- the blocks go where the order of this tape allows
abbrev pub AreLed : List ControlProgram → Blocks → Type 0
AreLed tape blocks = (path : PathView) (values : List Var) → GoesAsOrdered tape path (blocks.effect path values)

-- one path's side of the invariant: it stands at a place of its tape, on a wait if it waits, and on
-- an end if it has ended
record IsSide (tape : List ControlProgram) (p : Part) : Type 0 where
  place : IsPlace tape p.path.place
  waits : (code : ℕ) → p.waiting ≡ Some code → control_of_place tape p.path.place ≡ Some (control.Wait code)
  ends : p.finished ≡ true → control_of_place tape p.path.place ≡ Some control.End

-- both stand at places of their tapes, the labels ahead agree, and one path at most waits
record IsSound (left right : List ControlProgram) (all : List Label) (m : MachineView) : Type 0 where
  first : IsSide left m.paths.one
  second : IsSide right m.paths.two
  agree : Agree all (labels_ahead left m.paths.one.path.place) (labels_ahead right m.paths.two.path.place)
  one : (m.paths.one.waiting ≡ None) ⊎ (m.paths.two.waiting ≡ None)

-- the invariant: without an alarm the state is sound, and an alarm is another than that of paths
-- that wait at different codes
record IsPaired (left right : List ControlProgram) (all : List Label) (m : MachineView) : Type 0 where
  sound : m.alarm ≡ None → IsSound left right all m
  never : (alarm : Alarm) → m.alarm ≡ Some alarm → alarm.cause ≢ cause_number WaitDiffers

-- of two facts one holds, in either order
one_swap : {A B : Type 0} → A ⊎ B → B ⊎ A
one_swap (inl a) = inr a
one_swap (inr b) = inl b

-- a sound state is sound with the paths changed over
sound_swap : (left right : List ControlProgram) (all : List Label) (m : MachineView) → IsSound left right all m → IsSound right left all (own_first Two m)
sound_swap left right all m s = record {
  first = s.second;
  second = s.first;
  agree = agree_swap all (labels_ahead left m.paths.one.path.place) (labels_ahead right m.paths.two.path.place) s.agree;
  one = one_swap s.one;
}

-- the invariant holds with the paths changed over
paired_swap : (left right : List ControlProgram) (all : List Label) (m : MachineView) → IsPaired left right all m
    → IsPaired right left all (own_first Two m)
paired_swap left right all m k = record { sound = λ e. sound_swap left right all m (k.sound e); never = k.never }

-- a machine without an alarm has none
no_alarm : {A : Type 0} {x : Option Alarm} {alarm : Alarm} → x ≡ None → x ≡ Some alarm → A
no_alarm e d = absurd cc

-- without an alarm the invariant is that both paths are sound
calmly : (left right : List ControlProgram) (all : List Label) (m : MachineView) → m.alarm ≡ None → IsSound left right all m → IsPaired left right all m
calmly left right all m calm s = record { sound = λ _. s; never = λ alarm e. no_alarm calm e }

-- a block that is done keeps the state sound
done_sound : (left right : List ControlProgram) → KeepsLabels left → (path : Path) (line : ℕ) (m : MachineView) (to : PathView) (write : Option Written) (moves : List Move)
    → IsSound left right (list left) m → m.paths.one.waiting ≡ None → m.paths.one.finished ≡ false → Step left m.paths.one.path.place to.place
    → IsSound left right (list left) (result_by path line m (Done to write moves)).machine
done_sound left right law path line m to write moves s awake going step =
    let k = step_keeps left law (labels_ahead right m.paths.two.path.place) m.paths.one.path.place to.place s.first.place step s.agree in
    record {
      first = record { place = k.0; waits = λ code e. absurd cc; ends = λ e. absurd cc };
      second = s.second;
      agree = k.1;
      one = inl awake;
    }

-- the end of a path keeps the state sound
end_sound : (left right : List ControlProgram) (path : Path) (line : ℕ) (m : MachineView) (to : PathView) (moves : List Move)
    → IsSound left right (list left) m → m.paths.one.waiting ≡ None → control_of_place left m.paths.one.path.place ≡ Some control.End → to.place ≡ m.paths.one.path.place
    → IsSound left right (list left) (result_by path line m (AtEnd to moves)).machine
end_sound left right path line m to moves s awake is stays = record {
  first = record { place = rw stays (s.first.place); waits = λ code e. absurd cc; ends = λ e. rw stays is };
  second = s.second;
  agree = rw stays (s.agree);
  one = inl awake;
}

-- a wait of the first path, and one at which the other waits: both are the next label
meeting : (left right : List ControlProgram) → KeepsLabels left → KeepsLabels right → (m : MachineView) → IsSound left right (list left) m → (code there : ℕ)
    → control_of_place left m.paths.one.path.place ≡ Some (control.Wait code) → m.paths.two.waiting ≡ Some there
    → (code ≡ there) × (labels_ahead left (place_behind m.paths.one.path.place) ≡ labels_ahead right (place_behind m.paths.two.path.place))
meeting left right here_law there_law m s code there is waits =
    let here = (here_law.wait m.paths.one.path.place code s.first.place is).1 in
    let other = (there_law.wait m.paths.two.path.place there s.second.place (s.second.waits there waits)).1 in
    agree_waits (list left) (labels_ahead left (place_behind m.paths.one.path.place)) (labels_ahead right (place_behind m.paths.two.path.place)) code there (rw (← here, ← other) (s.agree))

-- a turn at a wait keeps the invariant, and never raises the alarm of waits that differ
wait_paired : (left right : List ControlProgram) → KeepsLabels left → KeepsLabels right → (path : Path) (line : ℕ) (m : MachineView) → m.alarm ≡ None
    → IsSound left right (list left) m → m.paths.one.finished ≡ false → (code : ℕ) → control_of_place left m.paths.one.path.place ≡ Some (control.Wait code)
    → (o : Option ℕ) → m.paths.two.waiting ≡ o → IsPaired left right (list left) (result_at_wait path line m code o).machine
wait_paired left right law law' path line m calm s going code is None e =
    calmly left right (list left) (result_at_wait path line m code None).machine calm (record {
      first = record { place = s.first.place; waits = λ c same. is ∙ ap (λ k. Some (control.Wait k)) (some_is same); ends = s.first.ends };
      second = s.second;
      agree = s.agree;
      one = inr e;
    })
wait_paired left right law law' path line m calm s going code is (Some there) e = go (code == there) refl
  where
    both : (code ≡ there) × (labels_ahead left (place_behind m.paths.one.path.place) ≡ labels_ahead right (place_behind m.paths.two.path.place))
    both = meeting left right law law' m s code there is e

    go : (x : Bool) → (code == there) ≡ x → IsPaired left right (list left) (result_at_wait path line m code (Some there)).machine
    go false n = absurd (let same : code ≡ there = both.0 in grind (arith, nat_tests))
    go true y = rw y (record {
      sound = λ _. record {
        first = record { place = (law.wait m.paths.one.path.place code s.first.place is).0; waits = λ c none. absurd cc; ends = λ f. absurd cc };
        second = record {
          place = (law'.wait m.paths.two.path.place there s.second.place (s.second.waits there e)).0;
          waits = λ c none. absurd cc;
          ends = λ f. absurd (cc (s.second.waits there e, s.second.ends f));
        };
        agree = inl both.1;
        one = inl refl;
      };
      never = λ alarm e. no_alarm calm e;
    })

-- an alarm that a block raises keeps the invariant, since no block raises that of waits that differ
alarm_paired : (left right : List ControlProgram) (a : Blocks) → RaisesNoCrossing a → (all : List Label) (path : Path) (line : ℕ) (m : MachineView) (number : ℕ) (value : ℤ) (x : PathView) (values : List Var)
    → a.effect x values ≡ effect.Alarm number value → IsPaired left right all (result_by path line m (effect.Alarm number value)).machine
alarm_paired left right a raises all path line m number value x values is = record {
  sound = λ e. absurd cc;
  never = λ alarm e same.
      let cause : alarm.cause ≡ number = ap cause_in (sym e) in
      raises x values value (is ∙ ap (λ n. effect.Alarm n value) (sym cause ∙ same));
}
  where
    cause_in : Option Alarm → ℕ
    cause_in None = 0
    cause_in (Some alarm) = alarm.cause

-- a turn by what the block comes to keeps the invariant
by_paired : (left right : List ControlProgram) (a : Blocks) → RaisesNoCrossing a → KeepsLabels left → KeepsLabels right → (path : Path) (line : ℕ) (m : MachineView) → m.alarm ≡ None
    → IsSound left right (list left) m → m.paths.one.waiting ≡ None → m.paths.one.finished ≡ false → (e : Effect) → GoesAsOrdered left m.paths.one.path e
    → a.effect m.paths.one.path m.paths.one.values ≡ e → IsPaired left right (list left) (result_by path line m e).machine
by_paired left right a raises law law' path line m calm s awake going (Need v) goes is =
    calmly left right (list left) (result_by path line m (Need v)).machine calm (record {
      first = record { place = s.first.place; waits = s.first.waits; ends = s.first.ends };
      second = s.second;
      agree = s.agree;
      one = s.one;
    })
by_paired left right a raises law law' path line m calm s awake going (Done to write moves) goes is =
    calmly left right (list left) (result_by path line m (Done to write moves)).machine calm
    (done_sound left right law path line m to write moves s awake going goes)
by_paired left right a raises law law' path line m calm s awake going (AtWait code) goes is =
    wait_paired left right law law' path line m calm s going code goes m.paths.two.waiting refl
by_paired left right a raises law law' path line m calm s awake going (AtEnd to moves) goes is =
    calmly left right (list left) (result_by path line m (AtEnd to moves)).machine calm
    (end_sound left right path line m to moves s awake goes.0 goes.1)
by_paired left right a raises law law' path line m calm s awake going (effect.Alarm number value) goes is =
    alarm_paired left right a raises (list left) path line m number value m.paths.one.path m.paths.one.values is

-- a path that isn't still has no alarm, no end and no wait
awake_all : (x : Option Alarm) (f : Bool) (o : Option ℕ) → (is_some x || (f || is_some o)) ≡ false → (x ≡ None) × (f ≡ false) × (o ≡ None)
awake_all (Some x) f o e = absurd cc
awake_all None true o e = absurd cc
awake_all None false (Some n) e = absurd cc
awake_all None false None e = (refl, refl, refl)

-- each turn of the path whose part is first keeps the invariant
turn_paired : (left right : List ControlProgram) (a : Blocks) → RaisesNoCrossing a → KeepsLabels left → KeepsLabels right → AreLed left a → (path : Path) (m : MachineView)
    → IsPaired left right (list left) m → IsPaired left right (list left) (own_turn a path m).machine
turn_paired left right a raises law law' led path m k = go (is_still m) refl
  where
    go : (x : Bool) → is_still m ≡ x → IsPaired left right (list left) (own_turn a path m).machine
    go true e = rw ((own_still a path m e).0) k
    go false e =
        let all = awake_all m.alarm m.paths.one.finished m.paths.one.waiting e in
        rw (own_awake a path m e) (by_paired left right a raises law law' path (a.line m.paths.one.path.place) m all.0 (k.sound all.0) all.2 all.1
        (a.effect m.paths.one.path m.paths.one.values) (led m.paths.one.path m.paths.one.values) refl)

-- what the invariant needs of a pair: the laws of both tapes, that their lists are equal, and that
-- no block raises the alarm of waits that differ
pub record IsLawfulPair (left right : List ControlProgram) (tapes : Tapes) : Type 0 where
  pub first : KeepsLabels left
  pub second : KeepsLabels right
  pub first_led : AreLed left tapes.one
  pub second_led : AreLed right tapes.two
  pub first_raises : RaisesNoCrossing tapes.one
  pub second_raises : RaisesNoCrossing tapes.two
  pub equal : list left ≡ list right

-- an edit keeps the invariant, since places, waits and ends stay
edit_paired : (left right : List ControlProgram) (all : List Label) (m : MachineView) (edit : Edit) → IsPaired left right all m
    → (p : Path) → IsPaired left right all (behind_edit_of p edit m)
edit_paired left right all m edit k One = record {
  sound = λ e. let s = k.sound e in record {
    first = record { place = s.first.place; waits = s.first.waits; ends = s.first.ends };
    second = record { place = s.second.place; waits = s.second.waits; ends = s.second.ends };
    agree = s.agree;
    one = s.one;
  };
  never = k.never;
}
edit_paired left right all m edit k Two = record {
  sound = λ e. let s = k.sound e in record {
    first = record { place = s.first.place; waits = s.first.waits; ends = s.first.ends };
    second = record { place = s.second.place; waits = s.second.waits; ends = s.second.ends };
    agree = s.agree;
    one = s.one;
  };
  never = k.never;
}

-- each event keeps the invariant
event_paired : (left right : List ControlProgram) (tapes : Tapes) → IsLawfulPair left right tapes → (e : Event) (m : MachineView)
    → IsPaired left right (list left) m → IsPaired left right (list left) (behind_event tapes e m)
event_paired left right tapes pair (TurnOf One) m k = turn_paired left right tapes.one pair.first_raises pair.first pair.second pair.first_led One m k
event_paired left right tapes pair (TurnOf Two) m k =
    let turned : IsPaired right left (list right) (own_first Two m) =
    subst (λ all. IsPaired right left all (own_first Two m)) pair.equal (paired_swap left right (list left) m k) in
    let to : MachineView = (own_turn tapes.two Two (own_first Two m)).machine in
    let done : IsPaired right left (list right) to =
    turn_paired right left tapes.two pair.second_raises pair.second pair.first pair.second_led Two (own_first Two m) turned in
    subst (λ all. IsPaired left right all (own_first Two to)) (sym pair.equal)
    (paired_swap right left (list right) to done)
event_paired left right tapes pair (EditOf p edit) m k = go m.alarm
  where
    go : (a : Option Alarm) → IsPaired left right (list left) (unless_alarm a m (behind_edit_of p edit m))
    go (Some alarm) = k
    go None = edit_paired left right (list left) m edit k p

-- each list of events keeps the invariant
run_paired : (left right : List ControlProgram) (tapes : Tapes) → IsLawfulPair left right tapes → (es : List Event) (m : MachineView)
    → IsPaired left right (list left) m → IsPaired left right (list left) (run tapes m es)
run_paired left right tapes pair [] m k = k
run_paired left right tapes pair (e ∷ es) m k =
    run_paired left right tapes pair es (behind_event tapes e m) (event_paired left right tapes pair e m k)

-- the invariant holds if both paths begin their main programs
opening_paired : (left right : List ControlProgram) (tapes : Tapes) → IsLawfulPair left right tapes → (first second : PathView)
    → first.place ≡ start left → second.place ≡ start right
    → IsPaired left right (list left) (opening first second)
opening_paired left right tapes pair first second at at' =
    calmly left right (list left) (opening first second) refl (record {
      first = record { place = rw at (refl, refl); waits = λ c e. absurd cc; ends = λ e. absurd cc };
      second = record { place = rw at' (refl, refl); waits = λ c e. absurd cc; ends = λ e. absurd cc };
      agree = inl (rw (at, at') (pair.equal));
      one = inl refl;
    })

-- in a sound state it can't be that an unfinished path waits while the other waits or has ended
waiting_stuck : (left right : List ControlProgram) → KeepsLabels left → KeepsLabels right → (all : List Label) (m : MachineView) → IsSound left right all m
    → (f : Bool) → m.paths.one.finished ≡ f → (o : Option ℕ) → m.paths.one.waiting ≡ o → f ≡ false → (f || is_some o) ≡ true
    → (f' : Bool) → m.paths.two.finished ≡ f' → (o' : Option ℕ) → m.paths.two.waiting ≡ o' → (f' || is_some o') ≡ true → ⊥
waiting_stuck left right law law' all m s true fe o oe un i f' fe' o' oe' i' = absurd cc
waiting_stuck left right law law' all m s false fe None oe un i f' fe' o' oe' i' = absurd cc
waiting_stuck left right law law' all m s false fe (Some code) oe un i true fe' o' oe' i' =
    agree_end all (labels_ahead left (place_behind m.paths.one.path.place)) code
    (rw (← (law.wait m.paths.one.path.place code s.first.place (s.first.waits code oe)).1, ← law'.ends m.paths.two.path.place s.second.place (s.second.ends fe')) (s.agree))
waiting_stuck left right law law' all m s false fe (Some code) oe un i false fe' None oe' i' = absurd cc
waiting_stuck left right law law' all m s false fe (Some code) oe un i false fe' (Some other) oe' i' = go s.one
  where
    go : (m.paths.one.waiting ≡ None) ⊎ (m.paths.two.waiting ≡ None) → ⊥
    go (inl e) = absurd cc
    go (inr e) = absurd cc

-- in a sound state an unfinished first path is not idle beside an idle other one
first_stuck : (left right : List ControlProgram) → KeepsLabels left → KeepsLabels right → (all : List Label) (m : MachineView) → IsSound left right all m
    → m.paths.one.finished ≡ false → is_idle m.paths.one ≡ true → is_idle m.paths.two ≡ true → ⊥
first_stuck left right law law' all m s un i i' =
    waiting_stuck left right law law' all m s m.paths.one.finished refl m.paths.one.waiting refl un i m.paths.two.finished refl m.paths.two.waiting refl i'

-- a machine whose state is sound is not stuck
not_stuck : (left right : List ControlProgram) → KeepsLabels left → KeepsLabels right → (all : List Label) (m : MachineView)
    → (m.alarm ≡ None → IsSound left right all m) → IsStuck m → ⊥
not_stuck left right law law' all m sound stuck = go stuck.unfinished
  where
    go : (m.paths.one.finished ≡ false) ⊎ (m.paths.two.finished ≡ false) → ⊥
    go (inl un) = first_stuck left right law law' all m (sound stuck.calm) un stuck.first stuck.second
    go (inr un) = first_stuck right left law' law all (own_first Two m) (sound_swap left right all m (sound stuck.calm)) un stuck.second stuck.first

-- in a sound state the first path comes to no wait while the other waits at another
not_crossed : (left right : List ControlProgram) (a : Blocks) → KeepsLabels left → KeepsLabels right → AreLed left a → (m : MachineView)
    → (m.alarm ≡ None → IsSound left right (list left) m) → IsCrossed a m → ⊥
not_crossed left right a law law' led m sound x =
    let goes : GoesAsOrdered left m.paths.one.path (AtWait x.code) = subst (GoesAsOrdered left m.paths.one.path) x.comes (led m.paths.one.path m.paths.one.values) in
    x.differs (meeting left right law law' m (sound x.calm) x.code x.there goes x.waits).0

-- a machine with the invariant is free: not stuck, no waits crossed, no alarm of waits that differ
free : (left right : List ControlProgram) (tapes : Tapes) → IsLawfulPair left right tapes → (m : MachineView)
    → IsPaired left right (list left) m → IsFree tapes m
free left right tapes pair m k = record {
  stuck = not_stuck left right pair.first pair.second (list left) m k.sound;
  crossed = λ path. crossed path;
  alarm = k.never;
}
  where
    crossed : (path : Path) → IsCrossed (of_path tapes path) (own_first path m) → ⊥
    crossed One x = not_crossed left right tapes.one pair.first pair.second pair.first_led m k.sound x
    crossed Two x = not_crossed right left tapes.two pair.second pair.first pair.second_led (own_first Two m)
        (λ e. subst (λ all. IsSound right left all (own_first Two m)) pair.equal (sound_swap left right (list left) m (k.sound e))) x

-- behind every list of events from the start of both main programs the machine is free
pub run_free : (left right : List ControlProgram) (tapes : Tapes) → IsLawfulPair left right tapes → (first second : PathView)
    → first.place ≡ start left → second.place ≡ start right → (es : List Event) → IsFree tapes (run tapes (opening first second) es)
run_free left right tapes pair first second at at' es =
    free left right tapes pair (run tapes (opening first second) es)
    (run_paired left right tapes pair es (opening first second) (opening_paired left right tapes pair first second at at'))
