-- Two paths over tapes whose lists of labels are equal: the labels ahead of both agree, and each
-- step leaves it so. For the law `no_pair_waits_in_vain` and for Machines.
use Rattle.std.proofs.Common.{◌≡◌, ℕ, ◌⊎◌, inl, inr, List, [], ◌∷◌, ◌++◌, refl, sym, subst, ◌∙◌}
use Rattle.block_order.specs.declared.control.Control.{Control}
use Rattle.block_order.specs.declared.control.Control.TheVariants as control
use Rattle.block_order.specs.declared.frame.Frame.{Frame}
use Rattle.block_order.specs.declared.label.Label.{Label}
use Rattle.block_order.specs.declared.label.Label.TheVariants as label
use Rattle.block_order.specs.declared.program.ControlProgram.{ControlProgram}
use Rattle.block_order.specs.Labels.{labels_ahead, list}
use Rattle.block_order.specs.Steps.{Step, IsPlace, place_behind, Kept, KeepsLabels}
use Rattle.pair_order.specs.Pairs.{Paths, IsAtWait, Goes, one, two, meet, IsBeginning, AreMet, none, one_more, anew, IsFree, IsReached, begun, gone, IsNeverStuck}
use Rattle.pair_order.specs.Pairs.{IsAtEnd, EndsOrGoesOn, ended, goes_on, first_alarm, second_alarm}
use Rattle.pair_order.proofs.Ways.{Way, waits, ends, steps, alarms, way_of}

-- The labels ahead of two paths are the same; or one path has gone back to its start, and the other
-- has `Again` alone ahead.
abbrev pub Agree : List Label → List Label → List Label → Type 0
Agree all xs ys = (xs ≡ ys) ⊎ (((xs ≡ all) × (ys ≡ label.Again ∷ [])) ⊎ ((xs ≡ label.Again ∷ []) × (ys ≡ all)))

-- The agreement holds with the paths exchanged.
pub agree_swap : (all xs ys : List Label) → Agree all xs ys → Agree all ys xs
agree_swap all xs ys (inl e) = inl (sym e)
agree_swap all xs ys (inr (inl p)) = inr (inr (p.1, p.0))
agree_swap all xs ys (inr (inr p)) = inr (inl (p.1, p.0))

-- The agreement holds if the labels ahead of one path stay as they were.
agree_same : (all xs ys xs' : List Label) → xs' ≡ xs → Agree all xs ys → Agree all xs' ys
agree_same all xs ys xs' e a = subst (λ zs. Agree all zs ys) (sym e) a

-- The agreement holds if one path, with `Again` alone ahead, goes back to its start.
agree_again : (all xs ys xs' : List Label) → xs ≡ label.Again ∷ [] → xs' ≡ all → Agree all xs ys → Agree all xs' ys
agree_again all xs ys xs' again new (inl e) = inr (inl (new, sym e ∙ again))
agree_again all xs ys xs' again new (inr (inl p)) = inr (inl (new, p.1))
agree_again all xs ys xs' again new (inr (inr p)) = inl (new ∙ sym p.1)

-- Two waits that are next are of one code, and the rest agrees.
pub agree_waits : (all xs ys : List Label) (code other : ℕ) → Agree all (label.Wait code ∷ xs) (label.Wait other ∷ ys) → (code ≡ other) × (xs ≡ ys)
agree_waits all xs ys code other (inl e) = (cc, cc)
agree_waits all xs ys code other (inr (inl p)) = absurd (cc (p.1))
agree_waits all xs ys code other (inr (inr p)) = absurd (cc (p.0))

-- No wait is next while the other path is at its end.
pub agree_end : (all xs : List Label) (code : ℕ) → Agree all (label.Wait code ∷ xs) (label.End ∷ []) → ⊥
agree_end all xs code (inl e) = cc
agree_end all xs code (inr (inl p)) = cc (p.1)
agree_end all xs code (inr (inr p)) = cc (p.0)

-- A step that does to the labels ahead what `Kept` says keeps the agreement.
kept_agree : (tape : List ControlProgram) (ys : List Label) (f : Frame) (stack : List Frame) (c : Control) (to : List Frame)
    → Kept tape f stack c to → Agree (list tape) (labels_ahead tape (f ∷ stack)) ys → Agree (list tape) (labels_ahead tape to) ys
kept_agree tape ys f stack control.Next to k a = agree_same (list tape) (labels_ahead tape (f ∷ stack)) ys (labels_ahead tape to) k a
kept_agree tape ys f stack (control.Goto n) to k a = agree_same (list tape) (labels_ahead tape (f ∷ stack)) ys (labels_ahead tape to) k a
kept_agree tape ys f stack (control.While m) to k a = agree_same (list tape) (labels_ahead tape (f ∷ stack)) ys (labels_ahead tape to) k a
kept_agree tape ys f stack (control.Do m) to k a = agree_same (list tape) (labels_ahead tape (f ∷ stack)) ys (labels_ahead tape to) k a
kept_agree tape ys f stack (control.EndLoop m) to k a = agree_same (list tape) (labels_ahead tape (f ∷ stack)) ys (labels_ahead tape to) k a
kept_agree tape ys f stack (control.Wait code) to k a = agree_same (list tape) (labels_ahead tape (f ∷ stack)) ys (labels_ahead tape to) k a
kept_agree tape ys f stack control.End to k a = agree_same (list tape) (labels_ahead tape (f ∷ stack)) ys (labels_ahead tape to) k a
kept_agree tape ys f stack (control.Call q r) to k a = agree_same (list tape) (labels_ahead tape (f ∷ stack)) ys (labels_ahead tape to) k a
kept_agree tape ys f stack (control.BackTo n) to k a = agree_same (list tape) (labels_ahead tape (f ∷ stack)) ys (labels_ahead tape to) k a
kept_agree tape ys f (g ∷ stack) control.Back to k a = agree_same (list tape) (labels_ahead tape (f ∷ g ∷ stack)) ys (labels_ahead tape to) k a
kept_agree tape ys f [] control.Back to k a = agree_again (list tape) (labels_ahead tape (f ∷ [])) ys (labels_ahead tape to) k.0 k.1 a

-- A step of a path leads to a place and keeps the agreement.
pub step_keeps : (tape : List ControlProgram) → KeepsLabels tape → (ys : List Label) (from to : List Frame) → IsPlace tape from → Step tape from to
    → Agree (list tape) (labels_ahead tape from) ys → IsPlace tape to × Agree (list tape) (labels_ahead tape to) ys
step_keeps tape law ys [] to place step a = absurd place
step_keeps tape law ys (f ∷ stack) to place (c, is, goes) a =
    let k = law.step f stack place c is to goes in (k.0, kept_agree tape ys f stack c to k.1 a)

-- A step that does to the labels ahead what `Kept` says leaves what was met as it was, also if it
-- leads back to the start.
kept_met : (tape : List ControlProgram) (met : List ℕ) (f : Frame) (stack : List Frame) (c : Control) (to : List Frame)
    → Kept tape f stack c to → AreMet (list tape) met (labels_ahead tape (f ∷ stack)) → AreMet (list tape) met (labels_ahead tape to)
kept_met tape met f stack control.Next to k a = rw k a
kept_met tape met f stack (control.Goto n) to k a = rw k a
kept_met tape met f stack (control.While m) to k a = rw k a
kept_met tape met f stack (control.Do m) to k a = rw k a
kept_met tape met f stack (control.EndLoop m) to k a = rw k a
kept_met tape met f stack (control.Wait code) to k a = rw k a
kept_met tape met f stack control.End to k a = rw k a
kept_met tape met f stack (control.Call q r) to k a = rw k a
kept_met tape met f stack (control.BackTo n) to k a = rw k a
kept_met tape met f (g ∷ stack) control.Back to k a = rw k a
kept_met tape met f [] control.Back to k a =
    rw k.1 (anew met (subst (λ xs. AreMet (list tape) met xs) k.0 a))

-- A step of a path leaves what was met as it was.
step_met : (tape : List ControlProgram) → KeepsLabels tape → (met : List ℕ) (from to : List Frame) → IsPlace tape from → Step tape from to
    → AreMet (list tape) met (labels_ahead tape from) → AreMet (list tape) met (labels_ahead tape to)
step_met tape law met [] to place step a = absurd place
step_met tape law met (f ∷ stack) to place (c, is, goes) a = kept_met tape met f stack c to (law.step f stack place c is to goes).1 a

-- What each step of the pair keeps.
record IsSound (left right : List ControlProgram) (p : Paths) : Type 0 where
  -- Path 1 stands at a place of its tape.
  first : IsPlace left p.first
  -- Path 2 stands at a place of its tape.
  second : IsPlace right p.second
  -- The labels ahead of both agree.
  agree : Agree (list left) (labels_ahead left p.first) (labels_ahead right p.second)
  -- The waits of the list before the labels ahead of path 1 were met.
  met : AreMet (list left) p.met (labels_ahead left p.first)

-- The law of one path holds of both tapes, and their lists of labels are equal.
pub record IsLawfulPair (left right : List ControlProgram) : Type 0 where
  -- The law of one path holds of the tape of path 1.
  pub first : KeepsLabels left
  -- The law of one path holds of the tape of path 2.
  pub second : KeepsLabels right
  -- Their lists of labels are equal.
  pub equal : list left ≡ list right

-- Two waits at which both paths stand are of one code, and behind them the labels ahead are the
-- same.
meeting : (left right : List ControlProgram) → IsLawfulPair left right → (p : Paths) → IsSound left right p → (code there : ℕ)
    → IsAtWait left p.first code → IsAtWait right p.second there → (code ≡ there) × (labels_ahead left (place_behind p.first) ≡ labels_ahead right (place_behind p.second))
meeting left right pair p s code there is other =
    agree_waits (list left) (labels_ahead left (place_behind p.first)) (labels_ahead right (place_behind p.second)) code there
    (rw (← (pair.first.wait p.first code s.first is).1, ← (pair.second.wait p.second there s.second other).1) (s.agree))

-- Each step of the pair keeps `IsSound`.
goes_sound : (left right : List ControlProgram) → IsLawfulPair left right → (from to : Paths) → IsSound left right from
    → Goes left right from to → IsSound left right to
goes_sound left right pair from to s (one step stays same) =
    let k = step_keeps left pair.first (labels_ahead right from.second) from.first to.first s.first step s.agree in
    record {
      first = k.0;
      second = rw stays (s.second);
      agree = rw stays (k.1);
      met = rw same (step_met left pair.first from.met from.first to.first s.first step s.met);
    }
goes_sound left right pair from to s (two stays step same) =
    let turned : Agree (list right) (labels_ahead right from.second) (labels_ahead left from.first) =
    subst (λ all. Agree all (labels_ahead right from.second) (labels_ahead left from.first)) pair.equal
    (agree_swap (list left) (labels_ahead left from.first) (labels_ahead right from.second) s.agree) in
    let k = step_keeps right pair.second (labels_ahead left from.first) from.second to.second s.second step turned in
    let back : Agree (list left) (labels_ahead left from.first) (labels_ahead right to.second) =
    agree_swap (list left) (labels_ahead right to.second) (labels_ahead left from.first)
    (subst (λ all. Agree all (labels_ahead right to.second) (labels_ahead left from.first)) (sym pair.equal) k.1) in
    record { first = rw stays (s.first); second = k.0; agree = rw stays back; met = rw (stays, same) (s.met) }
goes_sound left right pair from to s (meet code there is other here beyond more) =
    let k = pair.first.wait from.first code s.first is in
    record {
      first = rw here (k.0);
      second = rw beyond ((pair.second.wait from.second there s.second other).0);
      agree = inl (rw (here, beyond) ((meeting left right pair from s code there is other).1));
      met = rw (here, more) (one_more from.met code (labels_ahead left (place_behind from.first))
          (subst (λ xs. AreMet (list left) from.met xs) k.1 s.met));
    }

-- At a beginning `IsSound` holds.
beginning_sound : (left right : List ControlProgram) → IsLawfulPair left right → (p : Paths) → IsBeginning left right p
    → IsSound left right p
beginning_sound left right pair p at = record {
  first = rw at.first (refl, refl);
  second = rw at.second (refl, refl);
  agree = inl (rw (at.first, at.second) (pair.equal));
  met = rw (at.first, at.met) none;
}

-- Path 1 does not stand at a wait while path 2 stands at an end.
first_not_alone : (left right : List ControlProgram) → IsLawfulPair left right → (p : Paths) → IsSound left right p → (code : ℕ)
    → IsAtWait left p.first code → IsAtEnd right p.second → ⊥
first_not_alone left right pair p s code is end = agree_end (list left) (labels_ahead left (place_behind p.first)) code
    (rw (← (pair.first.wait p.first code s.first is).1, ← pair.second.ends p.second s.second end) (s.agree))

-- Path 2 does not stand at a wait while path 1 stands at an end.
second_not_alone : (left right : List ControlProgram) → IsLawfulPair left right → (p : Paths) → IsSound left right p → (code : ℕ)
    → IsAtEnd left p.first → IsAtWait right p.second code → ⊥
second_not_alone left right pair p s code end is = agree_end (list left) (labels_ahead right (place_behind p.second)) code
    (rw (← (pair.second.wait p.second code s.second is).1, ← pair.first.ends p.first s.first end)
    (agree_swap (list left) (labels_ahead left p.first) (labels_ahead right p.second) s.agree))

-- If no path waits for one that has ended, the pair has ended, goes on, or has an alarm.
not_stuck : (left right : List ControlProgram) (p : Paths)
    → ((code : ℕ) → IsAtWait left p.first code → IsAtEnd right p.second → ⊥)
    → ((code : ℕ) → IsAtEnd left p.first → IsAtWait right p.second code → ⊥)
    → Way left p.first → Way right p.second → EndsOrGoesOn left right p
not_stuck left right p alone other (steps to step) way = goes_on (record p { first = to }) (one step refl refl)
not_stuck left right p alone other (alarms alarm) way = first_alarm alarm
not_stuck left right p alone other (waits code is) (steps to step) = goes_on (record p { second = to }) (two refl step refl)
not_stuck left right p alone other (waits code is) (alarms alarm) = second_alarm alarm
not_stuck left right p alone other (waits code is) (waits there beyond) =
    goes_on (record { first = place_behind p.first; second = place_behind p.second; met = p.met ++ code ∷ [] })
    (meet code there is beyond refl refl refl)
not_stuck left right p alone other (waits code is) (ends end) = absurd (alone code is end)
not_stuck left right p alone other (ends end) (steps to step) = goes_on (record p { second = to }) (two refl step refl)
not_stuck left right p alone other (ends end) (alarms alarm) = second_alarm alarm
not_stuck left right p alone other (ends end) (waits code is) = absurd (other code end is)
not_stuck left right p alone other (ends end) (ends beyond) = ended end beyond

-- If `IsSound` holds, neither path waits in vain.
free : (left right : List ControlProgram) → IsLawfulPair left right → (p : Paths) → IsSound left right p → IsFree left right p
free left right pair p s = record {
  unstuck = not_stuck left right p (first_not_alone left right pair p s) (second_not_alone left right pair p s)
      (way_of left p.first) (way_of right p.second);
  same = λ code there is other. (meeting left right pair p s code there is other).0;
  first_alone = first_not_alone left right pair p s;
  second_alone = second_not_alone left right pair p s;
  met = s.met;
}

-- `IsSound` holds wherever steps lead from a beginning.
reached_sound : (left right : List ControlProgram) → IsLawfulPair left right → (p : Paths) → IsReached left right p → IsSound left right p
reached_sound left right pair _ (begun p begins) = beginning_sound left right pair p begins
reached_sound left right pair _ (gone from to before goes) =
    goes_sound left right pair from to (reached_sound left right pair from before) goes

-- A pair that is lawful never waits in vain.
pub never_stuck : (left right : List ControlProgram) → IsLawfulPair left right → IsNeverStuck left right
never_stuck left right pair p reached = free left right pair p (reached_sound left right pair p reached)
