-- What a path keeps: each leg is beside its line, and no place of it is too near to the contour (the
-- law `a_path_keeps_its_radius`, src/law.rt).
use Rattle.std.proofs.Common.{◌≡◌, ℕ, suc, ◌+◌, ◌-◌, ◌/◌, Bool, true, false, List, [], ◌∷◌, Option, Some, None, Result, Ok, Err, cond, refl, subst, ap}
use Rattle.nc_number.specs.Options.{◌>>=◌}
use Rattle.plane_ways.specs.declared.place.Place.{Place}
use Rattle.plane_ways.specs.declared.place.Line.{Line}
use Rattle.plane_ways.specs.Apart.{is_off}
use Rattle.plane_ways.specs.Steps.{direction}
use Rattle.plane_ways.proofs.Strips.{off_holds}
use Rattle.plane_ways.proofs.Lengths.{behind, same_some}
use Rattle.nose_path.specs.declared.nose.Step.{Step}
use Rattle.nose_path.specs.declared.nose.Nose.{Nose}
use Rattle.nose_path.specs.declared.nose.Ends.{Ends}
use Rattle.nose_path.specs.declared.nose.NoseFault.{NoseFault}
use Rattle.nose_path.specs.declared.nose.NoseCause.{NoseCause}
use Rattle.nose_path.specs.declared.nose.TheConstants.{OFF}
use Rattle.nose_path.specs.Paths.{first_near, near_move, AreOff, KeepsOff}
use Rattle.nose_path.specs.Beside.{keeps_beside, IsBeside, AreBeside, HasLegs}
use Rattle.nose_path.specs.Legs.{turn_at, last_turn, kept, leg_before, last_leg, lead, step_or, after_leg, legs_from, legs_of, places_of, off_or, checked, lengthy, without_length, path_along, path_of}
use Rattle.nose_path.proofs.LegsBeside.{leg_is_beside}

-- a test that does not name a move held
held : (b : Bool) (n : ℕ) (rest : Option ℕ) → cond b rest (Some n) ≡ None → (b ≡ true) × (rest ≡ None)
held true n rest e = (refl, e)
held false n rest e = absurd (let wrong : ◌≡◌ {A = Option ℕ} (Some n) None = e in cc)

-- a path off a contour
path_off : (n d : ℕ) (a : Place) (path : List Place) (p : Place) (points : List Place) → first_near n d a path p points ≡ None → AreOff d a path p points
path_off n d a [] p points e = tt
path_off n d a (b ∷ path) p points e =
    let parts = held (is_off d a b p points) n (first_near (n + 1) d b path p points) e in
    (off_holds d a b p points parts.0, path_off (n + 1) d b path p points parts.1)

keeps_holds : (d : ℕ) (path : List Place) (p : Place) (points : List Place) → near_move d path p points ≡ None → KeepsOff d path p points
keeps_holds d [] p points e = tt
keeps_holds d (a ∷ path) p points e = path_off 0 d a path p points e

-- the step from which legs were made was there
step_was : (o : Option Step) (f : Step → Result (List Line) ℕ) (legs : List Line) → step_or o f ≡ Ok legs → (x : Step) × (o ≡ Some x) × (f x ≡ Ok legs)
step_was None f legs e = absurd (let wrong : ◌≡◌ {A = Result (List Line) ℕ} (Err 0) (Ok legs) = e in cc)
step_was (Some x) f legs e = (x, refl, e)

-- so were the legs after a leg
after_was : (leg : Line) (r : Result (List Line) ℕ) (legs : List Line) → after_leg leg r ≡ Ok legs → (rest : List Line) × (r ≡ Ok rest) × (leg ∷ rest ≡ legs)
after_was leg (Ok rest) legs e = (rest, refl, same_ok (leg ∷ rest) legs e)
  where
    same_ok : (x y : List Line) → ◌≡◌ {A = Result (List Line) ℕ} (Ok x) (Ok y) → x ≡ y
    same_ok x y e = cc
after_was leg (Err n) legs e = absurd (let wrong : ◌≡◌ {A = Result (List Line) ℕ} (Err (suc n)) (Ok legs) = e in cc)

-- what is kept was chosen
chosen : {A : Type 0} (b : Bool) (x y : A) → cond b (Some x) None ≡ Some y → (b ≡ true) × (x ≡ y)
chosen true x y e = (refl, some_same x y e)
  where
    some_same : {A : Type 0} (x y : A) → Some x ≡ Some y → x ≡ y
    some_same x y e = cc
chosen false x y e = absurd (let wrong : None ≡ Some y = e in cc)

-- a leg that is kept is beside its line
kept_beside : (nose : Nose) (p q : Place) (leg out : Line) → kept nose p q leg ≡ Some out → IsBeside nose.side nose.radius p q out
kept_beside nose p q leg out e =
    let c = chosen (keeps_beside nose.side nose.radius p q leg) leg out e in
    subst (IsBeside nose.side nose.radius p q) c.1 (leg_is_beside nose.side nose.radius p q leg c.0)

same_ok : (x y : List Line) → ◌≡◌ {A = Result (List Line) ℕ} (Ok x) (Ok y) → x ≡ y
same_ok x y e = cc

-- so is the leg of a step
step_beside : (nose : Nose) (at p q t : Place) (step : Step) → leg_before nose at p q t ≡ Some step → IsBeside nose.side nose.radius p q step.leg
step_beside nose at p q t step e =
    let d = behind (direction p q) _ step e in
    let n = behind (direction q t) _ step d.2 in
    let turn = behind (turn_at nose q d.0 n.0) _ step n.2 in
    let leg = behind (kept nose p q (record { from = at; to = turn.0.to })) _ step turn.2 in
    let is : leg.0 ≡ step.leg = ap (λ (s : Step). s.leg) (same_some (record { leg = leg.0; from = turn.0.from }) step leg.2) in
    subst (IsBeside nose.side nose.radius p q) is (kept_beside nose p q (record { from = at; to = turn.0.to }) leg.0 leg.1)

last_beside : (nose : Nose) (ends : Ends) (at p q : Place) (step : Step) → last_leg nose ends at p q ≡ Some step → IsBeside nose.side nose.radius p q step.leg
last_beside nose ends at p q step e =
    let d = behind (direction p q) _ step e in
    let turn = behind (last_turn nose q d.0 (direction q ends.after)) _ step d.2 in
    let leg = behind (kept nose p q (record { from = at; to = turn.0.to })) _ step turn.2 in
    let is : leg.0 ≡ step.leg = ap (λ (s : Step). s.leg) (same_some (record { leg = leg.0; from = turn.0.from }) step leg.2) in
    subst (IsBeside nose.side nose.radius p q) is (kept_beside nose p q (record { from = at; to = turn.0.to }) leg.0 leg.1)

-- each leg is beside its line
legs_beside : (nose : Nose) (ends : Ends) (at p q : Place) (points : List Place) (legs : List Line) → legs_from nose ends at p q points ≡ Ok legs → AreBeside nose.side nose.radius p q points legs
unfolding legs_from
legs_beside nose ends at p q [] legs e =
    let step = step_was (last_leg nose ends at p q) _ legs e in
    subst (AreBeside nose.side nose.radius p q []) (same_ok _ legs step.2) (last_beside nose ends at p q step.0 step.1)
legs_beside nose ends at p q (t ∷ points) legs e =
    let step = step_was (leg_before nose at p q t) _ legs e in
    let rest = after_was step.0.leg (legs_from nose ends step.0.from q t points) legs step.2 in
    subst (AreBeside nose.side nose.radius p q (t ∷ points)) rest.2 (step_beside nose at p q t step.0 step.1, legs_beside nose ends step.0.from q t points rest.0 rest.1)

all_beside : (nose : Nose) (ends : Ends) (p q : Place) (points : List Place) (legs : List Line) → legs_of nose ends p q points ≡ Ok legs → HasLegs nose.side nose.radius p (q ∷ points) legs
unfolding legs_of
all_beside nose ends p q points legs e =
    let step = step_was (lead nose ends p q) _ legs e in
    let rest = after_was step.0.leg (legs_from nose ends step.0.from p q points) legs step.2 in
    subst (HasLegs nose.side nose.radius p (q ∷ points)) rest.2 (legs_beside nose ends step.0.from p q points rest.0 rest.1)

-- the legs of a path are there, and keep off the contour
off_was : (legs out : List Line) (move : Option ℕ) → off_or legs move ≡ Ok out → (legs ≡ out) × (move ≡ None)
off_was legs out None e = (let same : ◌≡◌ {A = Result (List Line) NoseFault} (Ok legs) (Ok out) = e in cc, refl)
off_was legs out (Some n) e = absurd (let wrong : ◌≡◌ {A = Result (List Line) NoseFault} (Err (record { cause = NoseCause.TooNear; leg = n / 2 })) (Ok out) = e in cc)

checked_holds : (nose : Nose) (p : Place) (points : List Place) (found : Result (List Line) ℕ) (legs : List Line) → checked nose p points found ≡ Ok legs
    → (found ≡ Ok legs) × KeepsOff (nose.radius - OFF) (places_of legs) p points
checked_holds nose p points (Err n) legs e = absurd (let wrong : ◌≡◌ {A = Result (List Line) NoseFault} (Err (record { cause = NoseCause.UsedUp; leg = n })) (Ok legs) = e in cc)
checked_holds nose p points (Ok found) legs e =
    let was = off_was found legs (near_move (nose.radius - OFF) (places_of found) p points) e in (
      ap Ok was.0,
      subst (λ (ls : List Line). KeepsOff (nose.radius - OFF) (places_of ls) p points) was.0 (keeps_holds (nose.radius - OFF) (places_of found) p points was.1),
    )

-- a path is one along lines that have a length
lengthy_was : (leg : Option ℕ) (path : Result (List Line) NoseFault) (legs : List Line) → lengthy leg path ≡ Ok legs → path ≡ Ok legs
lengthy_was None path legs e = e
lengthy_was (Some n) path legs e = absurd (let wrong : ◌≡◌ {A = Result (List Line) NoseFault} (Err (record { cause = NoseCause.NoLength; leg = n })) (Ok legs) = e in cc)

along_keeps_off : (nose : Nose) (ends : Ends) (p : Place) (points : List Place) (legs : List Line) → path_along nose ends p points ≡ Ok legs → KeepsOff (nose.radius - OFF) (places_of legs) p points
along_keeps_off nose ends p [] legs e = absurd (let wrong : ◌≡◌ {A = Result (List Line) NoseFault} (Err (record { cause = NoseCause.NoLength; leg = 1 })) (Ok legs) = e in cc)
along_keeps_off nose ends p (q ∷ points) legs e = (checked_holds nose p (q ∷ points) (legs_of nose ends p q points) legs e).1

along_has_legs : (nose : Nose) (ends : Ends) (p : Place) (points : List Place) (legs : List Line) → path_along nose ends p points ≡ Ok legs → HasLegs nose.side nose.radius p points legs
along_has_legs nose ends p [] legs e = absurd (let wrong : ◌≡◌ {A = Result (List Line) NoseFault} (Err (record { cause = NoseCause.NoLength; leg = 1 })) (Ok legs) = e in cc)
along_has_legs nose ends p (q ∷ points) legs e = all_beside nose ends p q points legs (checked_holds nose p (q ∷ points) (legs_of nose ends p q points) legs e).0

-- no place of a path is too near to the contour
pub path_keeps_off : (nose : Nose) (ends : Ends) (p : Place) (points : List Place) (legs : List Line) → path_of nose ends p points ≡ Ok legs → KeepsOff (nose.radius - OFF) (places_of legs) p points
path_keeps_off nose ends p points legs e = along_keeps_off nose ends p points legs (lengthy_was (without_length 1 p points) (path_along nose ends p points) legs e)

-- each line has its leg beside it
pub path_has_legs : (nose : Nose) (ends : Ends) (p : Place) (points : List Place) (legs : List Line) → path_of nose ends p points ≡ Ok legs → HasLegs nose.side nose.radius p points legs
path_has_legs nose ends p points legs e = along_has_legs nose ends p points legs (lengthy_was (without_length 1 p points) (path_along nose ends p points) legs e)
