-- What is made of a list so far, and what the definition gives for the rest, is the definition of
-- the whole. For the loop of `legs` (src/legs.rt).
use Rattle.std.proofs.Common.{◌≡◌, ℕ, suc, ◌+◌, List, [], ◌∷◌, ◌++◌, Some, None, Ok, Err, Result, length, refl, ap, arith, append_assoc}
use Rattle.std.proofs.lemmas.List.{length_push}
use Rattle.plane_ways.specs.declared.place.Place.{Place}
use Rattle.plane_ways.specs.declared.place.Line.{Line}
use Rattle.nose_path.specs.declared.nose.Step.{Step}
use Rattle.nose_path.specs.declared.nose.Nose.{Nose}
use Rattle.nose_path.specs.declared.nose.Ends.{Ends}
use Rattle.nose_path.specs.Legs.{leg_before, last_leg, lead, after_leg, legs_from, legs_of}

-- the legs after these; if one is not there, its number counts these too
abbrev pub joined : List Line → Result (List Line) ℕ → Result (List Line) ℕ
joined done (Ok legs) = Ok (done ++ legs)
joined done (Err number) = Err (length done + number)

-- the first leg
pub started : (nose : Nose) (ends : Ends) (p q : Place) (points : List Place) (step : Step) → lead nose ends p q ≡ Some step
    → joined (step.leg ∷ []) (legs_from nose ends step.from p q points) ≡ legs_of nose ends p q points
unfolding legs_of
started nose ends p q points step e = rw e (go (legs_from nose ends step.from p q points))
  where
    go : (rest : Result (List Line) ℕ) → joined (step.leg ∷ []) rest ≡ after_leg step.leg rest
    go (Ok legs) = refl
    go (Err number) = let is : 1 + number ≡ suc number = omega arith in ap Err is

-- no first leg
pub not_started : (nose : Nose) (ends : Ends) (p q : Place) (points : List Place) → lead nose ends p q ≡ None
    → legs_of nose ends p q points ≡ Err 0
unfolding legs_of
not_started nose ends p q points e = rw e refl

-- one leg more
pub goes_on : (nose : Nose) (ends : Ends) (done : List Line) (at p q t : Place) (points : List Place) (step : Step) → leg_before nose at p q t ≡ Some step
    → joined (done ++ step.leg ∷ []) (legs_from nose ends step.from q t points) ≡ joined done (legs_from nose ends at p q (t ∷ points))
unfolding legs_from
goes_on nose ends done at p q t points step e = rw e (go (legs_from nose ends step.from q t points))
  where
    go : (rest : Result (List Line) ℕ) → joined (done ++ step.leg ∷ []) rest ≡ joined done (after_leg step.leg rest)
    go (Ok legs) = ap Ok (append_assoc done (step.leg ∷ []) legs)
    go (Err number) = let more = length_push done step.leg in
        let is : length (done ++ step.leg ∷ []) + number ≡ length done + suc number = omega (arith, more) in
        ap Err is

-- no leg more
pub stops : (nose : Nose) (ends : Ends) (done : List Line) (at p q t : Place) (points : List Place) → leg_before nose at p q t ≡ None
    → joined done (legs_from nose ends at p q (t ∷ points)) ≡ Err (length done)
unfolding legs_from
stops nose ends done at p q t points e = rw e (let is : length done + 0 ≡ length done = omega arith in ap Err is)

-- the last legs
pub ended : (nose : Nose) (ends : Ends) (done : List Line) (at p q : Place) (step : Step) → last_leg nose ends at p q ≡ Some step
    → joined done (legs_from nose ends at p q []) ≡ Ok (done ++ step.leg ∷ record { from = step.from; to = ends.end } ∷ [])
unfolding legs_from
ended nose ends done at p q step e = rw e refl

-- no last leg
pub not_ended : (nose : Nose) (ends : Ends) (done : List Line) (at p q : Place) → last_leg nose ends at p q ≡ None
    → joined done (legs_from nose ends at p q []) ≡ Err (length done)
unfolding legs_from
not_ended nose ends done at p q e = rw e (let is : length done + 0 ≡ length done = omega arith in ap Err is)
