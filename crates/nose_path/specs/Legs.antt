-- The legs of the path of a nose, in 0.0005 mm: along each line, and where they meet.
use Rattle.std.specs.Prelude.{◌≡◌, ℕ, suc, ◌+◌, ◌*◌, ◌/◌, ◌-◌, ◌<◌, ◌≤◌, Bool, true, false, ◌&&◌, if◌then◌else◌, List, [], ◌∷◌, ℤ, pos, ◌+ℤ◌, unsigned_abs, int_lt, int_le, Option, Some, None, Result, Ok, Err}
use Rattle.nc_number.specs.Options.{◌>>=◌}
use Rattle.plane_ways.specs.declared.place.Place.{Place}
use Rattle.plane_ways.specs.declared.place.Line.{Line}
use Rattle.plane_ways.specs.declared.meeting.Meeting.{Meeting}
use Rattle.plane_ways.specs.Meetings.{wide_meeting, sharp_meeting}
use Rattle.plane_ways.specs.declared.place.TheConstants.{FAR}
use Rattle.plane_ways.specs.Plane.{way, dot, turned, times, plus, IsWithin}
use Rattle.plane_ways.specs.Steps.{stepped, near_place, is_same, direction, length_of}
use Rattle.nose_path.specs.declared.nose.Nose.{Nose}
use Rattle.nose_path.specs.declared.nose.StartUp.{StartUp}
use Rattle.nose_path.specs.declared.nose.StartUp.TheVariants.{Square, Cornered}
use Rattle.nose_path.specs.declared.nose.Turn.{Turn}
use Rattle.nose_path.specs.declared.nose.Step.{Step}
use Rattle.nose_path.specs.declared.nose.Ends.{Ends}
use Rattle.nose_path.specs.declared.nose.TheConstants.{OFF}
use Rattle.nose_path.specs.declared.nose.NoseFault.{NoseFault}
use Rattle.nose_path.specs.declared.nose.NoseCause.{NoseCause}
use Rattle.nose_path.specs.declared.nose.NoseCause.TheVariants.{NoLength, UsedUp, TooNear}
use Rattle.nose_path.specs.Paths.{near_move}
use Rattle.nose_path.specs.Beside.{keeps_beside}

-- at p, a radius beside a line of direction d
abbrev pub beside : Nose → Place → Place → Option Place
beside nose p d = near_place (stepped p (times nose.radius (turned nose.side d)) (length_of d))

-- where both lines meet that were moved by the radius, at the corner p
abbrev pub met_at : Nose → Place → Meeting → Option Place
met_at nose p m = near_place (stepped p (times nose.radius m.by) m.parts)

-- where both moved lines meet, at a corner p of 90 degrees or less between directions d and e
abbrev pub meeting : Nose → Place → Place → Place → Option Place
meeting nose p d e = met_at nose p (wide_meeting nose.side d e)

-- where they meet at an inner corner of more than 90 degrees
abbrev pub notch : Nose → Place → Place → Place → Option Place
notch nose p d e = met_at nose p (sharp_meeting nose.side d e)

-- at an outer corner of more than 90 degrees the leg before it goes a radius past it
abbrev pub past : Nose → Place → Place → Option Place
past nose p d = near_place (stepped p (times nose.radius (plus (turned nose.side d) d)) (length_of d))

-- and the leg behind it begins a radius before it
abbrev pub before : Nose → Place → Place → Option Place
before nose p e = near_place (stepped p (times nose.radius (way e (turned nose.side e))) (length_of e))

-- both ends of a corner are near enough
abbrev pub IsNearTurn : Turn → Type 0
IsNearTurn turn = IsWithin FAR turn.to × IsWithin FAR turn.from

-- the leg before a corner and the one behind it end and begin at this place, if there is one
abbrev pub at_one : Option Place → Option Turn
at_one place = do
  at ← place
  Some (record { to = at; from = at })

-- a corner with a leg past it and a leg from before it
abbrev pub round_end : Nose → Place → Place → Place → Option Turn
round_end nose p d e = do
  to ← past nose p d
  from ← before nose p e
  Some (record { to = to; from = from })

-- where the legs before and behind the corner p end and begin
unfoldable pub turn_at : Nose → Place → Place → Place → Option Turn
turn_at nose p d e =
    if int_le (pos 0) (dot d e)
    then at_one (meeting nose p d e)
    else if int_lt (pos 0) (dot (turned nose.side d) e)
    then at_one (notch nose p d e)
    else round_end nose p d e

-- the tool stands beside the contour's line at p
abbrev pub square_on : Nose → Place → Place → Option Turn
square_on nose p d = at_one (beside nose p d)

-- compensation begins and ends at an outer corner as at any other: type B
abbrev pub is_cornered : StartUp → Bool
is_cornered Square = false
is_cornered Cornered = true

-- the corner p at which compensation begins or ends, from direction d to e; `own` is that of the
-- contour's line. An outer corner is as any other where the control has type B; else, and in type A,
-- the tool stands beside the contour's line
unfoldable pub open_corner : Nose → Place → Place → Place → Place → Option Turn
open_corner nose p d e own =
    if is_cornered nose.start_up && int_le (dot (turned nose.side d) e) (pos 0) then turn_at nose p d e else square_on nose p own

-- the corner p at which compensation begins, from this direction, if there is one
abbrev pub first_turn : Nose → Place → Option Place → Place → Option Turn
first_turn nose p None own = square_on nose p own
first_turn nose p (Some d) own = open_corner nose p d own own

-- the corner p at which compensation ends, to this direction, if there is one
abbrev pub last_turn : Nose → Place → Place → Option Place → Option Turn
last_turn nose p own None = square_on nose p own
last_turn nose p own (Some e) = open_corner nose p own e own

-- the leg, if it keeps beside the line from p to q
abbrev pub kept : Nose → Place → Place → Line → Option Line
kept nose p q leg = if keeps_beside nose.side nose.radius p q leg then Some leg else None

-- the leg from `at` beside the line from p to q, before a line to t, and where the next one begins
abbrev pub leg_before : Nose → Place → Place → Place → Place → Option Step
leg_before nose at p q t = do
  d ← direction p q
  e ← direction q t
  turn ← turn_at nose q d e
  leg ← kept nose p q (record { from = at; to = turn.to })
  Some (record { leg = leg; from = turn.from })

-- the leg from `at` beside the last line, from p to q, and where the one that leads off begins
abbrev pub last_leg : Nose → Ends → Place → Place → Place → Option Step
last_leg nose ends at p q = do
  own ← direction p q
  turn ← last_turn nose q own (direction q ends.after)
  leg ← kept nose p q (record { from = at; to = turn.to })
  Some (record { leg = leg; from = turn.from })

-- the legs after a leg that is there: if one of them is not, its number counts this leg too
abbrev pub after_leg : Line → Result (List Line) ℕ → Result (List Line) ℕ
after_leg leg (Ok legs) = Ok (leg ∷ legs)
after_leg leg (Err number) = Err (suc number)

-- what is made of a step, or that the leg of number 0 is not there
abbrev pub step_or : Option Step → (Step → Result (List Line) ℕ) → Result (List Line) ℕ
step_or None f = Err 0
step_or (Some step) f = f step

-- the legs from `at` on beside the lines of a contour of the places p and q and those after them,
-- and the one that leads off it; or the number, from 0, of the first that is not there
unfoldable pub legs_from : Nose → Ends → Place → Place → Place → List Place → Result (List Line) ℕ
legs_from nose ends at p q [] =
    step_or (last_leg nose ends at p q) (λ step. Ok (step.leg ∷ record { from = step.from; to = ends.end } ∷ []))
legs_from nose ends at p q (t ∷ points) =
    step_or (leg_before nose at p q t) (λ step. after_leg step.leg (legs_from nose ends step.from q t points))

-- the leg that leads to a contour, and where the first one beside it begins
abbrev pub lead : Nose → Ends → Place → Place → Option Step
lead nose ends p q = do
  own ← direction p q
  turn ← first_turn nose p (direction ends.before p) own
  Some (record { leg = record { from = ends.start; to = turn.to }; from = turn.from })

-- the leg that leads to a contour, those beside its lines, and the one that leads off it; or the
-- number of the first that is not there
unfoldable pub legs_of : Nose → Ends → Place → Place → List Place → Result (List Line) ℕ
legs_of nose ends p q points =
    step_or (lead nose ends p q) (λ step. after_leg step.leg (legs_from nose ends step.from p q points))

-- the places that legs lead from and to
abbrev pub places_of : List Line → List Place
places_of [] = []
places_of (leg ∷ legs) = leg.from ∷ leg.to ∷ places_of legs

-- the leg of the first line without length of a contour of this first place and those after it, if
-- there is one; its first line has the leg n
abbrev pub without_length : ℕ → Place → List Place → Option ℕ
without_length n p [] = None
without_length n p (q ∷ points) = if is_same p q then Some n else without_length (n + 1) q points

-- that there is no path for this reason, at the leg of this number
abbrev pub fault_at : NoseCause → ℕ → Result (List Line) NoseFault
fault_at cause leg = Err (record { cause = cause; leg = leg })

-- the legs, if no move of theirs, with those from leg to leg, comes nearer to the contour than d; each
-- leg has two moves, the second to the next leg
abbrev pub off_or : List Line → Option ℕ → Result (List Line) NoseFault
off_or legs None = Ok legs
off_or legs (Some move) = fault_at TooNear (move / 2)

-- the legs, if all are there and keep off the contour by the radius, less `OFF`
abbrev pub checked : Nose → Place → List Place → Result (List Line) ℕ → Result (List Line) NoseFault
checked nose p points (Err leg) = fault_at UsedUp leg
checked nose p points (Ok legs) = off_or legs (near_move (nose.radius - OFF) (places_of legs) p points)

-- the legs of a path along a contour of this first place and those after it, or why there is no
-- path; its lines have a length
abbrev pub path_along : Nose → Ends → Place → List Place → Result (List Line) NoseFault
path_along nose ends p [] = fault_at NoLength 1
path_along nose ends p (q ∷ points) = checked nose p (q ∷ points) (legs_of nose ends p q points)

-- the path, if no line of the contour is without length
abbrev pub lengthy : Option ℕ → Result (List Line) NoseFault → Result (List Line) NoseFault
lengthy None path = path
lengthy (Some leg) path = fault_at NoLength leg

-- the legs of a path along a contour of this first place and those after it, or why there is no path
abbrev pub path_of : Nose → Ends → Place → List Place → Result (List Line) NoseFault
path_of nose ends p points = lengthy (without_length 1 p points) (path_along nose ends p points)

-- both ends of a leg are near enough
abbrev pub IsNearLeg : Line → Type 0
IsNearLeg leg = IsWithin FAR leg.from × IsWithin FAR leg.to

-- a leg and the place behind it are near enough
abbrev pub IsNearStep : Step → Type 0
IsNearStep step = IsNearLeg step.leg × IsWithin FAR step.from

-- what lies before and behind a contour is near enough
pub record AreNear (ends : Ends) : Type 0 where
  pub start : IsWithin FAR ends.start
  pub before : IsWithin FAR ends.before
  pub after : IsWithin FAR ends.after
  pub end : IsWithin FAR ends.end

-- a corner q of a contour with the places p before it and t behind it: of a radius from 0.002 mm to
-- 1 m, with the directions of its lines, and where its legs end and begin
pub record IsCorner (nose : Nose) (p q t d e : Place) (turn : Turn) : Type 0 where
  pub wide : 4 ≤ nose.radius
  pub small : nose.radius ≤ 2000000
  pub near_p : IsWithin FAR p
  pub near_q : IsWithin FAR q
  pub near_t : IsWithin FAR t
  pub first : direction p q ≡ Some d
  pub second : direction q t ≡ Some e
  pub made : turn_at nose q d e ≡ Some turn
