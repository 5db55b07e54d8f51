-- Where a path can stand, by the block at its place: at a wait, at an end, before a step that leads
-- on, or at an alarm. There is no fifth.
use Rattle.std.proofs.Common.{◌≡◌, ℕ, inl, List, Option, Some, None, Result, Ok, Err, refl, subst}
use Rattle.block_order.specs.declared.control.Control.{Control}
use Rattle.block_order.specs.declared.control.Control.TheVariants.{Next, Goto, While, Do, EndLoop, Wait, End, Call, Back, BackTo}
use Rattle.block_order.specs.declared.frame.Frame.{Frame}
use Rattle.block_order.specs.declared.program.ControlProgram.{ControlProgram}
use Rattle.block_order.specs.Moves.{place_of_head, place_of_call, place_of_return, place_of_jump_back}
use Rattle.block_order.specs.Steps.{Goes, Step, control_of_place, place_behind}
use Rattle.pair_order.specs.Pairs.{IsAtWait, IsAtEnd, IsAtAlarm}

-- Where a path stands.
pub data Way (tape : List ControlProgram) (place : List Frame) : Type 0 where
  -- At a wait of this code.
  waits : (code : ℕ) → IsAtWait tape place code → Way tape place
  -- At an end.
  ends : IsAtEnd tape place → Way tape place
  -- Before a step that leads on.
  steps : (to : List Frame) → Step tape place to → Way tape place
  -- At an alarm.
  alarms : IsAtAlarm tape place → Way tape place

-- A block of this control, from which nothing leads on, lets no step go.
no_step : (tape : List ControlProgram) (place : List Frame) (c : Control) → control_of_place tape place ≡ Some c
    → ((to : List Frame) → Goes tape place c to → ⊥) → (to : List Frame) → Step tape place to → ⊥
no_step tape place c at none to (d, is, goes) =
    let same : d ≡ c = cc in none to (subst (λ e. Goes tape place e to) same goes)

-- At a block that is no wait and no end, and from which nothing leads on, a path stands at an alarm.
alarm_at : (tape : List ControlProgram) (place : List Frame) (c : Control) → control_of_place tape place ≡ Some c
    → ((code : ℕ) → c ≡ Wait code → ⊥) → (c ≡ End → ⊥) → ((to : List Frame) → Goes tape place c to → ⊥) → IsAtAlarm tape place
alarm_at tape place c at no_wait no_end none = record {
  no_wait = λ code is. no_wait code (cc);
  no_end = λ is. no_end (cc);
  no_step = no_step tape place c at none;
}

-- Past the last block of its program no step leads on.
none_past_the_end : (tape : List ControlProgram) (place : List Frame) → control_of_place tape place ≡ None → (to : List Frame)
    → Step tape place to → ⊥
none_past_the_end tape place none to (d, is, goes) = cc

-- Past the last block of its program a path stands at an alarm.
past_the_end : (tape : List ControlProgram) (place : List Frame) → control_of_place tape place ≡ None → IsAtAlarm tape place
past_the_end tape place none = record {
  no_wait = λ code is. cc;
  no_end = λ is. cc;
  no_step = none_past_the_end tape place none;
}

-- A block leads to the place that was found for it, or nowhere if none was.
way_to : {E : Type 0} (tape : List ControlProgram) (place : List Frame) (found : Result (List Frame) E)
    → ((to : List Frame) → found ≡ Ok to → Way tape place) → ((fault : E) → found ≡ Err fault → Way tape place) → Way tape place
way_to tape place (Ok to) leads stops = leads to refl
way_to tape place (Err fault) leads stops = stops fault refl

-- What was not found is not there.
not_both : {E : Type 0} (found : Result (List Frame) E) (fault : E) → found ≡ Err fault → (to : List Frame) → found ≡ Ok to → ⊥
not_both found fault lost to there = cc

-- Where a path stands at a block of this control, or at none.
way_at : (tape : List ControlProgram) (place : List Frame) (c : Option Control) → control_of_place tape place ≡ c → Way tape place
way_at tape place None at = alarms (past_the_end tape place at)
way_at tape place (Some Next) at = steps (place_behind place) (Next, at, refl)
way_at tape place (Some (Goto n)) at = steps (place_behind place) (Goto n, at, inl refl)
way_at tape place (Some (While m)) at = steps (place_behind place) (While m, at, inl refl)
way_at tape place (Some (Do m)) at = steps (place_behind place) (Do m, at, refl)
way_at tape place (Some (EndLoop m)) at = way_to tape place (place_of_head tape place)
    (λ to found. steps to (EndLoop m, at, found))
    (λ fault lost. alarms (alarm_at tape place (EndLoop m) at (λ code same. cc) (λ same. cc)
    (not_both (place_of_head tape place) fault lost)))
way_at tape place (Some (Wait code)) at = waits code at
way_at tape place (Some End) at = ends at
way_at tape place (Some (Call program repeats)) at = way_to tape place (place_of_call program repeats place)
    (λ to found. steps to (Call program repeats, at, found))
    (λ fault lost. alarms (alarm_at tape place (Call program repeats) at (λ code same. cc) (λ same. cc)
    (not_both (place_of_call program repeats place) fault lost)))
way_at tape place (Some Back) at = steps (place_of_return place) (Back, at, refl)
way_at tape place (Some (BackTo n)) at = way_to tape place (place_of_jump_back tape n place)
    (λ to found. steps to (BackTo n, at, found))
    (λ fault lost. alarms (alarm_at tape place (BackTo n) at (λ code same. cc) (λ same. cc)
    (not_both (place_of_jump_back tape n place) fault lost)))

-- Where a path stands.
pub way_of : (tape : List ControlProgram) (place : List Frame) → Way tape place
way_of tape place = way_at tape place (control_of_place tape place) refl
