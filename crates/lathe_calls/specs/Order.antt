-- The events of a run whose paths get their turns in the order that a caller gives.
use Rattle.std.specs.Prelude.{◌≡◌, ℕ, ◌==◌, ◌||◌, Bool, true, false, if◌then◌else◌, nat_le, List, [], ◌∷◌, ◌++◌, unwrap_or, map}
use Rattle.std.specs.List.{list_all}
use Rattle.nc_number.specs.declared.path.Path.{Path}
use Rattle.nc_number.specs.declared.path.Path.TheVariants.{One, Two}
use Rattle.nc_outside.specs.declared.reason.Reason.{Reason}
use Rattle.nc_restart.specs.Pair.{IsPairOf, tapes_in, opening_of}
use Rattle.nc_verify.specs.declared.refusal.Refusal.{Refusal}
use Rattle.nc_verify.specs.declared.verified.Verified.{Verified}
use Rattle.nc_verify.specs.Verdict.{Texts, IsRefusalOf}
use Rattle.two_path.specs.Machine.{MachineView}
use Rattle.two_path.specs.Ending.{end_of}
use Rattle.two_path.specs.Turns.{Tapes, turn_of}
use Rattle.two_path.specs.Histories.{IsLegal, history, run, turns_of}
use Rattle.lathe_calls.specs.Statuses as exit
use Rattle.lathe_calls.specs.declared.event.Event.{Event}
use Rattle.lathe_calls.specs.declared.said.Said.{Said}
use Rattle.lathe_calls.specs.Said.{IsSaid}
use Rattle.lathe_calls.specs.Texts.{are_fit}
use Rattle.path_state.specs.Looks.{shift_now}
use Rattle.path_state.specs.View.{PathView}
use Rattle.lathe_calls.specs.Events.{begin_events, events_of_turn}

-- each byte of an order names a path
abbrev pub is_order : List ℕ → Bool
is_order order = list_all (λ byte. byte == 1 || byte == 2) order

-- the path that a byte of an order names
abbrev pub path_at : ℕ → Path
path_at byte = if byte == 2 then Two else One

-- the turns of an order that are given: no more of them once there are as many records as there may
-- be
abbrev pub turns_given : Tapes → ℕ → MachineView → List Path → List Path
turns_given tapes most m [] = []
turns_given tapes most m (path ∷ order) =
    if nat_le most m.count then [] else path ∷ turns_given tapes most (turn_of tapes path m).machine order

-- the events of the turns of these paths, from a machine on
abbrev pub events_from : Tapes → MachineView → List Path → List Event
events_from tapes m [] = []
events_from tapes m (path ∷ order) =
    events_of_turn tapes path m ++ events_from tapes (turn_of tapes path m).machine order

-- how a path begins that stands so
abbrev pub path_begins : Path → PathView → List Event
path_begins path at = begin_events path at.position at.fixed.home (shift_now at)

-- the first events: how both paths begin
abbrev pub first_events : MachineView → List Event
first_events m = path_begins One m.paths.one.path ++ path_begins Two m.paths.two.path

-- how far a run has come that may have so many records: it has ended, or there are so many, or the
-- order is over
abbrev pub end_after : ℕ → MachineView → Reason
end_after most m = unwrap_or (end_of m) (if nat_le most m.count then Reason.Full else Reason.Stopped)

-- The events of two tapes from a machine on, of which the paths get their turns in this order:
-- how both paths begin, and what each turn came to, up to so many records. The records of these
-- turns are one legal history, and the status says how far it has come.
pub record AreEventsFrom (tapes : Tapes) (start : MachineView) (most : ℕ) (order : List Path) (status : ℕ) (list : List Event) : Type 0 where
  -- the records of the turns that are given are a legal history
  pub legal : IsLegal tapes start (history tapes start (turns_of (turns_given tapes most start order)))
  -- the events are how both paths begin, and those of the turns that are given
  pub events : list ≡ first_events start ++ events_from tapes start (turns_given tapes most start order)
  -- the status says how far the run has come
  pub ends : status ≡ exit.reason_status
      (end_after most (run tapes start (turns_of (turns_given tapes most start order))))

-- the events of a pair in this order of turns, up to as many records as its settings allow
abbrev pub AreEventsOf : Verified → List Path → ℕ → List Event → Type 0
AreEventsOf pair order status list = AreEventsFrom (tapes_in pair) (opening_of pair) pair.settings.records order status list

-- What is due to three texts and an order: status 2 if the order has a byte that names no path, 1
-- if the texts are refused, and else the events of their pair.
pub data AreDue (order : List ℕ) (texts : Texts) : ℕ → List Event → Type 0 where
  -- a byte of the order names no path
  disordered : is_order order ≡ false → AreDue order texts exit.usage []
  -- the texts are refused
  refused : {refusal : Refusal} → is_order order ≡ true → IsRefusalOf texts refusal → AreDue order texts exit.refused []
  -- the texts are accepted, as this pair
  ran : (pair : Verified) {status : ℕ} {list : List Event} → is_order order ≡ true → IsPairOf texts pair
      → AreEventsOf pair (map path_at order) status list → AreDue order texts status list

-- what a call says of three texts and an order, and what it leaves in the caller's room
abbrev pub AreToldOf : List ℕ → Texts → List Event → List Event → Said → Type 0
AreToldOf order texts before after it = IsSaid (are_fit texts) (AreDue order texts) before after it
