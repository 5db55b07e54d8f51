-- Two paths over the orders of their blocks: where they stand, their steps and their meetings, and
-- that neither waits in vain. Of a block only its control counts. A label is a wait or an end that
-- the other path can notice; `Again` stands for the main program's new beginning, `Off` for the
-- place past a last block. The law `no_pair_waits_in_vain` is said in them.
use Rattle.std.specs.Prelude.{◌≡◌, ℕ, List, [], ◌∷◌, ◌++◌, Some}
use Rattle.block_order.specs.declared.control.Control.TheVariants.{Wait, End}
use Rattle.block_order.specs.declared.frame.Frame.{Frame}
use Rattle.block_order.specs.declared.label.Label.{Label}
use Rattle.block_order.specs.declared.label.Label.TheVariants as label
use Rattle.block_order.specs.declared.program.ControlProgram.{ControlProgram}
use Rattle.block_order.specs.Labels.{labels_ahead, list, start, IsUnforked}
use Rattle.block_order.specs.Steps.{Step, control_of_place, place_behind}

-- Where both paths stand, and the codes of the waits at which they met.
pub record Paths : Type 0 where
  -- The place of path 1.
  pub first : List Frame
  -- The place of path 2.
  pub second : List Frame
  -- The codes of the meetings so far, in their order.
  pub met : List ℕ

-- A path stands at a wait of this code.
abbrev pub IsAtWait : List ControlProgram → List Frame → ℕ → Type 0
IsAtWait tape place code = control_of_place tape place ≡ Some (Wait code)

-- A path stands at an end, from which no step leads.
abbrev pub IsAtEnd : List ControlProgram → List Frame → Type 0
IsAtEnd tape place = control_of_place tape place ≡ Some End

-- One step of a pair: a block of a path, which is no wait and no end, leads where the order of its
-- blocks allows; or both paths stand at waits, of whatever codes, and pass them.
pub data Goes (left right : List ControlProgram) (from to : Paths) : Type 0 where
  -- Path 1 makes a step.
  one : Step left from.first to.first → to.second ≡ from.second → to.met ≡ from.met → Goes left right from to
  -- Path 2 makes a step.
  two : to.first ≡ from.first → Step right from.second to.second → to.met ≡ from.met → Goes left right from to
  -- Both paths pass the waits at which they stand; the meeting is noted by the code of path 1.
  meet : (code there : ℕ) → IsAtWait left from.first code → IsAtWait right from.second there
      → to.first ≡ place_behind from.first → to.second ≡ place_behind from.second → to.met ≡ from.met ++ code ∷ [] → Goes left right from to

-- Both paths stand at the start of their main programs, and have not met.
pub record IsBeginning (left right : List ControlProgram) (paths : Paths) : Type 0 where
  -- Path 1 stands at its start.
  pub first : paths.first ≡ start left
  -- Path 2 stands at its start.
  pub second : paths.second ≡ start right
  -- The paths have not met.
  pub met : paths.met ≡ []

-- Some number of steps leads from a beginning to where the paths stand.
pub data IsReached (left right : List ControlProgram) : Paths → Type 0 where
  -- A beginning is reached by no step.
  begun : (paths : Paths) → IsBeginning left right paths → IsReached left right paths
  -- What one step more leads to is reached.
  gone : (from to : Paths) → IsReached left right from → Goes left right from to → IsReached left right to

-- Each of two tapes has one list of labels, whatever its variables hold, and these are equal.
pub record IsPair (left right : List ControlProgram) : Type 0 where
  -- The tape of path 1 has one list of labels.
  pub left_unforked : IsUnforked left
  -- The tape of path 2 has one list of labels.
  pub right_unforked : IsUnforked right
  -- Both lists are equal.
  pub equal : list left ≡ list right

-- The paths met by these codes, one after another as the list of labels `all` has its waits, which
-- begins anew after `Again`; and these labels are still ahead.
pub data AreMet (all : List Label) : List ℕ → List Label → Type 0 where
  -- At first all labels are ahead.
  none : AreMet all [] all
  -- If a wait is next, it is met, and the rest stays ahead.
  one_more : (met : List ℕ) (code : ℕ) (rest : List Label) → AreMet all met (label.Wait code ∷ rest) → AreMet all (met ++ code ∷ []) rest
  -- If `Again` alone is ahead, the list begins anew.
  anew : (met : List ℕ) → AreMet all met (label.Again ∷ []) → AreMet all met all

-- The path stands at an alarm: its block is no wait and no end, and yet no step leads on. The place is
-- past the last block of its program, or a loop's end, a call or a jump back leads nowhere.
pub record IsAtAlarm (tape : List ControlProgram) (place : List Frame) : Type 0 where
  -- It stands at no wait.
  pub no_wait : (code : ℕ) → IsAtWait tape place code → ⊥
  -- It stands at no end.
  pub no_end : IsAtEnd tape place → ⊥
  -- No step leads on.
  pub no_step : (to : List Frame) → Step tape place to → ⊥

-- Both paths have ended, or the pair can take a step, or a path stands at an alarm, which stops both.
pub data EndsOrGoesOn (left right : List ControlProgram) (paths : Paths) : Type 0 where
  -- Both paths have ended.
  ended : IsAtEnd left paths.first → IsAtEnd right paths.second → EndsOrGoesOn left right paths
  -- A step of the pair leads on.
  goes_on : (to : Paths) → Goes left right paths to → EndsOrGoesOn left right paths
  -- Path 1 stands at an alarm.
  first_alarm : IsAtAlarm left paths.first → EndsOrGoesOn left right paths
  -- Path 2 stands at an alarm.
  second_alarm : IsAtAlarm right paths.second → EndsOrGoesOn left right paths

-- An unfinished pair can take a step or has an alarm, two waits at which both paths stand are of one
-- code, no path waits for one that has ended, and the meetings are those of the list.
pub record IsFree (left right : List ControlProgram) (paths : Paths) : Type 0 where
  -- Both have ended, or the pair can take a step, or a path stands at an alarm.
  pub unstuck : EndsOrGoesOn left right paths
  -- If both stand at waits, these are of one code.
  pub same : (code there : ℕ) → IsAtWait left paths.first code → IsAtWait right paths.second there → code ≡ there
  -- Path 1 does not stand at a wait while path 2 stands at an end.
  pub first_alone : (code : ℕ) → IsAtWait left paths.first code → IsAtEnd right paths.second → ⊥
  -- Path 2 does not stand at a wait while path 1 stands at an end.
  pub second_alone : (code : ℕ) → IsAtEnd left paths.first → IsAtWait right paths.second code → ⊥
  -- The meetings so far are those of the list of labels up to the labels ahead of path 1.
  pub met : AreMet (list left) paths.met (labels_ahead left paths.first)

-- Wherever steps lead from a beginning, neither path waits in vain.
abbrev pub IsNeverStuck : List ControlProgram → List ControlProgram → Type 0
IsNeverStuck left right = (paths : Paths) → IsReached left right paths → IsFree left right paths
