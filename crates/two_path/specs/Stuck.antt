-- When two paths can't go on, and the pairs of tapes over which that never happens: the words of
-- the laws `no_pair_is_stuck` and `no_legal_history_is_stuck` (src/laws.rt).
use Rattle.std.specs.Prelude.{◌≡◌, ◌≢◌, ℕ, ◌⊎◌, true, false, List, Some, None, ℤ}
use Rattle.nc_number.specs.declared.cause.Cause.TheVariants.{WaitDiffers}
use Rattle.nc_number.specs.declared.path.Path.{Path}
use Rattle.nc_number.specs.declared.value.Var.{Var}
use Rattle.nc_number.specs.Causes.{cause_number}
use Rattle.nc_number.specs.Both.{of_path}
use Rattle.nc_moves.specs.declared.alarm.Alarm.{Alarm}
use Rattle.block_order.specs.declared.program.ControlProgram.{ControlProgram}
use Rattle.block_order.specs.Labels.{start}
use Rattle.pair_order.specs.Pairs.{IsPair as IsOrderedPair}
use Rattle.run_records.specs.Entries.{Entry}
use Rattle.tape_flow.specs.declared.flow.Flow.{Flow}
use Rattle.path_state.specs.View.{PathView}
use Rattle.path_state.specs.Effect.{AtWait}
use Rattle.path_state.specs.Effect as effect
use Rattle.path_state.specs.Controlled.{IsControlled}
use Rattle.two_path.specs.Machine.{MachineView, own_first, opening}
use Rattle.two_path.specs.Turns.{Blocks, Tapes, tapes_of}
use Rattle.two_path.specs.Histories.{Event, run, fold, IsLegal, is_idle}

-- the machine is stuck: no path can go on, and they have not both ended
pub record IsStuck (m : MachineView) : Type 0 where
  -- there is no alarm
  pub calm : m.alarm ≡ None
  -- some path has not ended
  pub unfinished : (m.paths.one.finished ≡ false) ⊎ (m.paths.two.finished ≡ false)
  -- each path waits or has ended
  pub first : is_idle m.paths.one ≡ true
  pub second : is_idle m.paths.two ≡ true

-- the first path comes to a wait while the other waits at another
pub record IsCrossed (blocks : Blocks) (m : MachineView) : Type 0 where
  -- the code of the wait to which the first path comes
  pub code : ℕ
  -- the code at which the other path waits
  pub there : ℕ
  pub calm : m.alarm ≡ None
  pub comes : blocks.effect m.paths.one.path m.paths.one.values ≡ AtWait code
  pub waits : m.paths.two.waiting ≡ Some there
  pub differs : code ≢ there

-- none of these blocks raises the alarm of two paths that wait at different codes
abbrev pub RaisesNoCrossing : Blocks → Type 0
RaisesNoCrossing blocks = (path : PathView) (values : List Var) (value : ℤ)
    → blocks.effect path values ≢ effect.Alarm (cause_number WaitDiffers) value

-- the paths are not stuck, no wait meets another, and no alarm is that of paths that wait at
-- different codes
pub record IsFree (tapes : Tapes) (m : MachineView) : Type 0 where
  -- the machine is not stuck
  pub stuck : IsStuck m → ⊥
  -- no path comes to a wait while the other waits at another
  pub crossed : (path : Path) → IsCrossed (of_path tapes path) (own_first path m) → ⊥
  -- no alarm is that of paths that wait at different codes
  pub alarm : (alarm : Alarm) → m.alarm ≡ Some alarm → alarm.cause ≢ cause_number WaitDiffers

-- Two flows whose blocks go as their orders allow, and whose lists of labels are equal. Over such a
-- pair no paths get stuck: the law `no_pair_is_stuck`.
pub record IsPair (left right : Flow) : Type 0 where
  -- the blocks of each go as its order allows
  pub left_controlled : IsControlled left
  pub right_controlled : IsControlled right
  -- each has one list of labels, whatever the variables hold, and the two lists are equal
  pub accepted : IsOrderedPair left.order right.order

-- both paths begin their main programs
pub record AreAtStart (left right : List ControlProgram) (first second : PathView) : Type 0 where
  pub one : first.place ≡ start left
  pub two : second.place ≡ start right

-- from the start of both main programs the paths can always go on, whatever the order of events
abbrev pub IsNeverStuck : Flow → Flow → Type 0
IsNeverStuck left right = (first second : PathView) → AreAtStart left.order right.order first second
    → (events : List Event) → IsFree (tapes_of left right) (run (tapes_of left right) (opening first second) events)

-- behind each legal history from the start of both main programs the paths can go on, whoever made
-- the records and wherever they were cut off
abbrev pub IsNeverStuckBehindRecords : Flow → Flow → Type 0
IsNeverStuckBehindRecords left right = (first second : PathView) → AreAtStart left.order right.order first second
    → (entries : List Entry) → IsLegal (tapes_of left right) (opening first second) entries
    → IsFree (tapes_of left right) (fold (tapes_of left right) (opening first second) entries)
