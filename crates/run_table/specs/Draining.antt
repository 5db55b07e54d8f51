-- When a path has to be drained: its next turn brings it to a wait, for which its turret does not
-- rest yet.
-- No other crate cites this file but Rests of turret_run, but callers meet `resting_behind`,
-- `with_drained` and `FitsRest` in the clauses of `Table` (src/table.rt), and `none_resting` in Begun.
use Rattle.std.specs.Prelude.{◌≡◌, ◌⊎◌, ⊤, ℕ, ◌==◌, Bool, true, false, List, [], ◌∷◌, map, Option, Some, None, if◌then◌else◌}
use Rattle.nc_number.specs.declared.path.Path.{Path}
use Rattle.nc_number.specs.declared.path.Path.TheVariants.{One, Two}
use Rattle.nc_number.specs.Both.{of_path}
use Rattle.nc_moves.specs.declared.alarm.Alarm.{Alarm}
use Rattle.nc_outside.specs.declared.got.Got.{Got}
use Rattle.nc_outside.specs.declared.got.Got.TheVariants.{Moved, Rested}
use Rattle.nc_outside.specs.declared.rest.Rest.TheVariants as rest
use Rattle.nc_outside.specs.Lined.{lined_moves}
use Rattle.block_order.specs.declared.label.Label.{Label}
use Rattle.block_order.specs.declared.label.Label.TheVariants as label
use Rattle.tape_flow.specs.declared.flow.Flow.{Flow}
use Rattle.tape_flow.specs.Places.{label_at}
use Rattle.nc_verify.specs.declared.verified.Verified.{Verified}
use Rattle.two_path.specs.declared.turn.Turn.{Turn}
use Rattle.two_path.specs.declared.turn.Turn.TheVariants as turn
use Rattle.two_path.specs.Machine.{MachineView}
use Rattle.nc_number.specs.declared.both.Both.{Both}
use Rattle.seat_table.specs.Turning.{Draining}
use Rattle.run_table.specs.declared.answer.StepAnswer.{StepAnswer}
use Rattle.run_table.specs.declared.answer.StepAnswer.TheVariants as apart
use Rattle.run_table.specs.declared.answer.TableStep.{TableStep}
use Rattle.run_table.specs.declared.answer.TableStep.TheVariants.{Turned, Drain, Undrained, DiskFault, Halted}
use Rattle.run_table.specs.declared.resting.Resting.{Resting}
use Rattle.run_table.specs.declared.resting.Resting.TheVariants.{Unasked, Asked, Rests}

-- no turret was told to rest for a wait
abbrev pub none_resting : Both Resting
none_resting = record { one = Unasked; two = Unasked }

-- which turrets rest for a wait, with this path's set so
abbrev pub with_resting : Path → Resting → Both Resting → Both Resting
with_resting One is resting = record resting { one = is }
with_resting Two is resting = record resting { two = is }

-- the code of the wait to which a turn brings its path, at which that waits (`Arrived`) or goes on
-- (`Met`)
abbrev pub wait_of : Turn → Option ℕ
wait_of (turn.Arrived code) = Some code
wait_of (turn.Met code) = Some code
wait_of other = None

-- what a turn tells the turret of its path: the moves of its block, or that it rests before the wait
abbrev pub told_in_turn : Turn → List Got
told_in_turn (turn.Did moves) = map Moved (lined_moves moves)
told_in_turn (turn.Ended moves) = map Moved (lined_moves moves)
told_in_turn (turn.Arrived code) = Rested (rest.Wait code) ∷ []
told_in_turn (turn.Met code) = Rested (rest.Wait code) ∷ []
told_in_turn other = []

-- whether a turret rests for a wait behind a turn of its path: not if the turn brought it to one
abbrev pub rest_behind_turn : Turn → Resting → Resting
rest_behind_turn (turn.Arrived code) resting = Unasked
rest_behind_turn (turn.Met code) resting = Unasked
rest_behind_turn other resting = resting

-- whether a turret rests for a wait behind this step of its path
abbrev pub rest_behind : TableStep → Resting → Resting
rest_behind (Drain code) resting = Asked code
rest_behind (Turned turn) resting = rest_behind_turn turn resting
rest_behind other resting = resting

-- which turrets rest for a wait behind this step of the path
abbrev pub resting_behind : Path → TableStep → Both Resting → Both Resting
resting_behind path step resting = with_resting path (rest_behind step (of_path resting path)) resting

-- whether a turret rests for a wait once its path was drained: it does if it was told to
abbrev pub once_rested : Resting → Resting
once_rested Unasked = Unasked
once_rested (Asked code) = Rests code
once_rested (Rests code) = Rests code

-- which turrets rest for a wait once this path was drained
abbrev pub with_drained : Path → Both Resting → Both Resting
with_drained path resting = with_resting path (once_rested (of_path resting path)) resting

-- the rest that a turret was told for a wait that is not recorded yet, if it was told one
abbrev pub rest_told : Resting → List Got
rest_told Unasked = []
rest_told (Asked code) = Rested (rest.Wait code) ∷ []
rest_told (Rests code) = Rested (rest.Wait code) ∷ []

-- whether a path is to be drained, by whether its turret rests and by the code of the wait to which
-- its next turn brings it, if it brings it to one
abbrev pub drains_by : Resting → Option ℕ → Draining
drains_by resting None = Draining.none
drains_by Unasked (Some code) = Draining.due code
drains_by (Asked asked) (Some code) = Draining.asked asked
drains_by (Rests at) (Some code) = Draining.none

-- what is answered instead of its turn to a path that is to be drained
abbrev pub drain_answer : Draining → Option StepAnswer
drain_answer Draining.none = None
drain_answer (Draining.due code) = Some (apart.Drain code)
drain_answer (Draining.asked code) = Some apart.Undrained

-- What a turn may be by whether the turret of its path rests for a wait: it is a wait only if the turret
-- rests for just that wait; and while it rests for one, or was told to, no other turn tells it
-- anything.
abbrev pub FitsTurn : Resting → Turn → Type 0
FitsTurn Unasked turn = wait_of turn ≡ None
FitsTurn (Asked code) turn = (wait_of turn ≡ None) × (told_in_turn turn ≡ [])
FitsTurn (Rests code) turn = (wait_of turn ≡ Some code) ⊎ ((wait_of turn ≡ None) × (told_in_turn turn ≡ []))

-- What a step may be by whether the turret of its path rests for a wait: a turn as above, and a drain
-- only if the turret was not told to rest.
abbrev pub FitsRest : Resting → TableStep → Type 0
FitsRest resting (Turned turn) = FitsTurn resting turn
FitsRest resting (Drain code) = resting ≡ Unasked
FitsRest resting Undrained = ⊤
FitsRest resting DiskFault = ⊤
FitsRest resting (Halted why) = ⊤

-- the flow of the path's tape
abbrev pub flow_for : Verified → Path → Flow
flow_for verified One = verified.left
flow_for verified Two = verified.right

-- The path stands before the wait of this code: that is the label at its place, and it does not wait
-- there yet.
abbrev pub StandsBefore : Verified → MachineView → Path → ℕ → Type 0
StandsBefore verified m path code =
    (label_at (flow_for verified path).order (of_path m.paths path).path.place ≡ Some (label.Wait code))
    × ((of_path m.paths path).waiting ≡ None)

-- a path whose turret rests for a wait, or was told to, stands before that wait
abbrev pub StandsAsTold : Verified → MachineView → Path → Resting → Type 0
StandsAsTold verified m path Unasked = ⊤
StandsAsTold verified m path (Asked code) = StandsBefore verified m path code
StandsAsTold verified m path (Rests code) = StandsBefore verified m path code

-- whether a path may come to a wait of this code: the other path does not wait, or waits at the
-- same code
abbrev pub may_come : ℕ → Option ℕ → Bool
may_come code None = true
may_come code (Some there) = code == there

-- the code of the label if it is that of a wait to which the path may come; the other code is that
-- at which the other path waits
abbrev pub comes_to : Option Label → Option ℕ → Option ℕ
comes_to (Some (label.Wait code)) there = if may_come code there then Some code else None
comes_to other there = None

-- The code of the wait to which the path's next turn brings it: no alarm has stopped it, it has not
-- ended and does not wait, and the label of its block is a wait to which it may come. Given are the
-- alarm, whether it has ended, the code at which it waits, the label, and the code at which the
-- other path waits.
abbrev pub comes_by : Option Alarm → Bool → Option ℕ → Option Label → Option ℕ → Option ℕ
comes_by None false None here there = comes_to here there
comes_by alarm finished waiting here there = None
