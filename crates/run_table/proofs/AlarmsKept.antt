-- The alarm of a machine after a turn, by what the turn answers; and that a turn that shows
-- something makes a record.
-- TablesKept and the proof of `Table::step_into` (src/table.rt) use it.
use Rattle.std.proofs.Common.{◌≡◌, ℕ, ◌==◌, Bool, true, false, List, length, refl, Option, Some, None}
use Rattle.std.specs.Prelude.{IfSome}
use Rattle.nc_number.specs.declared.path.Path.{Path}
use Rattle.nc_number.specs.declared.path.Path.TheVariants.{One, Two}
use Rattle.nc_moves.specs.declared.alarm.Alarm.{Alarm}
use Rattle.path_state.specs.Effect.{Effect, Need, Done, AtWait, AtEnd}
use Rattle.path_state.specs.Effect as effect
use Rattle.run_records.specs.Entries.{edit_of}
use Rattle.run_records.specs.declared.entry.EntryKind.{EntryKind}
use Rattle.two_path.specs.declared.turn.Turn.{Turn}
use Rattle.two_path.specs.declared.turn.Turn.TheVariants as turn
use Rattle.two_path.specs.Machine.{MachineView, own_first}
use Rattle.two_path.specs.Turns.{Blocks, Tapes, TurnResult, result_at_wait, result_by, unless_idle, block_turn, own_turn, turn_of, kind_of, entry_with}
use Rattle.two_path.specs.Histories.{list_of}
use Rattle.two_path.proofs.Edited.{no_edit}
use Rattle.run_table.specs.Stepping.{is_shown}

-- the alarm after a turn: the one that it answers, or the one from before
abbrev pub alarm_behind : Option Alarm → Turn → Option Alarm
alarm_behind before (turn.Alarm alarm) = Some alarm
alarm_behind before (turn.Read variable stamp) = before
alarm_behind before (turn.Did moves) = before
alarm_behind before (turn.Arrived code) = before
alarm_behind before (turn.Met code) = before
alarm_behind before (turn.Ended moves) = before
alarm_behind before (turn.Waiting code) = before
alarm_behind before turn.Finished = before
alarm_behind before (turn.Halted alarm) = before
alarm_behind before turn.Edited = before

-- the machine's alarm after a turn at a wait is the one that the turn answers, or the one from
-- before
wait_alarm : (path : Path) (line : ℕ) (m : MachineView) (code : ℕ) (o : Option ℕ)
    → (result_at_wait path line m code o).machine.alarm ≡ alarm_behind m.alarm (result_at_wait path line m code o).turn
wait_alarm path line m code None = refl
wait_alarm path line m code (Some there) = go (code == there) refl
  where
    go : (b : Bool) → (code == there) ≡ b → (result_at_wait path line m code (Some there)).machine.alarm ≡ alarm_behind m.alarm (result_at_wait path line m code (Some there)).turn
    go true e = rw e refl
    go false e = rw e refl

-- the machine's alarm after a turn by what its block comes to is the one that the turn answers, or
-- the one from before
by_alarm : (path : Path) (line : ℕ) (m : MachineView) (e : Effect)
    → (result_by path line m e).machine.alarm ≡ alarm_behind m.alarm (result_by path line m e).turn
by_alarm path line m (Need variable) = refl
by_alarm path line m (Done after write moves) = refl
by_alarm path line m (AtWait code) = wait_alarm path line m code m.paths.two.waiting
by_alarm path line m (AtEnd after moves) = refl
by_alarm path line m (effect.Alarm number value) = refl

-- what holds of the alarm after the turn of a block holds after a turn that may instead do nothing,
-- for an alarm, an end or a wait
idle_alarm : (m : MachineView) (a : Option Alarm) (f : Bool) (w : Option ℕ) (rest : TurnResult) → rest.machine.alarm ≡ alarm_behind m.alarm rest.turn
    → (unless_idle m a f w rest).machine.alarm ≡ alarm_behind m.alarm (unless_idle m a f w rest).turn
idle_alarm m (Some alarm) f w rest is = refl
idle_alarm m None true w rest is = refl
idle_alarm m None false (Some code) rest is = refl
idle_alarm m None false None rest is = is

-- the machine's alarm after a turn of the path whose part stands first is the one that it answers,
-- or the one from before
own_alarm : (blocks : Blocks) (path : Path) (m : MachineView) → (own_turn blocks path m).machine.alarm ≡ alarm_behind m.alarm (own_turn blocks path m).turn
own_alarm blocks path m =
    idle_alarm m m.alarm m.paths.one.finished m.paths.one.waiting (block_turn blocks path m)
    (by_alarm path (blocks.line m.paths.one.path.place) m (blocks.effect m.paths.one.path m.paths.one.values))

-- the machine's alarm after any turn is the one that the turn answers, or the one from before
pub turn_alarm : (tapes : Tapes) (path : Path) (m : MachineView) → (turn_of tapes path m).machine.alarm ≡ alarm_behind m.alarm (turn_of tapes path m).turn
turn_alarm tapes One m = own_alarm tapes.one One m
turn_alarm tapes Two m = own_alarm tapes.two Two (own_first Two m)

-- a turn that shows something makes a record
pub shown_made : (path : Path) (stamps : List ℕ) (t : Turn) → is_shown t ≡ true → length (list_of (entry_with path stamps (kind_of t))) ≡ 1
shown_made path stamps (turn.Read variable stamp) shown = absurd cc
shown_made path stamps (turn.Did moves) shown = refl
shown_made path stamps (turn.Arrived code) shown = refl
shown_made path stamps (turn.Met code) shown = refl
shown_made path stamps (turn.Ended moves) shown = refl
shown_made path stamps (turn.Waiting code) shown = absurd cc
shown_made path stamps turn.Finished shown = absurd cc
shown_made path stamps (turn.Alarm alarm) shown = refl
shown_made path stamps (turn.Halted alarm) shown = absurd cc
shown_made path stamps turn.Edited shown = absurd cc

-- the record of a turn is no edit
pub made_step : (path : Path) (stamps : List ℕ) (t : Turn) → IfSome (entry_with path stamps (kind_of t)) (λ e. edit_of e.kind ≡ None)
made_step path stamps t = go (kind_of t) refl
  where
    go : (k : Option EntryKind) → kind_of t ≡ k → IfSome (entry_with path stamps k) (λ e. edit_of e.kind ≡ None)
    go None is = tt
    go (Some k) is = no_edit t k is
