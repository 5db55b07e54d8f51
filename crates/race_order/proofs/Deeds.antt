-- What a path does in a run: a machine with an alarm does nothing more. For GoAlike.
use Rattle.std.proofs.Common.{◌≡◌, ◌==◌, ℕ, Bool, true, false, List, [], ◌∷◌, ◌++◌, Option, Some, None, refl, ap, sym, subst, ◌∙◌, if◌then◌else◌}
use Rattle.nc_number.specs.declared.path.Path.{Path}
use Rattle.nc_number.specs.declared.path.Path.TheVariants.{One, Two}
use Rattle.nc_moves.specs.declared.alarm.Alarm.{Alarm}
use Rattle.path_state.specs.View.{PathView}
use Rattle.path_state.specs.Effect.{Effect}
use Rattle.path_state.specs.Effect as effect
use Rattle.two_path.specs.declared.turn.Turn.{Turn}
use Rattle.two_path.specs.declared.turn.Turn.TheVariants as turn
use Rattle.two_path.specs.Machine.{MachineView, own_first}
use Rattle.two_path.specs.Turns.{Blocks, Tapes, TurnResult, result, result_by, result_at_wait, behind_meeting, alarm_result, crossed_waits, unless_idle, block_turn, own_turn, turn_of}
use Rattle.two_path.specs.Histories.{run, turns_of}
use Rattle.race_order.specs.Agreement.{Deed, own_deeds, other_deeds, turn_deeds, deeds_by}

-- neither path does anything in a turn with this answer
record IsIdleTurn (t : Turn) : Type 0 where
  own : (from : PathView) → own_deeds t from ≡ []
  other : (from : PathView) → other_deeds t from ≡ []

-- a turn of a machine with an alarm does nothing and leaves the machine
record DoesNothing (m : MachineView) (r : TurnResult) : Type 0 where
  same : r.machine ≡ m
  idle : IsIdleTurn r.turn

-- behind an alarm the path whose part is first does nothing
halted_does_nothing : (m : MachineView) (o : Option Alarm) (a : Alarm) → o ≡ Some a → (f : Bool) (w : Option ℕ) (r : TurnResult)
    → DoesNothing m (unless_idle m o f w r)
halted_does_nothing m (Some x) a e f w r = record { same = refl; idle = record { own = λ from. refl; other = λ from. refl } }
halted_does_nothing m None a e f w r = absurd cc

-- a turn of a path that raises the alarm of the machine tells nothing
alarm_does_nothing : (b : Blocks) (path : Path) (m : MachineView) (a : Alarm) → m.alarm ≡ None → (own_turn b path m).machine.alarm ≡ Some a
    → IsIdleTurn (own_turn b path m).turn
alarm_does_nothing b path m a calm raised =
    go m.alarm calm m.paths.one.finished m.paths.one.waiting raised
  where
    met : (code : ℕ) (same : Bool)
        → (if same then result (turn.Met code) (behind_meeting m) else alarm_result (crossed_waits path (b.line m.paths.one.path.place)) m).machine.alarm ≡ Some a
        → IsIdleTurn (if same then result (turn.Met code) (behind_meeting m) else alarm_result (crossed_waits path (b.line m.paths.one.path.place)) m).turn
    met code true e = absurd cc
    met code false e = record { own = λ from. refl; other = λ from. refl }

    at_wait : (code : ℕ) (there : Option ℕ) → (result_at_wait path (b.line m.paths.one.path.place) m code there).machine.alarm ≡ Some a
        → IsIdleTurn (result_at_wait path (b.line m.paths.one.path.place) m code there).turn
    at_wait code None e = absurd cc
    at_wait code (Some there) e = met code (code == there) e

    block : (e : Effect) → (result_by path (b.line m.paths.one.path.place) m e).machine.alarm ≡ Some a
        → IsIdleTurn (result_by path (b.line m.paths.one.path.place) m e).turn
    block (effect.Need v) e = absurd cc
    block (effect.Done after w moves) e = absurd cc
    block (effect.AtWait code) e = at_wait code m.paths.two.waiting e
    block (effect.AtEnd after moves) e = absurd cc
    block (effect.Alarm number value) e = record { own = λ from. refl; other = λ from. refl }

    go : (o : Option Alarm) → o ≡ None → (f : Bool) (w : Option ℕ) → (unless_idle m o f w (block_turn b path m)).machine.alarm ≡ Some a
        → IsIdleTurn (unless_idle m o f w (block_turn b path m)).turn
    go (Some x) none f w e = absurd cc
    go None none true w e = absurd cc
    go None none false (Some code) e = absurd cc
    go None none false None e = block (b.effect m.paths.one.path m.paths.one.values) e

-- a turn of either path that raises the machine's alarm tells nothing
raising_does_nothing : (tapes : Tapes) (path : Path) (m : MachineView) (a : Alarm) → m.alarm ≡ None
    → (turn_of tapes path m).machine.alarm ≡ Some a → IsIdleTurn (turn_of tapes path m).turn
raising_does_nothing tapes One m a calm raised = alarm_does_nothing tapes.one One m a calm raised
raising_does_nothing tapes Two m a calm raised = alarm_does_nothing tapes.two Two (own_first Two m) a calm raised

-- behind an alarm a turn of either path does nothing, and leaves the alarm
record IsStill (a : Alarm) (r : TurnResult) : Type 0 where
  alarm : r.machine.alarm ≡ Some a
  idle : IsIdleTurn r.turn

-- behind an alarm no turn does anything
still_behind : (tapes : Tapes) (path : Path) (m : MachineView) (a : Alarm) → m.alarm ≡ Some a → IsStill a (turn_of tapes path m)
still_behind tapes One m a e =
    let all = halted_does_nothing m m.alarm a e m.paths.one.finished m.paths.one.waiting (block_turn tapes.one One m) in
    record { alarm = ap (λ (x : MachineView). x.alarm) all.same ∙ e; idle = all.idle }
still_behind tapes Two m a e =
    let all = halted_does_nothing (own_first Two m) m.alarm a e m.paths.two.finished m.paths.two.waiting (block_turn tapes.two Two (own_first Two m)) in
    record { alarm = ap (λ (x : MachineView). x.alarm) all.same ∙ e; idle = all.idle }

-- no path does anything in a turn in which neither does
idle_deeds : (who path : Path) (r : TurnResult) → IsIdleTurn r.turn → turn_deeds who path r ≡ []
idle_deeds One One r idle = idle.own r.machine.paths.one.path
idle_deeds Two Two r idle = idle.own r.machine.paths.two.path
idle_deeds One Two r idle = idle.other r.machine.paths.one.path
idle_deeds Two One r idle = idle.other r.machine.paths.two.path

-- behind an alarm no path does anything, however many turns follow
halted_deeds : (tapes : Tapes) (who : Path) (m : MachineView) (a : Alarm) → m.alarm ≡ Some a → (turns : List Path) → deeds_by tapes who m turns ≡ []
halted_deeds tapes who m a e [] = refl
halted_deeds tapes who m a e (path ∷ turns) =
    let still = still_behind tapes path m a e in
    let none = idle_deeds who path (turn_of tapes path m) still.idle in
    let rest = halted_deeds tapes who (turn_of tapes path m).machine a still.alarm turns in
    rw (none, rest) refl

-- the first of these turns, by which both paths do all that they do by all, and which raise no alarm
pub record HasCalmFront (tapes : Tapes) (m : MachineView) (turns : List Path) : Type 0 where
  -- these turns
  pub front : List Path
  -- they raise no alarm
  pub calm : (run tapes m (turns_of front)).alarm ≡ None
  -- each path does all by them
  pub deeds : (who : Path) → deeds_by tapes who m front ≡ deeds_by tapes who m turns

-- of any turns some first ones raise no alarm, and by them both paths do all that they do
pub calm_front : (tapes : Tapes) (m : MachineView) → m.alarm ≡ None → (turns : List Path) → HasCalmFront tapes m turns
calm_front tapes m calm [] = record { front = []; calm = calm; deeds = λ who. refl }
calm_front tapes m calm (path ∷ turns) =
    go (turn_of tapes path m).machine.alarm refl (λ still. calm_front tapes (turn_of tapes path m).machine still turns)
  where
    go : (o : Option Alarm) → (turn_of tapes path m).machine.alarm ≡ o
        → ((turn_of tapes path m).machine.alarm ≡ None → HasCalmFront tapes (turn_of tapes path m).machine turns) → HasCalmFront tapes m (path ∷ turns)
    go None e further =
        let more = further e in
        record {
          front = path ∷ more.front;
          calm = more.calm;
          deeds = λ who. ap (λ all. turn_deeds who path (turn_of tapes path m) ++ all) (more.deeds who);
        }
    go (Some a) e further = record {
      front = [];
      calm = calm;
      deeds = λ who.
          let none = idle_deeds who path (turn_of tapes path m) (raising_does_nothing tapes path m a calm e) in
          let rest = halted_deeds tapes who (turn_of tapes path m).machine a e turns in
          rw (none, rest) refl;
    }
