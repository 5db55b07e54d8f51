-- If both paths have finished there is no alarm: for Runs, which speaks of runs that finish.
use Rattle.std.proofs.Common.{◌≡◌, ℕ, ◌==◌, ◌⊎◌, inl, inr, Bool, true, false, List, [], ◌∷◌, Option, Some, None, refl, if◌then◌else◌}
use Rattle.nc_number.specs.declared.path.Path.{Path}
use Rattle.nc_number.specs.declared.path.Path.TheVariants.{One, Two}
use Rattle.nc_moves.specs.declared.alarm.Alarm.{Alarm}
use Rattle.path_state.specs.View.{PathView}
use Rattle.path_state.specs.Effect.{Effect}
use Rattle.path_state.specs.Effect as effect
use Rattle.two_path.specs.declared.turn.Turn.TheVariants as turn
use Rattle.two_path.specs.Machine.{MachineView, own_first, opening}
use Rattle.two_path.specs.Turns.{Blocks, Tapes, result, result_by, result_at_wait, behind_meeting, alarm_result, crossed_waits, unless_idle, block_turn, own_turn}
use Rattle.two_path.specs.Histories.{TurnOf, behind_event, run, turns_of}

-- if the machine has an alarm, some path has not finished
abbrev Leaves : MachineView → Type 0
Leaves m = (a : Alarm) → m.alarm ≡ Some a → (m.paths.one.finished ≡ false) ⊎ (m.paths.two.finished ≡ false)

-- behind a turn of the path whose part is first, an alarm means that some path has not finished
own_leaves : (b : Blocks) (path : Path) (m : MachineView) → Leaves m → Leaves (own_turn b path m).machine
own_leaves b path m before = go m.alarm refl m.paths.one.finished refl m.paths.one.waiting
  where
    met : m.alarm ≡ None → m.paths.one.finished ≡ false → (code : ℕ) (same : Bool)
        → Leaves (if same then result (turn.Met code) (behind_meeting m) else alarm_result (crossed_waits path (b.line m.paths.one.path.place)) m).machine
    met calm f code true a e = inl f
    met calm f code false a e = inl f

    at_wait : m.alarm ≡ None → m.paths.one.finished ≡ false → (code : ℕ) (there : Option ℕ)
        → Leaves (result_at_wait path (b.line m.paths.one.path.place) m code there).machine
    at_wait calm f code None a e = inl f
    at_wait calm f code (Some there) a e = met calm f code (code == there) a e

    block : m.alarm ≡ None → m.paths.one.finished ≡ false → (e : Effect) → Leaves (result_by path (b.line m.paths.one.path.place) m e).machine
    block calm f (effect.Need v) a e = inl f
    block calm f (effect.Done after None moves) a e = inl f
    block calm f (effect.Done after (Some w) moves) a e = inl f
    block calm f (effect.AtWait code) a e = at_wait calm f code m.paths.two.waiting a e
    block calm f (effect.AtEnd after moves) a e = absurd cc
    block calm f (effect.Alarm number value) a e = inl f

    go : (o : Option Alarm) → m.alarm ≡ o → (f : Bool) → m.paths.one.finished ≡ f → (w : Option ℕ) → Leaves (unless_idle m o f w (block_turn b path m)).machine
    go (Some alarm) eo f ef w a e = before a e
    go None eo true ef w a e = before a e
    go None eo false ef (Some code) a e = before a e
    go None eo false ef None a e = block eo ef (b.effect m.paths.one.path m.paths.one.values) a e

-- with the paths changed over, an alarm still means that some path has not finished
swap_leaves : (m : MachineView) → Leaves m → Leaves (own_first Two m)
swap_leaves m before a e = go (before a e)
  where
    go : (m.paths.one.finished ≡ false) ⊎ (m.paths.two.finished ≡ false) → (m.paths.two.finished ≡ false) ⊎ (m.paths.one.finished ≡ false)
    go (inl x) = inr x
    go (inr x) = inl x

-- behind a turn of either path, an alarm means that some path has not finished
event_leaves : (tapes : Tapes) (path : Path) (m : MachineView) → Leaves m → Leaves (behind_event tapes (TurnOf path) m)
event_leaves tapes One m before = own_leaves tapes.one One m before
event_leaves tapes Two m before =
    swap_leaves (own_turn tapes.two Two (own_first Two m)).machine (own_leaves tapes.two Two (own_first Two m) (swap_leaves m before))

-- behind all turns, an alarm means that some path has not finished
run_leaves : (tapes : Tapes) (m : MachineView) → Leaves m → (turns : List Path) → Leaves (run tapes m (turns_of turns))
run_leaves tapes m before [] = before
run_leaves tapes m before (path ∷ turns) =
    run_leaves tapes (behind_event tapes (TurnOf path) m) (event_leaves tapes path m before) turns

-- behind turns from the start on, if both paths have finished there is no alarm
pub finished_calm : (tapes : Tapes) (first second : PathView) (turns : List Path)
    → (run tapes (opening first second) (turns_of turns)).paths.one.finished ≡ true → (run tapes (opening first second) (turns_of turns)).paths.two.finished ≡ true
    → (run tapes (opening first second) (turns_of turns)).alarm ≡ None
finished_calm tapes first second turns here there =
    go (run tapes (opening first second) (turns_of turns)).alarm refl
  where
    go : (o : Option Alarm) → (run tapes (opening first second) (turns_of turns)).alarm ≡ o → (run tapes (opening first second) (turns_of turns)).alarm ≡ None
    go None e = e
    go (Some a) e = not (run_leaves tapes (opening first second) (λ a e. absurd cc) turns a e)
      where
        not : ((run tapes (opening first second) (turns_of turns)).paths.one.finished ≡ false) ⊎ ((run tapes (opening first second) (turns_of turns)).paths.two.finished ≡ false)
            → (run tapes (opening first second) (turns_of turns)).alarm ≡ None
        not (inl x) = absurd cc
        not (inr x) = absurd cc
