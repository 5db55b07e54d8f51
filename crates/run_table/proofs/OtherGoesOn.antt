-- While a path waits, and the paths are not stuck, the other one's turn is that of a block.
-- HeldSteps, WaitsTold and the proofs of `who_is_waited_for_goes_on` (src/laws.rt) and
-- `Table::step_into` (src/table.rt) use it.
use Rattle.std.proofs.Common.{◌≡◌, inl, inr, ℕ, ◌==◌, ◌||◌, Bool, true, false, refl, ap, Option, Some, None, is_some}
use Rattle.nc_number.specs.declared.path.Path.{Path}
use Rattle.nc_number.specs.declared.path.Path.TheVariants.{One, Two}
use Rattle.nc_number.specs.Path.{other_of}
use Rattle.nc_number.proofs.Bools.{only_false}
use Rattle.nc_moves.specs.declared.alarm.Alarm.{Alarm}
use Rattle.path_state.specs.Effect.{Effect, Need, Done, AtWait, AtEnd}
use Rattle.path_state.specs.Effect as effect
use Rattle.two_path.specs.declared.turn.Turn.{Turn}
use Rattle.two_path.specs.declared.turn.Turn.TheVariants as turn
use Rattle.two_path.specs.Machine.{MachineView, own_first, without_reads}
use Rattle.two_path.specs.Turns.{Blocks, Tapes, TurnResult, result_at_wait, result_by, unless_idle, block_turn, own_turn, turn_of}
use Rattle.two_path.specs.Histories.{is_idle}
use Rattle.two_path.specs.Stuck.{IsStuck}
use Rattle.run_table.specs.Stepping.{GoesOn}

-- The turn says neither that the path waits nor that it has ended. Each turn in which a block runs
-- is so, and so is one that an alarm stops.
pub record IsOfBlock (t : Turn) : Type 0 where
  -- it does not say that the path waits
  pub waits : (code : ℕ) → t ≡ turn.Waiting code → ⊥
  -- it does not say that the path has ended
  pub ended : t ≡ turn.Finished → ⊥

-- the turn of a block that comes to a wait is that of a block
wait_goes : (path : Path) (line : ℕ) (m : MachineView) (code : ℕ) (o : Option ℕ) → IsOfBlock (result_at_wait path line m code o).turn
wait_goes path line m code None = record { waits = λ c e. absurd cc; ended = λ e. absurd cc }
wait_goes path line m code (Some there) = go (code == there) refl
  where
    go : (b : Bool) → (code == there) ≡ b → IsOfBlock (result_at_wait path line m code (Some there)).turn
    go true e = rw e (record { waits = λ c is. absurd cc; ended = λ is. absurd cc })
    go false e = rw e (record { waits = λ c is. absurd cc; ended = λ is. absurd cc })

-- the turn by what a block comes to is that of a block
by_goes : (path : Path) (line : ℕ) (m : MachineView) (e : Effect) → IsOfBlock (result_by path line m e).turn
by_goes path line m (Need variable) = record { waits = λ c is. absurd cc; ended = λ is. absurd cc }
by_goes path line m (Done after write moves) = record { waits = λ c is. absurd cc; ended = λ is. absurd cc }
by_goes path line m (AtWait code) = wait_goes path line m code m.paths.two.waiting
by_goes path line m (AtEnd after moves) = record { waits = λ c is. absurd cc; ended = λ is. absurd cc }
by_goes path line m (effect.Alarm number value) = record { waits = λ c is. absurd cc; ended = λ is. absurd cc }

-- each turn in which the block runs is that of a block
pub block_goes : (blocks : Blocks) (path : Path) (m : MachineView) → IsOfBlock (block_turn blocks path m).turn
block_goes blocks path m = by_goes path (blocks.line m.paths.one.path.place) m (blocks.effect m.paths.one.path m.paths.one.values)

-- the first path waits: there is no alarm, it has not ended, and it is idle
record Waits (m : MachineView) : Type 0 where
  -- there is no alarm
  calm : m.alarm ≡ None
  -- the path has not ended
  unfinished : m.paths.one.finished ≡ false
  -- it waits or has ended
  idle : is_idle m.paths.one ≡ true

-- if a turn that may do nothing says that the path waits, there is no alarm, the path has not
-- ended, and it waits
idle_waits : (m : MachineView) (a : Option Alarm) (f : Bool) (w : Option ℕ) (rest : TurnResult) (code : ℕ) → IsOfBlock rest.turn
    → (unless_idle m a f w rest).turn ≡ turn.Waiting code → (a ≡ None) × (f ≡ false) × ((f || is_some w) ≡ true)
idle_waits m (Some alarm) f w rest code goes is = absurd cc
idle_waits m None true w rest code goes is = absurd cc
idle_waits m None false (Some there) rest code goes is = (refl, refl, refl)
idle_waits m None false None rest code goes is = absurd (goes.waits code is)

-- if a whole turn of the first path says that the path waits, that path waits so (`Waits`)
own_waits : (blocks : Blocks) (path : Path) (m : MachineView) (code : ℕ) → (own_turn blocks path m).turn ≡ turn.Waiting code → Waits m
own_waits blocks path m code is =
    let all = idle_waits m m.alarm m.paths.one.finished m.paths.one.waiting (block_turn blocks path m) code (block_goes blocks path m) is in
    record { calm = all.0; unfinished = all.1; idle = all.2 }

-- without an alarm, a path that is not idle makes the turn of its block
awake_goes : (m : MachineView) (a : Option Alarm) (f : Bool) (w : Option ℕ) (rest : TurnResult) → a ≡ None → (f || is_some w) ≡ false → IsOfBlock rest.turn
    → IsOfBlock (unless_idle m a f w rest).turn
awake_goes m (Some alarm) f w rest calm awake goes = absurd cc
awake_goes m None true w rest calm awake goes = absurd cc
awake_goes m None false (Some there) rest calm awake goes = absurd cc
awake_goes m None false None rest calm awake goes = goes

-- without an alarm, the whole turn of a first path that is not idle is that of its block
own_goes : (blocks : Blocks) (path : Path) (m : MachineView) → m.alarm ≡ None → is_idle m.paths.one ≡ false → IsOfBlock (own_turn blocks path m).turn
own_goes blocks path m calm awake =
    awake_goes m m.alarm m.paths.one.finished m.paths.one.waiting (block_turn blocks path m) calm awake (block_goes blocks path m)

-- if one path waits, the other one is not idle, since else both would be stuck: its turn is that of
-- a block
pub other_goes_on : (tapes : Tapes) (m : MachineView) → (IsStuck (without_reads m) → ⊥) → (path : Path) (code : ℕ)
    → (turn_of tapes path m).turn ≡ turn.Waiting code → GoesOn tapes (other_of path) m
other_goes_on tapes m free One code is =
    let w = own_waits tapes.one One m code is in
    let not_idle = only_false (is_idle m.paths.two) (λ idle. free (record { calm = w.calm; unfinished = inl w.unfinished; first = w.idle; second = idle })) in
    let goes = own_goes tapes.two Two (own_first Two m) w.calm not_idle in
    record { waits = goes.waits; ended = goes.ended }
other_goes_on tapes m free Two code is =
    let w = own_waits tapes.two Two (own_first Two m) code is in
    let not_idle = only_false (is_idle m.paths.one) (λ idle. free (record { calm = w.calm; unfinished = inr w.unfinished; first = idle; second = w.idle })) in
    let goes = own_goes tapes.one One m w.calm not_idle in
    record { waits = goes.waits; ended = goes.ended }

-- a turn that may do nothing, and that says that the path waits, leaves the machine as it is
idle_still : (m : MachineView) (a : Option Alarm) (f : Bool) (w : Option ℕ) (rest : TurnResult) (code : ℕ) → IsOfBlock rest.turn
    → (unless_idle m a f w rest).turn ≡ turn.Waiting code → (unless_idle m a f w rest).machine ≡ m
idle_still m (Some alarm) f w rest code goes is = refl
idle_still m None true w rest code goes is = refl
idle_still m None false (Some there) rest code goes is = refl
idle_still m None false None rest code goes is = absurd (goes.waits code is)

-- a whole turn that says that the path waits leaves the machine as it is
own_still : (blocks : Blocks) (path : Path) (m : MachineView) (code : ℕ) → (own_turn blocks path m).turn ≡ turn.Waiting code → (own_turn blocks path m).machine ≡ m
own_still blocks path m code is = idle_still m m.alarm m.paths.one.finished m.paths.one.waiting (block_turn blocks path m) code (block_goes blocks path m) is

-- a turn of either path that says that the path waits leaves the machine as it is
pub waits_still : (tapes : Tapes) (path : Path) (m : MachineView) (code : ℕ) → (turn_of tapes path m).turn ≡ turn.Waiting code → (turn_of tapes path m).machine ≡ m
waits_still tapes One m code is = own_still tapes.one One m code is
waits_still tapes Two m code is = ap (own_first Two) (own_still tapes.two Two (own_first Two m) code is)
