-- What a turn is if something may happen, and if nothing may: a path is still once there is an
-- alarm, once it has ended, and while it waits. Counted, Lawful, Paired, Recorded, Redone,
-- Scheduled and Steady take these lemmas.
use Rattle.std.proofs.Common.{◌≡◌, ℕ, Bool, true, false, ◌||◌, Option, Some, None, is_some, refl}
use Rattle.nc_number.specs.declared.path.Path.{Path}
use Rattle.nc_moves.specs.declared.alarm.Alarm.{Alarm}
use Rattle.run_records.specs.declared.entry.EntryKind.{EntryKind}
use Rattle.two_path.specs.Machine.{MachineView}
use Rattle.two_path.specs.Turns.{Blocks, TurnResult, result_by, unless_idle, own_turn, kind_of}
use Rattle.two_path.specs.Histories.{is_idle}

-- the first path's turn would be Halted, Finished or Waiting
abbrev pub is_still : MachineView → Bool
is_still m = is_some m.alarm || is_idle m.paths.one

-- without an alarm, an end or a wait the turn is that of its block
unless_awake : (m : MachineView) (a : Option Alarm) (f : Bool) (w : Option ℕ) (rest : TurnResult) → (is_some a || (f || is_some w)) ≡ false
    → unless_idle m a f w rest ≡ rest
unless_awake m (Some alarm) f w rest e = absurd cc
unless_awake m None true w rest e = absurd cc
unless_awake m None false (Some code) rest e = absurd cc
unless_awake m None false None rest e = refl

-- with an alarm, an end or a wait the machine stays as it is, and there is no record
unless_still : (m : MachineView) (a : Option Alarm) (f : Bool) (w : Option ℕ) (rest : TurnResult) → (is_some a || (f || is_some w)) ≡ true
    → ((unless_idle m a f w rest).machine ≡ m) × (kind_of (unless_idle m a f w rest).turn ≡ None)
unless_still m (Some alarm) f w rest e = (refl, refl)
unless_still m None true w rest e = (refl, refl)
unless_still m None false (Some code) rest e = (refl, refl)
unless_still m None false None rest e = absurd cc

-- the turn of a path that isn't still is what its block comes to
pub own_awake : (blocks : Blocks) (path : Path) (m : MachineView) → is_still m ≡ false
    → own_turn blocks path m ≡ result_by path (blocks.line m.paths.one.path.place) m (blocks.effect m.paths.one.path m.paths.one.values)
own_awake blocks path m e = unless_awake m m.alarm m.paths.one.finished m.paths.one.waiting _ e

-- the turn of a path that is still changes nothing and makes no record
pub own_still : (blocks : Blocks) (path : Path) (m : MachineView) → is_still m ≡ true
    → ((own_turn blocks path m).machine ≡ m) × (kind_of (own_turn blocks path m).turn ≡ None)
own_still blocks path m e = unless_still m m.alarm m.paths.one.finished m.paths.one.waiting _ e

-- a path whose turn makes a record is not still
pub awake_of : (blocks : Blocks) (path : Path) (m : MachineView) (kind : EntryKind) → kind_of (own_turn blocks path m).turn ≡ Some kind → is_still m ≡ false
awake_of blocks path m kind e = go (is_still m) refl
  where
    go : (b : Bool) → is_still m ≡ b → b ≡ false
    go true i = absurd (let none : kind_of (own_turn blocks path m).turn ≡ None = (own_still blocks path m i).1 in cc)
    go false i = refl

-- if there is neither an alarm nor `f`, there is not `f`
pub awake_part : (a : Option Alarm) (f : Bool) → (is_some a || f) ≡ false → f ≡ false
awake_part (Some x) f e = absurd cc
awake_part None f e = e
