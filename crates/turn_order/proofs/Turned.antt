-- A turn of a path makes a record, or reads, or is passed over; and a path is passed over only
-- while the other goes on. So there are only so many turns: the measure by which the loop of
-- `records_in_turn` (src/turns.rt) ends.
use Rattle.std.proofs.Common.{◌≡◌, ◌⊎◌, inl, inr, ℕ, ◌+◌, ◌-◌, ◌*◌, ◌≤◌, ◌<◌, ◌==◌, ◌||◌, ◌&&◌, Bool, true, false, List, [], ◌∷◌, ◌++◌, length, refl, ◌∙◌, ap, subst, arith, length-append, Option, Some, None, is_some}
use Rattle.std.specs.Prelude.{if◌then◌else◌}
use Rattle.nc_number.specs.declared.path.Path.{Path}
use Rattle.nc_number.specs.declared.path.Path.TheVariants.{One, Two}
use Rattle.nc_number.specs.declared.value.Var.{Var}
use Rattle.nc_number.specs.Path.{other_of}
use Rattle.nc_number.proofs.Bools.{only_false}
use Rattle.nc_number.specs.declared.limits.TheConstants.{MOST_READS}
use Rattle.nc_number.specs.Both.{of_path}
use Rattle.nc_moves.specs.declared.alarm.Alarm.{Alarm}
use Rattle.path_state.specs.View.{PathView}
use Rattle.path_state.specs.Effect.{Effect, Need, Done, AtWait, AtEnd, effect_of}
use Rattle.path_state.specs.Effect as effect
use Rattle.path_state.specs.Controlled.{AsksForShared}
use Rattle.run_records.specs.Entries.{Entry}
use Rattle.run_records.specs.declared.entry.EntryKind.{EntryKind}
use Rattle.run_records.specs.declared.entry.EntryKind.TheVariants as kind
use Rattle.tape_flow.specs.declared.flow.Flow.{Flow}
use Rattle.two_path.specs.Machine.{MachineView, own_first, without_reads}
use Rattle.two_path.specs.Turns.{Blocks, Tapes, TurnResult, blocks_of, tapes_of, result_at_wait, result_by, unless_idle, block_turn, own_turn, turn_of, kind_of, entry_with, entry_of}
use Rattle.two_path.specs.Histories.{list_of, is_idle, AsksFrom, and_next, IsLawful, AreLawful}
use Rattle.two_path.specs.Stuck.{IsStuck}

-- how many reads of shared variables the unfinished blocks of both paths have made
abbrev pub reads_of : MachineView → ℕ
reads_of m = length m.paths.one.stamps + length m.paths.two.stamps

-- So many turns come at most, the next one for this path: each makes a record, or one of 32 reads
-- of its block, or is passed over, and of two turns one at most is.
abbrev pub turns_left : ℕ → Path → MachineView → ℕ
turns_left limit path m =
    2 * (65 * ((limit - m.count) + 1) - reads_of m) + (if is_idle (of_path m.paths path) then 1 else 0)

-- a block makes 32 reads at most
abbrev AsksFew : Blocks → Type 0
AsksFew blocks = (path : PathView) (reads : List Var) (variable : ℕ) → blocks.effect path reads ≡ Need variable → length reads < MOST_READS

-- what a path asked for and what it has read are 32 at most
asks_few : (blocks : Blocks) → AsksFew blocks → (path : PathView) (writes : _) (values : List Var) (stamps : List ℕ)
    → AsksFrom blocks path writes values stamps → length values ≤ MOST_READS → length values + length stamps ≤ MOST_READS
asks_few blocks most path writes values [] asks few = omega (arith, few)
asks_few blocks most path writes values (stamp ∷ stamps) asks few =
    let less = most path values asks.0.0 asks.0.1 in
    let one : length (and_next blocks path writes stamp values) ≡ length values + 1 = length-append values _ in
    let rest = asks_few blocks most path writes (and_next blocks path writes stamp values) stamps asks.1 (omega (arith, less, one)) in
    omega (arith, one, rest)

-- path 1 of a lawful machine has made at most 32 reads
lawful_few : (blocks : Blocks) (m : MachineView) → AsksFew blocks → IsLawful blocks m → length m.paths.one.stamps ≤ MOST_READS
lawful_few blocks m most lawful = omega (arith, asks_few blocks most m.paths.one.path m.writes [] m.paths.one.stamps lawful.may.asks (omega arith))

-- the blocks of a flow ask for few
flow_asks_few : ((flow : Flow) (path : PathView) (reads : List Var) → AsksForShared path reads (effect_of flow path reads)) → (flow : Flow) → AsksFew (blocks_of flow)
flow_asks_few law flow path reads variable is = (subst (AsksForShared path reads) is (law flow path reads)).1

-- both paths together have made 64 reads at most
pub few_reads : ((flow : Flow) (path : PathView) (reads : List Var) → AsksForShared path reads (effect_of flow path reads)) → (left right : Flow) (m : MachineView)
    → AreLawful (tapes_of left right) m → reads_of m ≤ 64
few_reads law left right m lawful =
    omega (arith, lawful_few (blocks_of left) m (flow_asks_few law left) lawful.first, lawful_few (blocks_of right) (own_first Two m) (flow_asks_few law right) lawful.second)

-- what a turn of the first path does to the machine and the records
data Went (m : MachineView) (r : TurnResult) : Type 0 where
  -- passed over: nothing changes
  over : is_idle m.paths.one ≡ true → r.machine ≡ m → kind_of r.turn ≡ None → Went m r
  -- one read more, and no record
  read : kind_of r.turn ≡ None → reads_of r.machine ≡ reads_of m + 1 → r.machine.count ≡ m.count → Went m r
  -- one record more
  made : (kind : EntryKind) → kind_of r.turn ≡ Some kind → r.machine.count ≡ m.count + 1 → Went m r

-- a turn at a wait makes a record
wait_went : (path : Path) (line : ℕ) (m : MachineView) (code : ℕ) (o : Option ℕ) → Went m (result_at_wait path line m code o)
wait_went path line m code None = made kind.Arrived refl refl
wait_went path line m code (Some there) = go (code == there) refl
  where
    go : (b : Bool) → (code == there) ≡ b → Went m (result_at_wait path line m code (Some there))
    go true e = rw e (made kind.Met refl refl)
    go false e = rw e (made kind.Alarmed refl refl)

-- a turn by the effect of a block reads or makes a record
by_went : (path : Path) (line : ℕ) (m : MachineView) (e : Effect) → Went m (result_by path line m e)
by_went path line m (Need variable) =
    let one : length (m.paths.one.stamps ++ m.count ∷ []) ≡ length m.paths.one.stamps + 1 = length-append m.paths.one.stamps (m.count ∷ []) in
    read refl (omega (arith, one)) refl
by_went path line m (Done after write moves) = made kind.Did refl refl
by_went path line m (AtWait code) = wait_went path line m code m.paths.two.waiting
by_went path line m (AtEnd after moves) = made kind.Ended refl refl
by_went path line m (effect.Alarm number value) = made kind.Alarmed refl refl

-- a turn of a path that may be idle is passed over, or is that of its block
went_by : (m : MachineView) (a : Option Alarm) (f : Bool) (w : Option ℕ) (rest : TurnResult) → a ≡ None → m.paths.one.finished ≡ f → m.paths.one.waiting ≡ w
    → Went m rest → Went m (unless_idle m a f w rest)
went_by m (Some alarm) f w rest calm ends waits goes = absurd cc
went_by m None true w rest calm ends waits goes = over (ap (λ b. b || is_some m.paths.one.waiting) ends) refl refl
went_by m None false (Some code) rest calm ends waits goes =
    over (ap (λ b. b || is_some m.paths.one.waiting) ends ∙ ap (λ (o : Option ℕ). is_some o) waits) refl refl
went_by m None false None rest calm ends waits goes = goes

-- each turn of the first path, without an alarm, is passed over, or reads, or makes a record
own_went : (blocks : Blocks) (path : Path) (m : MachineView) → m.alarm ≡ None → Went m (own_turn blocks path m)
own_went blocks path m calm =
    went_by m m.alarm m.paths.one.finished m.paths.one.waiting (block_turn blocks path m) calm refl refl
    (by_went path (blocks.line m.paths.one.path.place) m (blocks.effect m.paths.one.path m.paths.one.values))

-- what a turn of either path does to the machine and the records
pub data Gave (path : Path) (before after : MachineView) (made : List Entry) : Type 0 where
  -- passed over: nothing changes
  passed : is_idle (of_path before.paths path) ≡ true → after ≡ before → length made ≡ 0 → Gave path before after made
  -- one read more, and no record
  has_read : length made ≡ 0 → reads_of after ≡ reads_of before + 1 → after.count ≡ before.count → Gave path before after made
  -- one record more
  recorded : length made ≡ 1 → after.count ≡ before.count + 1 → Gave path before after made

-- equal kinds of record, or none, make as many records
made_by : (path : Path) (stamps : List ℕ) (k k' : Option EntryKind) → k ≡ k' → length (list_of (entry_with path stamps k)) ≡ length (list_of (entry_with path stamps k'))
made_by path stamps k k' is = ap (λ (o : Option EntryKind). length (list_of (entry_with path stamps o))) is

-- a turn of path 1 is passed over, or reads, or makes a record
one_gave : (tapes : Tapes) (m : MachineView) → Went m (own_turn tapes.one One m)
    → Gave One m (turn_of tapes One m).machine (list_of (entry_of tapes One m))
one_gave tapes m (over idle same none) = passed idle same (made_by One m.paths.one.stamps _ None none)
one_gave tapes m (read none more still) = has_read (made_by One m.paths.one.stamps _ None none) more still
one_gave tapes m (made kind is more) = recorded (made_by One m.paths.one.stamps _ (Some kind) is) more

-- a turn of path 2, seen with both paths exchanged, is passed over, or reads, or makes a record
two_gave : (tapes : Tapes) (m : MachineView) → Went (own_first Two m) (own_turn tapes.two Two (own_first Two m))
    → Gave Two m (turn_of tapes Two m).machine (list_of (entry_of tapes Two m))
two_gave tapes m (over idle same none) = passed idle (ap (own_first Two) same) (made_by Two m.paths.two.stamps _ None none)
two_gave tapes m (read none more still) = has_read (made_by Two m.paths.two.stamps _ None none) (omega (arith, more)) still
two_gave tapes m (made kind is more) = recorded (made_by Two m.paths.two.stamps _ (Some kind) is) more

-- each turn of either path, without an alarm, is passed over, or reads, or makes a record
pub gave : (tapes : Tapes) (path : Path) (m : MachineView) → m.alarm ≡ None
    → Gave path m (turn_of tapes path m).machine (list_of (entry_of tapes path m))
gave tapes One m calm = one_gave tapes m (own_went tapes.one One m calm)
gave tapes Two m calm = two_gave tapes m (own_went tapes.two Two (own_first Two m) calm)

-- if not both have ended, one has not
unfinished : (first second : Bool) → (first && second) ≡ false → (first ≡ false) ⊎ (second ≡ false)
unfinished true second is = inr is
unfinished false second is = inl refl

-- if one path is idle in a machine that is not stuck and has not ended, the other is not
other_awake : (path : Path) (m : MachineView) → (IsStuck (without_reads m) → ⊥) → m.alarm ≡ None → (m.paths.one.finished && m.paths.two.finished) ≡ false
    → is_idle (of_path m.paths path) ≡ true → is_idle (of_path m.paths (other_of path)) ≡ false
other_awake One m free calm some idle =
    only_false (is_idle m.paths.two) (λ both. free (record { calm = calm; unfinished = unfinished m.paths.one.finished m.paths.two.finished some; first = idle; second = both }))
other_awake Two m free calm some idle =
    only_false (is_idle m.paths.one) (λ both. free (record { calm = calm; unfinished = unfinished m.paths.one.finished m.paths.two.finished some; first = both; second = idle }))

-- the same number (`turns_left`) by its parts: how many records may still come, how many reads were
-- made, and whether the path whose turn it is will be passed over (1) or not (0)
abbrev left : ℕ → ℕ → ℕ → ℕ
left budget reads flag = 2 * (65 * (budget + 1) - reads) + flag

-- fewer turns are left after a path was passed over
left_passed : (budget budget' reads reads' flag flag' : ℕ) → budget' ≡ budget → reads' ≡ reads → reads ≤ 64 → flag ≡ 1 → flag' ≡ 0
    → left budget' reads' flag' < left budget reads flag
left_passed budget budget' reads reads' flag flag' b r few one none = omega (arith, b, r, few, one, none)

-- fewer turns are left after a read
left_read : (budget budget' reads reads' flag flag' : ℕ) → budget' ≡ budget → reads' ≡ reads + 1 → reads ≤ 64 → flag' ≤ 1
    → left budget' reads' flag' < left budget reads flag
left_read budget budget' reads reads' flag flag' b r few most = omega (arith, b, r, few, most)

-- fewer turns are left after a record
left_made : (budget budget' reads reads' flag flag' : ℕ) → budget' + 1 ≡ budget → reads ≤ 64 → flag' ≤ 1
    → left budget' reads' flag' < left budget reads flag
left_made budget budget' reads reads' flag flag' b few most = omega (arith, b, few, most)

-- 1 if the path whose turn it is will be passed over
abbrev flag : Bool → ℕ
flag idle = if idle then 1 else 0

-- the flag is at most 1
flag_most : (b : Bool) → flag b ≤ 1
flag_most true = omega arith
flag_most false = omega arith

-- a turn of a machine that is not stuck, has no alarm and has not ended
module _ (limit : ℕ) (path : Path) (m after : MachineView) (unstuck : IsStuck (without_reads m) → ⊥) (calm : m.alarm ≡ None)
    (some : (m.paths.one.finished && m.paths.two.finished) ≡ false) (few : reads_of m ≤ 64) (below : m.count < limit) where
  -- fewer turns are left after any turn
  pub fewer : (entries : List Entry) → Gave path m after entries → turns_left limit (other_of path) after < turns_left limit path m
  fewer entries (passed idle same none) =
      let other = ap (λ (x : MachineView). is_idle (of_path x.paths (other_of path))) same ∙ other_awake path m unstuck calm some idle in
      left_passed (limit - m.count) (limit - after.count) (reads_of m) (reads_of after) (flag (is_idle (of_path m.paths path)))
      (flag (is_idle (of_path after.paths (other_of path)))) (ap (λ (x : MachineView). limit - x.count) same)
      (ap reads_of same) few (ap flag idle) (ap flag other)
  fewer entries (has_read none more still) =
      left_read (limit - m.count) (limit - after.count) (reads_of m) (reads_of after) (flag (is_idle (of_path m.paths path)))
      (flag (is_idle (of_path after.paths (other_of path)))) (ap (λ n. limit - n) still) more few (flag_most (is_idle (of_path after.paths (other_of path))))
  fewer entries (recorded one more) =
      left_made (limit - m.count) (limit - after.count) (reads_of m) (reads_of after) (flag (is_idle (of_path m.paths path)))
      (flag (is_idle (of_path after.paths (other_of path)))) (omega (arith, more, below)) few (flag_most (is_idle (of_path after.paths (other_of path))))

-- a turn makes one record at most
pub made_few : (path : Path) (m after : MachineView) (entries : List Entry) → Gave path m after entries → length entries ≤ 1
made_few path m after entries (passed idle same none) = omega (arith, none)
made_few path m after entries (has_read none more still) = omega (arith, none)
made_few path m after entries (recorded one more) = omega (arith, one)
