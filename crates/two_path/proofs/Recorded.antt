-- Whatever happens, the records are a legal history, whose fold is the machine but for block reads:
-- the first half of the law `histories_are_runs` (src/laws.rt).
use Rattle.std.proofs.Common.{◌≡◌, ℕ, Bool, true, false, ◌==◌, List, [], ◌∷◌, ◌++◌, Option, Some, None, inl, inr, refl, sym, ap, subst, ◌∙◌, if◌then◌else◌}
use Rattle.nc_number.specs.declared.path.Path.{Path}
use Rattle.nc_number.specs.declared.path.Path.TheVariants.{One, Two}
use Rattle.nc_number.specs.Both.{of_path}
use Rattle.nc_moves.specs.declared.alarm.Alarm.{Alarm}
use Rattle.run_records.specs.Entries.{Entry}
use Rattle.run_records.specs.declared.entry.EntryKind.{EntryKind}
use Rattle.path_state.specs.Effect.{Effect, Need, Done, AtWait, AtEnd}
use Rattle.path_state.specs.Effect as effect
use Rattle.two_path.specs.declared.turn.Turn.{Turn}
use Rattle.two_path.specs.declared.turn.Turn.TheVariants as turn
use Rattle.two_path.specs.Machine.{MachineView, own_first, without_reads}
use Rattle.two_path.specs.Turns.{Blocks, Tapes, result, behind_meeting, crossed_waits, alarm_result, result_at_wait, result_by, own_turn, turn_of, kind_of, entry_with}
use Rattle.two_path.specs.Edits.{behind_edit_of, edit_entry, unless_alarm}
use Rattle.two_path.specs.Histories.{Event, TurnOf, EditOf, behind_event, list_of, records_of, run, history, with_values, with_reads, IsStep, behind_step, behind_entry, IsNext, fold, IsLegal, IsLawful, AreLawful, IsHistory}
use Rattle.two_path.proofs.Idle.{is_still, own_awake, own_still}
use Rattle.two_path.specs.Again.{turn_of_entry}
use Rattle.two_path.proofs.Edited.{entry, step_no_edit, behind_step_entry, turn_of_step}
use Rattle.two_path.proofs.Lawful.{event_sound}

-- the machine in which only the first path's block has read
abbrev alone : MachineView → MachineView
alone m = with_values m.paths.one.values m.paths.one.stamps (without_reads m)

-- a turn answers the same, and leads to the same machine but for block reads, whether the other
-- path's block has read or not
abbrev Alike : Path → ℕ → MachineView → Effect → Type 0
Alike path line m e =
    ((result_by path line (alone m) e).turn ≡ (result_by path line m e).turn)
    × (without_reads (result_by path line (alone m) e).machine ≡ without_reads (result_by path line m e).machine)

-- a turn at a wait doesn't see what the other path's block has read
wait_alike : (path : Path) (line : ℕ) (m : MachineView) (code : ℕ) (o : Option ℕ)
    → ((result_at_wait path line (alone m) code o).turn ≡ (result_at_wait path line m code o).turn)
    × (without_reads (result_at_wait path line (alone m) code o).machine ≡ without_reads (result_at_wait path line m code o).machine)
wait_alike path line m code None = (refl, refl)
wait_alike path line m code (Some there) = go (code == there) refl
  where
    go : (b : Bool) → (code == there) ≡ b
        → ((result_at_wait path line (alone m) code (Some there)).turn ≡ (result_at_wait path line m code (Some there)).turn)
        × (without_reads (result_at_wait path line (alone m) code (Some there)).machine ≡ without_reads (result_at_wait path line m code (Some there)).machine)
    go true e = rw e (refl, refl)
    go false e = rw e (refl, refl)

-- a turn does not see what the other path's block has read
by_alike : (path : Path) (line : ℕ) (m : MachineView) (e : Effect) → Alike path line m e
by_alike path line m (Need v) = (refl, refl)
by_alike path line m (Done to write moves) = (refl, refl)
by_alike path line m (AtWait code) = wait_alike path line m code m.paths.two.waiting
by_alike path line m (AtEnd to moves) = (refl, refl)
by_alike path line m (effect.Alarm number value) = (refl, refl)

-- each turn at a wait makes a record
wait_records : (path : Path) (line : ℕ) (m : MachineView) (code : ℕ) (o : Option ℕ) → kind_of (result_at_wait path line m code o).turn ≡ None → ⊥
wait_records path line m code None e = cc
wait_records path line m code (Some there) e = go (code == there) e
  where
    go : (b : Bool) → kind_of (if b then result (turn.Met code) (behind_meeting m) else alarm_result (crossed_waits path line) m).turn ≡ None → ⊥
    go true e = cc
    go false e = cc

-- without a record nothing changes but for block reads
by_none : (path : Path) (line : ℕ) (m : MachineView) (e : Effect) → kind_of (result_by path line m e).turn ≡ None
    → without_reads (result_by path line m e).machine ≡ without_reads m
by_none path line m (Need v) e = refl
by_none path line m (Done to write moves) e = absurd cc
by_none path line m (AtWait code) e = absurd (wait_records path line m code m.paths.two.waiting e)
by_none path line m (AtEnd to moves) e = absurd cc
by_none path line m (effect.Alarm number value) e = absurd cc

-- what a turn of the first path with this answer makes: nothing, or a record that follows and
-- answers so as it is done again
abbrev MakesFirst : Blocks → Path → MachineView → MachineView → Turn → Option EntryKind → List ℕ → Type 0
MakesFirst blocks path b to answer None stamps = to ≡ b
MakesFirst blocks path b to answer (Some kind) stamps =
    IsStep blocks path b kind stamps × (behind_step blocks path stamps b ≡ to)
    × ((own_turn blocks path (with_reads blocks stamps b)).turn ≡ answer)

-- each turn of the first path makes nothing, or the record that follows
turn_makes : (blocks : Blocks) (path : Path) (m : MachineView) → IsLawful blocks m → (k : Option EntryKind) → kind_of (own_turn blocks path m).turn ≡ k
    → MakesFirst blocks path (without_reads m) (without_reads (own_turn blocks path m).machine) (own_turn blocks path m).turn k m.paths.one.stamps
turn_makes blocks path m l k e = go (is_still m) refl k e
  where
    go : (b : Bool) → is_still m ≡ b → (k : Option EntryKind) → kind_of (own_turn blocks path m).turn ≡ k
        → MakesFirst blocks path (without_reads m) (without_reads (own_turn blocks path m).machine) (own_turn blocks path m).turn k m.paths.one.stamps
    go true i None e = rw ((own_still blocks path m i).0) refl
    go true i (Some k) e = absurd (let none : kind_of (own_turn blocks path m).turn ≡ None = (own_still blocks path m i).1 in cc)
    go false i None e =
        let is = own_awake blocks path m i in
        rw is (by_none path (blocks.line m.paths.one.path.place) m (blocks.effect m.paths.one.path m.paths.one.values) (rw is at e))
    go false i (Some k) e =
        let is = own_awake blocks path m i in
        let alike = by_alike path (blocks.line m.paths.one.path.place) m (blocks.effect m.paths.one.path m.paths.one.values) in
        let same = own_awake blocks path (alone m) i in (
          record {
            reads = record { order = l.may.order; asks = l.may.asks };
            is = rw (← l.values) (ap (λ r. kind_of r.turn) same ∙ ap kind_of alike.0 ∙ rw (← is) e);
          },
          rw (← l.values) (ap (λ r. without_reads r.machine) same ∙ alike.1 ∙ ap (λ r. without_reads r.machine) (sym is)),
          rw (← l.values) (ap (λ r. r.turn) same ∙ alike.0 ∙ ap (λ r. r.turn) (sym is)),
        )

-- what a turn of either path with this answer makes: nothing, or a record that follows and answers
-- so as it is done again
Makes : Tapes → MachineView → MachineView → Turn → Path → Option EntryKind → List ℕ → Type 0
Makes tapes b to answer path None stamps = to ≡ b
Makes tapes b to answer path (Some kind) stamps =
    IsNext tapes b (entry path kind stamps) × (behind_entry tapes (entry path kind stamps) b ≡ to)
    × (turn_of_entry tapes (entry path kind stamps) b ≡ answer)

-- what a turn of the first path makes is what a turn of either path makes
makes_first : (tapes : Tapes) (b to : MachineView) (answer : Turn) (k : Option EntryKind) (ks : List ℕ) → MakesFirst tapes.one One b to answer k ks
    → Makes tapes b to answer One k ks
unfolding Makes
makes_first tapes b to answer None ks h = h
makes_first tapes b to answer (Some k) ks h = (
  inl h.0,
  behind_step_entry tapes b (entry One k ks) (step_no_edit tapes.one One b k ks h.0) ∙ h.1,
  turn_of_step tapes b (entry One k ks) (step_no_edit tapes.one One b k ks h.0) ∙ h.2,
)

-- what a turn of the second path makes, seen with that path first, is what a turn of either makes
makes_second : (tapes : Tapes) (b to : MachineView) (answer : Turn) (k : Option EntryKind) (ks : List ℕ)
    → MakesFirst tapes.two Two (own_first Two b) to answer k ks → Makes tapes b (own_first Two to) answer Two k ks
unfolding Makes
makes_second tapes b to answer None ks h = ap (own_first Two) h
makes_second tapes b to answer (Some k) ks h = (
  inl h.0,
  behind_step_entry tapes b (entry Two k ks) (step_no_edit tapes.two Two (own_first Two b) k ks h.0) ∙ ap (own_first Two) h.1,
  turn_of_step tapes b (entry Two k ks) (step_no_edit tapes.two Two (own_first Two b) k ks h.0) ∙ h.2,
)

-- each turn of lawful paths makes nothing, or the record that follows and answers as the turn did
makes_turn : (tapes : Tapes) (path : Path) (m : MachineView) → AreLawful tapes m
    → Makes tapes (without_reads m) (without_reads (turn_of tapes path m).machine) (turn_of tapes path m).turn path
    (kind_of (turn_of tapes path m).turn) (of_path m.paths path).stamps
makes_turn tapes One m lawful =
    let t = own_turn tapes.one One m in
    makes_first tapes (without_reads m) (without_reads t.machine) t.turn (kind_of t.turn) m.paths.one.stamps
    (turn_makes tapes.one One m lawful.first (kind_of t.turn) refl)
makes_turn tapes Two m lawful =
    let t = own_turn tapes.two Two (own_first Two m) in
    makes_second tapes (without_reads m) (without_reads t.machine) t.turn (kind_of t.turn) m.paths.two.stamps
    (turn_makes tapes.two Two (own_first Two m) lawful.second (kind_of t.turn) refl)

-- a turn without a record leaves the machine, but for block reads
pub unrecorded : (tapes : Tapes) (path : Path) (m : MachineView) → AreLawful tapes m → kind_of (turn_of tapes path m).turn ≡ None
    → without_reads (turn_of tapes path m).machine ≡ without_reads m
unfolding Makes
unrecorded tapes path m lawful none =
    let makes = makes_turn tapes path m lawful in
    still (kind_of (turn_of tapes path m).turn) none makes
  where
    still : (k : Option EntryKind) → k ≡ None
        → Makes tapes (without_reads m) (without_reads (turn_of tapes path m).machine) (turn_of tapes path m).turn path k (of_path m.paths path).stamps
        → without_reads (turn_of tapes path m).machine ≡ without_reads m
    still None e makes = makes
    still (Some kind) e makes = absurd cc

-- a record leads as it is done again where the turn did that made it, and answers the same
pub record IsRecordOf (tapes : Tapes) (path : Path) (m : MachineView) (e : Entry) : Type 0 where
  -- the record is the path's, and of the turn's kind
  pub own : e.path ≡ path
  pub kind : kind_of (turn_of tapes path m).turn ≡ Some e.kind
  -- it answers as the turn did
  pub answer : turn_of_entry tapes e (without_reads m) ≡ (turn_of tapes path m).turn
  -- it leads where the turn did
  pub behind : behind_entry tapes e (without_reads m) ≡ without_reads (turn_of tapes path m).machine

-- so does the record of each turn
pub recorded : (tapes : Tapes) (path : Path) (m : MachineView) → AreLawful tapes m → (kind : EntryKind) → kind_of (turn_of tapes path m).turn ≡ Some kind
    → IsRecordOf tapes path m (entry path kind (of_path m.paths path).stamps)
unfolding Makes
recorded tapes path m lawful kind is = made (kind_of (turn_of tapes path m).turn) is (makes_turn tapes path m lawful)
  where
    made : (k : Option EntryKind) → k ≡ Some kind
        → Makes tapes (without_reads m) (without_reads (turn_of tapes path m).machine) (turn_of tapes path m).turn path k (of_path m.paths path).stamps
        → IsRecordOf tapes path m (entry path kind (of_path m.paths path).stamps)
    made None e makes = absurd cc
    made (Some other) e makes =
        let same : other ≡ kind = cc in
        let stamps = (of_path m.paths path).stamps in
        let b = without_reads m in
        record {
          own = refl;
          kind = is;
          answer = subst (λ x. turn_of_entry tapes (entry path x stamps) b ≡ (turn_of tapes path m).turn) same makes.2;
          behind = subst (λ x. behind_entry tapes (entry path x stamps) b ≡ without_reads (turn_of tapes path m).machine) same makes.1;
        }

-- what one event makes, and a legal history behind it, are a legal history together
joins : (tapes : Tapes) (b to end : MachineView) (answer : Turn) (p : Path) (k : Option EntryKind) (ks : List ℕ) (rs : List Entry) → Makes tapes b to answer p k ks
    → IsLegal tapes to rs → fold tapes to rs ≡ end
    → IsLegal tapes b (list_of (entry_with p ks k) ++ rs) × (fold tapes b (list_of (entry_with p ks k) ++ rs) ≡ end)
unfolding Makes
joins tapes b to end answer p None ks rs may legal folds = rw (← may) (legal, folds)
joins tapes b to end answer p (Some k) ks rs may legal folds = ((may.0, rw may.1 legal), rw may.1 folds)

-- what an event of lawful paths makes, and a legal history behind it, are a legal history together
pub joins_event : (tapes : Tapes) (m end : MachineView) (e : Event) (rs : List Entry) → AreLawful tapes m
    → IsLegal tapes (without_reads (behind_event tapes e m)) rs → fold tapes (without_reads (behind_event tapes e m)) rs ≡ end
    → IsLegal tapes (without_reads m) (records_of tapes e m ++ rs) × (fold tapes (without_reads m) (records_of tapes e m ++ rs) ≡ end)
joins_event tapes m end (TurnOf path) rs s =
    joins tapes (without_reads m) (without_reads (turn_of tapes path m).machine) end (turn_of tapes path m).turn path
    (kind_of (turn_of tapes path m).turn) (of_path m.paths path).stamps rs (makes_turn tapes path m s)
joins_event tapes m end (EditOf p edit) rs s = go m.alarm refl
  where
    -- what was read before an edit is nothing behind it
    bare : (p : Path) → behind_entry tapes (edit_entry p edit) (without_reads m) ≡ without_reads (behind_edit_of p edit m)
    bare One = refl
    bare Two = refl

    go : (a : Option Alarm) → m.alarm ≡ a → IsLegal tapes (without_reads (unless_alarm a m (behind_edit_of p edit m))) rs
        → fold tapes (without_reads (unless_alarm a m (behind_edit_of p edit m))) rs ≡ end
        → IsLegal tapes (without_reads m) (unless_alarm a [] (edit_entry p edit ∷ []) ++ rs)
        × (fold tapes (without_reads m) (unless_alarm a [] (edit_entry p edit ∷ []) ++ rs) ≡ end)
    go (Some alarm) e legal folds = (legal, folds)
    go None e legal folds = (
      (inr (record { edit = edit; is = refl; calm = e }), rw (bare p) legal),
      rw (bare p) folds,
    )

-- the records of any events are a legal history from a lawful machine on
pub history_from : (tapes : Tapes) (m : MachineView) (es : List Event) → AreLawful tapes m → IsHistory tapes m es
history_from tapes m [] s = record { legal = tt; folds = refl; lawful = s }
history_from tapes m (e ∷ es) s =
    let h = history_from tapes (behind_event tapes e m) es (event_sound tapes e m s) in
    let j = joins_event tapes m (without_reads (run tapes (behind_event tapes e m) es)) e (history tapes (behind_event tapes e m) es) s h.legal h.folds in
    record { legal = j.0; folds = j.1; lawful = h.lawful }
