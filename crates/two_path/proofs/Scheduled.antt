-- Each legal history is recorded by some list of events: the reads of each record are taken as soon
-- as there are as many records as their stamps say. The second half of the law `histories_are_runs`
-- (src/laws.rt).
use Rattle.std.proofs.Common.{◌≡◌, ℕ, ◌+◌, ◌≤◌, ◌<◌, Bool, true, false, ◌==◌, ◌||◌, ◌⊎◌, inl, inr, List, [], ◌∷◌, ◌++◌, Option, Some, None, is_some, refl, sym, ap, subst, ◌∙◌, append_assoc, append-nil, arith}
use Rattle.nc_number.specs.declared.path.Path.{Path}
use Rattle.nc_number.specs.declared.path.Path.TheVariants.{One, Two}
use Rattle.nc_number.specs.declared.value.Var.{Var}
use Rattle.nc_moves.specs.declared.alarm.Alarm.{Alarm}
use Rattle.common_vars.specs.declared.links.Write.{Write}
use Rattle.run_records.specs.Entries.{Entry}
use Rattle.run_records.specs.declared.edit.Edit.{Edit}
use Rattle.run_records.specs.declared.entry.EntryKind.{EntryKind}
use Rattle.path_state.specs.View.{PathView}
use Rattle.path_state.specs.Statements.{Write as Written}
use Rattle.path_state.specs.Effect.{Effect, Need, Done, AtWait, AtEnd}
use Rattle.path_state.specs.Effect as effect
use Rattle.nc_number.proofs.Bools.{or_right}
use Rattle.nc_number.proofs.Counts.{same_or_below}
use Rattle.nc_number.specs.Both.{of_path}
use Rattle.two_path.specs.Machine.{Part, MachineView, own_first, part_without_reads, without_reads, opening}
use Rattle.two_path.specs.Turns.{Blocks, Tapes, with_write, part_at, crossed_waits, result_at_wait, result_by, own_turn, kind_of}
use Rattle.two_path.specs.Edits.{behind_edit_of, edit_entry}
use Rattle.two_path.specs.Histories.{Event, TurnOf, EditOf, behind_event, records_of, run, history, and_next, values_from, values_at, AsksFrom, AreInOrder, MayRead, with_values, with_reads, IsStep, behind_step, behind_entry, IsNext, fold, IsLegal, is_idle, IsLawful, AreLawful, IsReached, IsRun}
use Rattle.two_path.proofs.Folds.{fold_push}
use Rattle.two_path.proofs.Idle.{is_still, own_awake, awake_of}
use Rattle.two_path.proofs.Edited.{entry, calmly, step_no_edit, behind_step_entry, behind_edit_entry, entry_bare}
use Rattle.two_path.proofs.Lawful.{next_written, values_written, values_push}

-- what holds of the empty list, and of each list with one more at its end, holds of all lists
pub from_end : {X : Type 0} (P : List X → Type 0) → P [] → ((xs : List X) (x : X) → P xs → P (xs ++ x ∷ [])) → (xs : List X) → P xs
from_end P none more [] = none
from_end P none more (x ∷ xs) = from_end (λ ys. P (x ∷ ys)) (more [] x none) (λ ys y p. more (x ∷ ys) y p) xs

-- of a legal history the records before the last are legal, and the last is legal behind them
pub legal_front : (tapes : Tapes) (m : MachineView) (rs : List Entry) (e : Entry) → IsLegal tapes m (rs ++ e ∷ []) → IsLegal tapes m rs × IsNext tapes (fold tapes m rs) e
legal_front tapes m [] e legal = (tt, legal.0)
legal_front tapes m (r ∷ rs) e legal = let rest = legal_front tapes (behind_entry tapes r m) rs e legal.1 in ((legal.0, rest.0), rest.1)

-- the machine behind events with one more at the end is that behind this one
run_push : (tapes : Tapes) (m : MachineView) (es : List Event) (e : Event) → run tapes m (es ++ e ∷ []) ≡ behind_event tapes e (run tapes m es)
run_push tapes m [] e = refl
run_push tapes m (f ∷ es) e = run_push tapes (behind_event tapes f m) es e

-- the records of events with one more at the end are theirs, and then its own
history_push : (tapes : Tapes) (m : MachineView) (es : List Event) (e : Event)
    → history tapes m (es ++ e ∷ []) ≡ history tapes m es ++ records_of tapes e (run tapes m es)
history_push tapes m [] e = append-nil (records_of tapes e m)
history_push tapes m (f ∷ es) e =
    ap (λ rs. records_of tapes f m ++ rs) (history_push tapes (behind_event tapes f m) es e)
    ∙ sym (append_assoc (records_of tapes f m) (history tapes (behind_event tapes f m) es) (records_of tapes e (run tapes m (f ∷ es))))

-- with these stamps the first path's block may have read; a path that is still has read nothing
record Ready (blocks : Blocks) (m : MachineView) (ks : List ℕ) : Type 0 where
  may : MayRead blocks m ks
  idle : is_still m ≡ true → ks ≡ []

-- each stamp is less than this number
abbrev Below : ℕ → List ℕ → Type 0
Below c [] = Unit {0}
Below c (k ∷ ks) = (k < c) × Below c ks

-- a path whose block has read these values with these stamps
abbrev reading : List Var → List ℕ → Part → Part
reading values ks p = record p { values = values; stamps = ks }

-- a machine in which both paths' blocks have read these values, whatever the stamps
abbrev both : List Var → List ℕ → List Var → List ℕ → MachineView → MachineView
both values ks others ko m = record m { paths = record { one = reading values ks m.paths.one; two = reading others ko m.paths.two } }

-- a machine in which both paths' blocks have read what these stamps stand for
abbrev loaded : Blocks → Blocks → List ℕ → List ℕ → MachineView → MachineView
loaded a b ks ko m = both (values_at a m.paths.one.path m.writes ks) ks (values_at b m.paths.two.path m.writes ko) ko m

-- a block that asks so with a later write asked so without it
asks_before : (blocks : Blocks) (path : PathView) (o : Option Written) (ws : List Write) (c low : ℕ) (rs : List Var) (ks : List ℕ)
    → AreInOrder low c ks → AsksFrom blocks path (with_write (c + 1) o ws) rs ks → AsksFrom blocks path ws rs ks
asks_before blocks path o ws c low rs [] i a = tt
asks_before blocks path o ws c low rs (k ∷ ks) i a = (
  a.0,
  asks_before blocks path o ws c k (and_next blocks path ws k rs) ks i.2
      (subst (λ xs. AsksFrom blocks path (with_write (c + 1) o ws) xs ks) (next_written blocks path o ws c k rs i.1) a.1),
)

-- a block that asks for one read more asks for those before, and then for that
asks_front : (blocks : Blocks) (path : PathView) (ws : List Write) (rs : List Var) (ks : List ℕ) (k : ℕ) → AsksFrom blocks path ws rs (ks ++ k ∷ [])
    → AsksFrom blocks path ws rs ks × ((v : ℕ) × (blocks.effect path (values_from blocks path ws rs ks) ≡ Need v))
asks_front blocks path ws rs [] k a = (tt, a.0)
asks_front blocks path ws rs (j ∷ ks) k a = let rest = asks_front blocks path ws (and_next blocks path ws j rs) ks k a.1 in ((a.0, rest.0), rest.1)

-- stamps in order are so without the last, which lies between both bounds
order_front : (low high : ℕ) (ks : List ℕ) (k : ℕ) → AreInOrder low high (ks ++ k ∷ []) → AreInOrder low high ks × (low ≤ k) × (k ≤ high)
order_front low high [] k i = (tt, i.0, i.1)
order_front low high (j ∷ ks) k i =
    let rest = order_front j high ks k i.2 in
    let le : low ≤ k = omega (arith, i.0, rest.1) in
    ((i.0, i.1, rest.0), le, rest.2)

-- if the last stamp is less than the number, each is
below_push : (low high c : ℕ) (ks : List ℕ) (k : ℕ) → AreInOrder low high (ks ++ k ∷ []) → k < c → Below c (ks ++ k ∷ [])
below_push low high c [] k i h = (h, tt)
below_push low high c (j ∷ ks) k i h =
    let rest = order_front j high ks k i.2 in
    let le : j < c = omega (arith, rest.1) in
    (le, below_push j high c ks k i.2 h)

-- stamps in order that are all less than the next number are in order up to this one
order_below : (low c : ℕ) (ks : List ℕ) → AreInOrder low (c + 1) ks → Below (c + 1) ks → AreInOrder low c ks
order_below low c [] i b = tt
order_below low c (k ∷ ks) i b = (i.0, omega (arith, b.0), order_below k c ks i.2 b.1)

-- no stamp is both at least and less than the number
order_none : (c high : ℕ) (ks : List ℕ) → AreInOrder c high ks → Below c ks → ks ≡ []
order_none c high [] i b = refl
order_none c high (k ∷ ks) i b = absurd (omega (arith, i.0, b.0))

-- from n a record of the first path leads to this machine, whatever the other has read: what either
-- path may have read since, and before. `from_reads` gives the machine behind the turn if the other
-- path's block had read these values at these stamps.
record StepsTo (a b : Blocks) (n to : MachineView) (from_reads : List Var → List ℕ → MachineView) : Type 0 where
  -- the record counts one
  count : to.count ≡ n.count + 1
  -- behind it the path that made it has no reads from before it
  mine : (ks : List ℕ) → Ready a to ks → Below (n.count + 1) ks → ks ≡ []
  -- reads of the other path with stamps from before the record, which it may have behind the
  -- record, it may have before it; with them the turn leads to this machine with the same reads
  theirs : (ko : List ℕ) → Ready b (own_first Two to) ko → Below (n.count + 1) ko
      → Ready b (own_first Two n) ko
      × (from_reads (values_at b n.paths.two.path n.writes ko) ko ≡ both [] [] (values_at b to.paths.two.path to.writes ko) ko to)

-- a block may have read nothing
ready_none : (blocks : Blocks) (m : MachineView) → Ready blocks m []
ready_none blocks m = record { may = record { order = tt; asks = tt }; idle = λ _. refl }

-- what the other path may have read at stamps before a record of this one, it may have read before
-- that record, with the same values
before : (b : Blocks) (n : MachineView) (x : Part) (o : Option Written) (al : Option Alarm) (ko : List ℕ) → is_still n ≡ false
    → Ready b (record { paths = record { one = part_without_reads n.paths.two; two = x }; writes = with_write (n.count + 1) o n.writes; count = n.count + 1; alarm = al }) ko → Below (n.count + 1) ko
    → Ready b (own_first Two n) ko × (values_at b n.paths.two.path n.writes ko ≡ values_at b n.paths.two.path (with_write (n.count + 1) o n.writes) ko)
before b n x o al ko awake r below =
    let order : AreInOrder n.paths.two.since n.count ko = order_below n.paths.two.since n.count ko r.may.order below in (
      record {
        may = record { order = order; asks = asks_before b n.paths.two.path o n.writes n.count n.paths.two.since [] ko order r.may.asks };
        idle = λ i. r.idle (or_right (is_some al) (is_idle n.paths.two) (calm n.alarm (is_idle n.paths.one) (is_idle n.paths.two) awake i));
      },
      sym (values_written b n.paths.two.path o n.writes n.count n.paths.two.since [] ko order),
    )
  where
    calm : (a : Option Alarm) (f g : Bool) → (is_some a || f) ≡ false → (is_some a || g) ≡ true → g ≡ true
    calm (Some t) f g e i = absurd cc
    calm None f g e i = i

-- a turn at a wait leads on so, whatever the other path has read
stepped_wait : (a b : Blocks) (path : Path) (line : ℕ) (n : MachineView) (rs : List Var) (ks : List ℕ) (code : ℕ) (o : Option ℕ) → is_still n ≡ false
    → StepsTo a b n (without_reads (result_at_wait path line (with_values rs ks n) code o).machine) (λ ro ko. (result_at_wait path line (both rs ks ro ko n) code o).machine)
stepped_wait a b path line n rs ks code None awake = record {
  count = refl;
  mine = λ ks' r below. r.idle (or_right (is_some n.alarm) (n.paths.one.finished || true) (or_right n.paths.one.finished true refl));
  theirs = λ ko r below.
      let p = before b n (without_reads (result_at_wait path line (with_values rs ks n) code None).machine).paths.one None n.alarm ko awake r below in (p.0, refl);
}
stepped_wait a b path line n rs ks code (Some there) awake = go (code == there) refl
  where
    go : (y : Bool) → (code == there) ≡ y
        → StepsTo a b n (without_reads (result_at_wait path line (with_values rs ks n) code (Some there)).machine)
        (λ ro ko. (result_at_wait path line (both rs ks ro ko n) code (Some there)).machine)
    go false e = rw e (record {
      count = refl;
      mine = λ ks' r below. r.idle refl;
      theirs = λ ko r below. let p = before b n (part_without_reads n.paths.one) None (Some (crossed_waits path line)) ko awake r below in (p.0, refl);
    })
    go true e = rw e (record {
      count = refl;
      mine = λ ks' r below. order_none (n.count + 1) (n.count + 1) ks' r.may.order below;
      theirs = λ ko r below. rw (order_none (n.count + 1) (n.count + 1) ko r.may.order below) (ready_none b (own_first Two n), refl);
    })

-- a turn by what the block comes to, if it makes a record, leads on so
stepped : (a b : Blocks) (path : Path) (line : ℕ) (n : MachineView) (rs : List Var) (ks : List ℕ) (e : Effect) (k : EntryKind) → is_still n ≡ false
    → kind_of (result_by path line (with_values rs ks n) e).turn ≡ Some k
    → StepsTo a b n (without_reads (result_by path line (with_values rs ks n) e).machine) (λ ro ko. (result_by path line (both rs ks ro ko n) e).machine)
stepped a b path line n rs ks (Need v) k awake e = absurd cc
stepped a b path line n rs ks (Done to write moves) k awake e = record {
  count = refl;
  mine = λ ks' r below. order_none (n.count + 1) (n.count + 1) ks' r.may.order below;
  theirs = λ ko r below.
      let p = before b n (part_at to (n.count + 1) n.paths.one) write n.alarm ko awake r below in
      (p.0, ap (λ ro. (result_by path line (both rs ks ro ko n) (Done to write moves)).machine) p.1);
}
stepped a b path line n rs ks (AtWait code) k awake e = stepped_wait a b path line n rs ks code n.paths.two.waiting awake
stepped a b path line n rs ks (AtEnd to moves) k awake e = record {
  count = refl;
  mine = λ ks' r below. r.idle (or_right (is_some n.alarm) true refl);
  theirs = λ ko r below.
      let p = before b n (without_reads (result_by path line (with_values rs ks n) (AtEnd to moves)).machine).paths.one None n.alarm ko awake r below in (p.0, refl);
}
stepped a b path line n rs ks (effect.Alarm number value) k awake e = record {
  count = refl;
  mine = λ ks' r below. r.idle refl;
  theirs = λ ko r below.
      let p = before b n (part_without_reads n.paths.one) None (result_by path line n (effect.Alarm number value)).machine.alarm ko awake r below in (p.0, refl);
}

-- a turn that reads makes no record
read_kind : (a b : Blocks) (path : Path) (n : MachineView) (ks ko : List ℕ) (v : ℕ) → is_still n ≡ false → a.effect n.paths.one.path (values_at a n.paths.one.path n.writes ks) ≡ Need v
    → kind_of (own_turn a path (loaded a b ks ko n)).turn ≡ None
read_kind a b path n ks ko v awake e = rw (own_awake a path (loaded a b ks ko n) awake, e) refl

-- a turn that reads adds the present number of records to the stamps
read_turn : (a b : Blocks) (path : Path) (n : MachineView) (ks ko : List ℕ) (v : ℕ) → is_still n ≡ false → a.effect n.paths.one.path (values_at a n.paths.one.path n.writes ks) ≡ Need v
    → (own_turn a path (loaded a b ks ko n)).machine ≡ loaded a b (ks ++ n.count ∷ []) ko n
read_turn a b path n ks ko v awake e =
    rw (own_awake a path (loaded a b ks ko n) awake, values_push a n.paths.one.path n.writes [] ks n.count, e) refl

-- the kind of the record of a turn at a wait does not depend on what the other path has read
wait_kind : (path : Path) (line : ℕ) (m n : MachineView) (code : ℕ) (o : Option ℕ)
    → kind_of (result_at_wait path line m code o).turn ≡ kind_of (result_at_wait path line n code o).turn
wait_kind path line m n code None = refl
wait_kind path line m n code (Some there) = go (code == there) refl
  where
    go : (b : Bool) → (code == there) ≡ b
        → kind_of (result_at_wait path line m code (Some there)).turn ≡ kind_of (result_at_wait path line n code (Some there)).turn
    go true e = rw e refl
    go false e = rw e refl

-- the kind of the record of a turn by what the block comes to depends, of the other path, on its
-- wait alone
kind_alike : (path : Path) (line : ℕ) (m n : MachineView) (e : Effect) → m.paths.two.waiting ≡ n.paths.two.waiting
    → kind_of (result_by path line m e).turn ≡ kind_of (result_by path line n e).turn
kind_alike path line m n (Need v) w = refl
kind_alike path line m n (Done to write moves) w = refl
kind_alike path line m n (AtWait code) w =
    wait_kind path line m n code m.paths.two.waiting ∙ ap (λ o. kind_of (result_at_wait path line n code o).turn) w
kind_alike path line m n (AtEnd to moves) w = refl
kind_alike path line m n (effect.Alarm number value) w = refl

-- a path that makes a step isn't still
step_awake : (a : Blocks) (path : Path) (n : MachineView) (k : EntryKind) (ks : List ℕ) → IsStep a path n k ks → is_still n ≡ false
step_awake a path n k ks i = awake_of a path (with_reads a ks n) k i.is

-- a step's kind is the same whatever the other path has read
step_kind : (a b : Blocks) (path : Path) (n : MachineView) (k : EntryKind) (ks ko : List ℕ) → IsStep a path n k ks
    → kind_of (own_turn a path (loaded a b ks ko n)).turn ≡ Some k
step_kind a b path n k ks ko i =
    let awake = step_awake a path n k ks i in
    let e : Effect = a.effect n.paths.one.path (values_at a n.paths.one.path n.writes ks) in
    ap (λ r. kind_of r.turn) (own_awake a path (loaded a b ks ko n) awake)
    ∙ kind_alike path (a.line n.paths.one.path.place) (loaded a b ks ko n) (with_reads a ks n) e refl
    ∙ sym (ap (λ r. kind_of r.turn) (own_awake a path (with_reads a ks n) awake))
    ∙ i.is

-- a step of the first path leads on so, whatever the other path has read
applied_steps : (a b : Blocks) (path : Path) (n : MachineView) (k : EntryKind) (ks : List ℕ) → IsStep a path n k ks
    → StepsTo a b n (behind_step a path ks n) (λ ro ko. (own_turn a path (both (values_at a n.paths.one.path n.writes ks) ks ro ko n)).machine)
applied_steps a b path n k ks i =
    let awake = step_awake a path n k ks i in
    let rs : List Var = values_at a n.paths.one.path n.writes ks in
    let is = own_awake a path (with_reads a ks n) awake in
    let st = stepped a b path (a.line n.paths.one.path.place) n rs ks (a.effect n.paths.one.path rs) k awake (rw is at i.is) in
    let there : StepsTo a b n (behind_step a path ks n) (λ ro ko. (result_by path (a.line n.paths.one.path.place) (both rs ks ro ko n) (a.effect n.paths.one.path rs)).machine) =
    subst (λ r. StepsTo a b n (without_reads r.machine) (λ ro ko. (result_by path (a.line n.paths.one.path.place) (both rs ks ro ko n) (a.effect n.paths.one.path rs)).machine)) (sym is) st in
    record {
      count = there.count;
      mine = there.mine;
      theirs = λ ko r below.
          let p = there.theirs ko r below in
          (p.0, ap (λ r. r.machine) (own_awake a path (both rs ks (values_at b n.paths.two.path n.writes ko) ko n) awake) ∙ p.1);
    }

-- a list with one stamp more isn't empty
not_none : (ks : List ℕ) (k : ℕ) → ks ++ k ∷ [] ≡ [] → ⊥
not_none [] k e = cc
not_none (j ∷ ks) k e = cc

-- a block that may have read with one stamp more may have read without it
ready_front : (blocks : Blocks) (m : MachineView) (ks : List ℕ) (k : ℕ) → Ready blocks m (ks ++ k ∷ []) → Ready blocks m ks
ready_front blocks m ks k r = record {
  may = record {
    order = (order_front m.paths.one.since m.count ks k r.may.order).0;
    asks = (asks_front blocks m.paths.one.path m.writes [] ks k r.may.asks).0;
  };
  idle = λ i. absurd (not_none ks k (r.idle i));
}

-- a path whose block may have read with a last stamp is not still
ready_awake : (blocks : Blocks) (m : MachineView) (ks : List ℕ) (k : ℕ) → Ready blocks m (ks ++ k ∷ []) → is_still m ≡ false
ready_awake blocks m ks k r = go (is_still m) refl
  where
    go : (b : Bool) → is_still m ≡ b → b ≡ false
    go true e = absurd (not_none ks k (r.idle e))
    go false e = refl

-- if some events make these records, one event more makes its own behind them
more : (tapes : Tapes) (m n to : MachineView) (rs : List Entry) (e : Event) (made : List Entry) → IsReached tapes m rs n → records_of tapes e n ≡ made
    → behind_event tapes e n ≡ to → IsReached tapes m (rs ++ made) to
more tapes m n to rs e made x new is = record {
  events = x.events ++ e ∷ [];
  records = rw (history_push tapes m x.events e, x.records, x.reaches, new) refl;
  reaches = rw (run_push tapes m x.events e, x.reaches) is;
}

-- an event that makes no record leads on with the same records
more_none : (tapes : Tapes) (m n to : MachineView) (rs : List Entry) (e : Event) → IsReached tapes m rs n → records_of tapes e n ≡ []
    → behind_event tapes e n ≡ to → IsReached tapes m rs to
more_none tapes m n to rs e x new is = subst (λ es. IsReached tapes m es to) (append-nil rs) (more tapes m n to rs e [] x new is)

-- a machine with one read more of the first path is reached too, if the block may have read so
read_first : (tapes : Tapes) (m n : MachineView) (rs : List Entry) (ks ko : List ℕ) → Ready tapes.one n (ks ++ n.count ∷ [])
    → IsReached tapes m rs (loaded tapes.one tapes.two ks ko n)
    → IsReached tapes m rs (loaded tapes.one tapes.two (ks ++ n.count ∷ []) ko n)
read_first tapes m n rs ks ko r x =
    let awake = ready_awake tapes.one n ks n.count r in
    let need = (asks_front tapes.one n.paths.one.path n.writes [] ks n.count r.may.asks).1 in
    more_none tapes m (loaded tapes.one tapes.two ks ko n)
    (loaded tapes.one tapes.two (ks ++ n.count ∷ []) ko n) rs (TurnOf One) x
    (rw (read_kind tapes.one tapes.two One n ks ko need.0 awake need.1) refl)
    (read_turn tapes.one tapes.two One n ks ko need.0 awake need.1)

-- a machine with one read more of the second path is reached too, if the block may have read so
read_second : (tapes : Tapes) (m n : MachineView) (rs : List Entry) (ks ko : List ℕ) → Ready tapes.two (own_first Two n) (ko ++ n.count ∷ [])
    → IsReached tapes m rs (loaded tapes.one tapes.two ks ko n)
    → IsReached tapes m rs (loaded tapes.one tapes.two ks (ko ++ n.count ∷ []) n)
read_second tapes m n rs ks ko r x =
    let awake = ready_awake tapes.two (own_first Two n) ko n.count r in
    let need = (asks_front tapes.two n.paths.two.path n.writes [] ko n.count r.may.asks).1 in
    more_none tapes m (loaded tapes.one tapes.two ks ko n)
    (loaded tapes.one tapes.two ks (ko ++ n.count ∷ []) n) rs (TurnOf Two) x
    (rw (read_kind tapes.two tapes.one Two (own_first Two n) ko ks need.0 awake need.1) refl)
    (ap (own_first Two) (read_turn tapes.two tapes.one Two (own_first Two n) ko ks need.0 awake need.1))

-- these records lead to each machine that is `n` but for reads that may have been made
abbrev Claim : Tapes → MachineView → List Entry → MachineView → Type 0
Claim tapes m rs n =
    (ks ko : List ℕ) → Ready tapes.one n ks → Ready tapes.two (own_first Two n) ko
    → IsReached tapes m rs (loaded tapes.one tapes.two ks ko n)

-- these records lead to each machine that is `n` but for reads from before the last record
abbrev Base : Tapes → MachineView → List Entry → MachineView → Type 0
Base tapes m rs n =
    (ks ko : List ℕ) → Ready tapes.one n ks → Ready tapes.two (own_first Two n) ko → Below n.count ks → Below n.count ko
    → IsReached tapes m rs (loaded tapes.one tapes.two ks ko n)

-- from reads before the last record on, what the second path may have read since can be read now
extend_second : (tapes : Tapes) (m n : MachineView) (rs : List Entry) → Base tapes m rs n → (ks : List ℕ) → Ready tapes.one n ks → Below n.count ks
    → (ko : List ℕ) → Ready tapes.two (own_first Two n) ko → IsReached tapes m rs (loaded tapes.one tapes.two ks ko n)
extend_second tapes m n rs base ks r b =
    from_end (λ ko. Ready tapes.two (own_first Two n) ko → IsReached tapes m rs (loaded tapes.one tapes.two ks ko n))
    (λ s. base ks [] r s b tt)
    (λ ko k rest s. go ko k (rest (ready_front tapes.two (own_first Two n) ko k s)) s (same_or_below k n.count (order_front n.paths.two.since n.count ko k s.may.order).2))
  where
    go : (ko : List ℕ) (k : ℕ) → IsReached tapes m rs (loaded tapes.one tapes.two ks ko n) → Ready tapes.two (own_first Two n) (ko ++ k ∷ [])
        → (k ≡ n.count) ⊎ (k < n.count) → IsReached tapes m rs (loaded tapes.one tapes.two ks (ko ++ k ∷ []) n)
    go ko k x s (inl e) = rw e (read_second tapes m n rs ks ko (rw e at s) x)
    go ko k x s (inr lt) = base ks (ko ++ k ∷ []) r s b (below_push n.paths.two.since n.count n.count ko k s.may.order lt)

-- from reads before the last record on, all that both paths may have read since can be read now
extend_first : (tapes : Tapes) (m n : MachineView) (rs : List Entry) → Base tapes m rs n → Claim tapes m rs n
extend_first tapes m n rs base ks ko r s = from_end
    (λ ks. Ready tapes.one n ks → IsReached tapes m rs (loaded tapes.one tapes.two ks ko n))
    (λ r. extend_second tapes m n rs base [] r tt ko s)
    (λ ks k rest r. go ks k (rest (ready_front tapes.one n ks k r)) r (same_or_below k n.count (order_front n.paths.one.since n.count ks k r.may.order).2))
    ks r
  where
    go : (ks : List ℕ) (k : ℕ) → IsReached tapes m rs (loaded tapes.one tapes.two ks ko n) → Ready tapes.one n (ks ++ k ∷ [])
        → (k ≡ n.count) ⊎ (k < n.count) → IsReached tapes m rs (loaded tapes.one tapes.two (ks ++ k ∷ []) ko n)
    go ks k x r (inl e) = rw e (read_first tapes m n rs ks ko (rw e at r) x)
    go ks k x r (inr lt) = extend_second tapes m n rs base (ks ++ k ∷ []) r (below_push n.paths.one.since n.count n.count ks k r.may.order lt) ko s

-- with the stamps of its step a block may have read
step_ready : (blocks : Blocks) (path : Path) (m : MachineView) (k : EntryKind) (ks : List ℕ) → IsStep blocks path m k ks → Ready blocks m ks
step_ready blocks path m k ks i = record { may = i.reads; idle = λ e. absurd (let awake : is_still m ≡ false = step_awake blocks path m k ks i in cc) }

-- behind the record of a step of the first path each machine with reads from before it is reached
turned_first : (tapes : Tapes) (m n : MachineView) (rs : List Entry) (k : EntryKind) (ks : List ℕ) → Claim tapes m rs n → IsStep tapes.one One n k ks
    → Base tapes m (rs ++ entry One k ks ∷ []) (behind_step tapes.one One ks n)
turned_first tapes m n rs k ks claim i ks' ko r s b b' =
    let a : Blocks = tapes.one in
    let c : Blocks = tapes.two in
    let st = applied_steps a c One n k ks i in
    let none : ks' ≡ [] = st.mine ks' r (rw (st.count) at b) in
    let th = st.theirs ko s (rw (st.count) at b') in
    rw none (more tapes m (loaded a c ks ko n) (loaded a c [] ko (behind_step a One ks n)) rs (TurnOf One) (entry One k ks ∷ [])
    (claim ks ko (step_ready a One n k ks i) th.0)
    (rw (step_kind a c One n k ks ko i) refl) th.1)

-- behind the record of a step of the second path each machine with reads from before it is reached
turned_second : (tapes : Tapes) (m n : MachineView) (rs : List Entry) (k : EntryKind) (ks : List ℕ) → Claim tapes m rs n → IsStep tapes.two Two (own_first Two n) k ks
    → Base tapes m (rs ++ entry Two k ks ∷ []) (own_first Two (behind_step tapes.two Two ks (own_first Two n)))
turned_second tapes m n rs k ks claim i ko ks' s r b' b =
    let a : Blocks = tapes.two in
    let c : Blocks = tapes.one in
    let st = applied_steps a c Two (own_first Two n) k ks i in
    let none : ks' ≡ [] = st.mine ks' r (rw (st.count) at b) in
    let th = st.theirs ko s (rw (st.count) at b') in
    rw none (more tapes m (loaded c a ko ks n) (own_first Two (loaded a c [] ko (behind_step a Two ks (own_first Two n)))) rs (TurnOf Two) (entry Two k ks ∷ [])
    (claim ko ks th.0 (step_ready a Two (own_first Two n) k ks i))
    (rw (step_kind a c Two (own_first Two n) k ks ko i) refl) (ap (own_first Two) th.1))

-- behind the record of a step of either path each machine with reads from before it is reached
turned : (tapes : Tapes) (m n : MachineView) (rs : List Entry) (p : Path) (k : EntryKind) (ks : List ℕ) → Claim tapes m rs n
    → IsStep (of_path tapes p) p (own_first p n) k ks
    → Base tapes m (rs ++ entry p k ks ∷ []) (own_first p (behind_step (of_path tapes p) p ks (own_first p n)))
turned tapes m n rs One k ks claim i = turned_first tapes m n rs k ks claim i
turned tapes m n rs Two k ks claim i = turned_second tapes m n rs k ks claim i

-- an edit forgets what was read: no read that counts behind it was made before it
edited_base : (tapes : Tapes) (m n : MachineView) (rs : List Entry) (p : Path) (edit : Edit) → Claim tapes m rs n → n.alarm ≡ None
    → Base tapes m (rs ++ edit_entry p edit ∷ []) (behind_edit_of p edit n)
edited_base tapes m n rs p edit claim calm ks ko r s b b' =
    let none = unread p r s b b' in
    rw (none.0, none.1) (more tapes m (loaded tapes.one tapes.two [] [] n)
    (loaded tapes.one tapes.two [] [] (behind_edit_of p edit n)) rs (EditOf p edit) (edit_entry p edit ∷ [])
    (claim [] [] (ready_none tapes.one n) (ready_none tapes.two (own_first Two n)))
    (calmly n.alarm [] (edit_entry p edit ∷ []) calm)
    (calmly n.alarm (loaded tapes.one tapes.two [] [] n) (behind_edit_of p edit (loaded tapes.one tapes.two [] [] n)) calm ∙ same p))
  where
    unread : (p : Path) {ks ko : List ℕ} → Ready tapes.one (behind_edit_of p edit n) ks
        → Ready tapes.two (own_first Two (behind_edit_of p edit n)) ko
        → Below (behind_edit_of p edit n).count ks → Below (behind_edit_of p edit n).count ko → (ks ≡ []) × (ko ≡ [])
    unread One r s b b' =
        (order_none (n.count + 1) (n.count + 1) _ r.may.order b, order_none (n.count + 1) (n.count + 1) _ s.may.order b')
    unread Two r s b b' =
        (order_none (n.count + 1) (n.count + 1) _ r.may.order b, order_none (n.count + 1) (n.count + 1) _ s.may.order b')

    same : (p : Path) → behind_edit_of p edit (loaded tapes.one tapes.two [] [] n)
        ≡ loaded tapes.one tapes.two [] [] (behind_edit_of p edit n)
    same One = refl
    same Two = refl

-- behind each legal record each machine with reads from before it is reached
base_of : (tapes : Tapes) (m n : MachineView) (rs : List Entry) (e : Entry) → Claim tapes m rs n → IsNext tapes n e
    → Base tapes m (rs ++ e ∷ []) (behind_entry tapes e n)
base_of tapes m n rs e claim (inl i) =
    let step = step_no_edit (of_path tapes e.path) e.path (own_first e.path n) e.kind e.stamps i in
    rw (behind_step_entry tapes n e step) (turned tapes m n rs e.path e.kind e.stamps claim i)
base_of tapes m n rs e claim (inr i) =
    rw (behind_edit_entry tapes n e i.edit i.is)
    (subst (λ (x : Entry). Base tapes m (rs ++ x ∷ []) (behind_edit_of e.path i.edit n)) (sym i.is)
    (edited_base tapes m n rs e.path i.edit claim i.calm))

-- at the opening no read has been made, and no event is needed
base_none : (tapes : Tapes) (first second : PathView) → Base tapes (opening first second) [] (opening first second)
base_none tapes first second [] [] r r' b b' = record { events = []; records = refl; reaches = refl }
base_none tapes first second (k ∷ ks) ko r r' b b' = absurd (omega (arith, b.0))
base_none tapes first second [] (k ∷ ko) r r' b b' = absurd (omega (arith, b'.0))

-- behind a legal history each machine that is its fold but for reads that may have been made is
-- reached by some events
reached : (tapes : Tapes) (first second : PathView) (rs : List Entry) → IsLegal tapes (opening first second) rs
    → Claim tapes (opening first second) rs (fold tapes (opening first second) rs)
reached tapes first second =
    let m : MachineView = opening first second in
    from_end (λ rs. IsLegal tapes m rs → Claim tapes m rs (fold tapes m rs))
    (λ legal. extend_first tapes m m [] (base_none tapes first second))
    (λ rs e rest legal. let l = legal_front tapes m rs e legal in
    extend_first tapes m (fold tapes m (rs ++ e ∷ [])) (rs ++ e ∷ [])
    (rw (fold_push tapes m rs e) (base_of tapes m (fold tapes m rs) rs e (rest l.0) l.1)))

-- a fold leaves no reads, if there were none before
pub fold_bare : (tapes : Tapes) (m : MachineView) (rs : List Entry) → without_reads m ≡ m → without_reads (fold tapes m rs) ≡ fold tapes m rs
fold_bare tapes m [] h = h
fold_bare tapes m (e ∷ es) h = fold_bare tapes (behind_entry tapes e m) es (entry_bare tapes e m)

-- some events make the records of a legal history, and lead to its fold but for block reads
pub run_of : (tapes : Tapes) (first second : PathView) (rs : List Entry) → IsLegal tapes (opening first second) rs
    → IsRun tapes (opening first second) rs (fold tapes (opening first second) rs)
run_of tapes first second rs legal =
    let n : MachineView = fold tapes (opening first second) rs in
    let x = reached tapes first second rs legal [] [] (ready_none tapes.one n) (ready_none tapes.two (own_first Two n)) in
    record { events = x.events; records = x.records; reaches = rw x.reaches (fold_bare tapes (opening first second) rs refl) }

-- some events make the records of a legal history, and lead to each machine without an alarm that
-- is its fold but for lawful reads
pub lawful_of : (tapes : Tapes) (first second : PathView) (rs : List Entry) (to : MachineView) → IsLegal tapes (opening first second) rs
    → fold tapes (opening first second) rs ≡ without_reads to → to.alarm ≡ None → AreLawful tapes to → IsReached tapes (opening first second) rs to
lawful_of tapes first second rs to legal folds calm l =
    let x = reached tapes first second rs legal to.paths.one.stamps to.paths.two.stamps
    (rw folds (lawful_ready tapes.one to calm l.first)) (rw folds (lawful_ready tapes.two (own_first Two to) calm l.second)) in
    record { events = x.events; records = x.records; reaches = x.reaches ∙ rw (folds, ← l.first.values, ← l.second.values) refl }
  where
    only : (a : Option Alarm) (f : Bool) → a ≡ None → (is_some a || f) ≡ true → f ≡ true
    only None f e i = i
    only (Some t) f e i = absurd cc

    lawful_ready : (blocks : Blocks) (m : MachineView) → m.alarm ≡ None → IsLawful blocks m → Ready blocks (without_reads m) m.paths.one.stamps
    lawful_ready blocks m calm l = record {
      may = record { order = l.may.order; asks = l.may.asks };
      idle = λ i. l.none (only m.alarm (is_idle m.paths.one) calm i);
    }
