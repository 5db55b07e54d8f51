-- A table is still a table after each part of a step, and the parts together are the step.
-- EndsTold and the proofs of `ended`, `into_parts`, `prepare` and `step_into` (src/table.rt) use it.
use Rattle.run_table.specs.declared.resting.Resting.{Resting}
use Rattle.std.proofs.Common.{◌≡◌, ◌≢◌, ◌⊎◌, ⊎_elim, ℕ, ◌+◌, ◌≤◌, ◌<◌, ◌==◌, Bool, true, false, List, ◌++◌, length, refl, sym, ◌∙◌, ap, subst, arith, length-append, Option, Some, None}
use Rattle.std.specs.Prelude.{IsTrue, nat_lt, if◌then◌else◌}
use Rattle.disk_model.specs.Device.{DiskState}
use Rattle.gate_file.specs.Gate.{Gate}
use Rattle.nc_number.specs.declared.path.Path.{Path}
use Rattle.nc_outside.specs.declared.halt.Halt.{Halt}
use Rattle.nc_outside.specs.declared.halt.Halt.TheVariants as halt
use Rattle.nc_verify.specs.declared.verified.Verified.{Verified}
use Rattle.run_records.specs.Entries.{Entry}
use Rattle.run_records.specs.declared.header.Header.{Header}
use Rattle.two_path.specs.declared.turn.Turn.{Turn}
use Rattle.two_path.specs.declared.turn.Turn.TheVariants as turn
use Rattle.two_path.specs.Machine.{MachineView}
use Rattle.two_path.specs.Turns.{turn_of, entry_of}
use Rattle.two_path.specs.Joined.{RoomyMachine, AreAtTheirWaits}
use Rattle.two_path.specs.Histories.{list_of, IsLegal, IsKept, Keeps, Counts, TurnOf}
use Rattle.run_table.specs.declared.answer.TableStep.{TableStep}
use Rattle.run_table.specs.declared.answer.TableStep.TheVariants.{Turned, DiskFault}
use Rattle.run_table.specs.Recording.{RecordingView, IsJournaled, Records, MayNote}
use Rattle.nc_number.specs.declared.both.Both.{Both}
use Rattle.nc_number.proofs.Bools.{neither}
use Rattle.nc_number.specs.declared.limits.TheConstants.{MOST_PENDING, MOST_RECORDS}
use Rattle.run_table.specs.Kept.{TableView, tapes_in, opening_of, MayGoOn, HasReason, IsTable}
use Rattle.run_table.specs.Stepping.{is_shown, is_due, bound_of, drains, step_without_drain, step_by, step_of, Answers, reason_of, IsStep}
use Rattle.run_table.specs.Stepping.Answers.{at_once, flushed, failed}
use Rattle.nc_number.specs.declared.path.Path.TheVariants.{One, Two}
use Rattle.nc_number.specs.Both.{of_path}
use Rattle.seat_table.specs.Turning.{Draining}
use Rattle.run_table.specs.Draining.{none_resting, resting_behind, StandsAsTold}
use Rattle.run_table.proofs.AlarmsKept.{alarm_behind, turn_alarm}

-- a turn makes one record at most
few_made : (entry : Option Entry) → length (list_of entry) ≤ 1
few_made None = omega arith
few_made (Some entry) = omega arith

-- without an alarm before it, a turn leaves as reason the alarm that it raised, or none
turned_reason : {D : Type 0} (m : MachineView) (r : RecordingView D) (t : Turn) → m.alarm ≡ alarm_behind None t → IsTrue r.log.file.live
    → length r.history < r.flushed + MOST_PENDING → HasReason m r (reason_of (Turned t))
turned_reason m r (turn.Read variable stamp) is live few = record { calm = is; live = live; few = few }
turned_reason m r (turn.Did moves) is live few = record { calm = is; live = live; few = few }
turned_reason m r (turn.Arrived code) is live few = record { calm = is; live = live; few = few }
turned_reason m r (turn.Met code) is live few = record { calm = is; live = live; few = few }
turned_reason m r (turn.Ended moves) is live few = record { calm = is; live = live; few = few }
turned_reason m r (turn.Waiting code) is live few = record { calm = is; live = live; few = few }
turned_reason m r turn.Finished is live few = record { calm = is; live = live; few = few }
turned_reason m r (turn.Alarm alarm) is live few = (is, live)
turned_reason m r (turn.Halted alarm) is live few = record { calm = is; live = live; few = few }
turned_reason m r turn.Edited is live few = record { calm = is; live = live; few = few }

-- without an alarm before it, the answer to a turn gives a reason that holds of the new table
reason_kept : {D : Type 0} (state : D → DiskState) (m : MachineView) (r r' : RecordingView D) (made : List Entry) (t : Turn) (answer : TableStep)
    → m.alarm ≡ alarm_behind None t → IsTrue r.log.file.live → length r.history < r.flushed + MOST_PENDING → r'.history ≡ r.history ++ made → length made ≤ 1
    → Answers state (is_due r made t) (Turned t) r r' answer → HasReason m r' (reason_of answer)
reason_kept state m r r' made t answer is live few history one (at_once not_due same file stays) =
    let not_full = (neither (is_shown t) (r.flushed + MOST_PENDING == length (r.history ++ made)) not_due).1 in
    let long : length r'.history ≡ length (r.history ++ made) = ap length history in
    let sum : length (r.history ++ made) ≡ length r.history + length made = length-append r.history made in
    let less : length r'.history < r'.flushed + MOST_PENDING = grind arith in
    subst (λ (a : TableStep). HasReason m r' (reason_of a)) (sym same)
    (turned_reason m r' t is (subst (λ (f : Gate _). IsTrue f.live) (sym file) live) less)
reason_kept state m r r' made t answer is live few history one (flushed was_due same still all) =
    subst (λ (a : TableStep). HasReason m r' (reason_of a)) (sym same) (turned_reason m r' t is still (omega (arith, all)))
reason_kept state m r r' made t answer is live few history one (failed was_due same dead stays rose) =
    subst (λ (a : TableStep). HasReason m r' (reason_of a)) (sym same) dead

-- both paths stand as told behind the answer to a turn, unless the disk failed
told_stand : {D : Type 0} (state : D → DiskState) (due : Bool) (v : Verified) (m : MachineView) (path : Path) (t : Turn) (resting : Both Resting) (r r' : RecordingView D) (answer : TableStep)
    → Answers state due (Turned t) r r' answer → reason_of answer ≢ Some halt.Disk → ((q : Path) → StandsAsTold v m q (of_path (resting_behind path (Turned t) resting) q))
    → (q : Path) → StandsAsTold v m q (of_path (resting_behind path answer resting) q)
told_stand state due v m path t resting r r' answer (at_once not_due same file stays) free stand q =
    subst (λ (a : TableStep). StandsAsTold v m q (of_path (resting_behind path a resting) q)) (sym same) (stand q)
told_stand state due v m path t resting r r' answer (flushed was_due same live all) free stand q =
    subst (λ (a : TableStep). StandsAsTold v m q (of_path (resting_behind path a resting) q)) (sym same) (stand q)
told_stand state due v m path t resting r r' answer (failed was_due same dead stays rose) free stand q = absurd (free (ap reason_of same))

-- the journal may be written unless the reason that is kept is a fault of the disk
pub live_by : {D : Type 0} (m : MachineView) (r : RecordingView D) (why : Option Halt) → HasReason m r why → (why ≡ Some halt.Disk → ⊥)
    → IsTrue r.log.file.live
live_by m r None has other = has.live
live_by m r (Some (halt.Alarm alarm)) has other = has.1
live_by m r (Some halt.Disk) has other = absurd (other refl)
live_by m r (Some (halt.Turret path)) has other = has.live
live_by m r (Some halt.Full) has other = absurd has
live_by m r (Some halt.Budget) has other = absurd has

-- a turn that is answered as a wait of the path is that wait
turned_is : (t : Turn) (code : ℕ) → Turned t ≡ Turned (turn.Waiting code) → t ≡ turn.Waiting code
turned_is t code is = cc

-- an answer that the path waits is that of its turn
pub answer_waits : {D : Type 0} (state : D → DiskState) (due : Bool) (t : Turn) (r r' : RecordingView D) (answer : TableStep) (code : ℕ)
    → Answers state due (Turned t) r r' answer → answer ≡ Turned (turn.Waiting code) → t ≡ turn.Waiting code
answer_waits state due t r r' answer code (at_once not_due same file stays) is = turned_is t code (sym same ∙ is)
answer_waits state due t r r' answer code (flushed yes_due same live all) is = turned_is t code (sym same ∙ is)
answer_waits state due t r r' answer code (failed yes_due same dead stays rose) is = absurd (let clash : DiskFault ≡ Turned (turn.Waiting code) = sym same ∙ is in cc)

-- if nothing bounds the table, its journal is not full and its budget is not spent
pub turn_comes : {D : Type 0} (t : TableView D) → bound_of t ≡ None → (length t.recording.history ≡ t.verified.settings.records → ⊥) × (1 ≤ t.budget)
turn_comes t = go (length t.recording.history == t.verified.settings.records) (t.budget == 0) refl refl
  where
    go : (a b : Bool) → (length t.recording.history == t.verified.settings.records) ≡ a → (t.budget == 0) ≡ b
        → (if a then Some halt.Full else if b then Some halt.Budget else None) ≡ None
        → (length t.recording.history ≡ t.verified.settings.records → ⊥) × (1 ≤ t.budget)
    go true b full spent none = absurd cc
    go false true full spent none = absurd cc
    go false false full spent none = (λ same. absurd (grind arith), grind arith)

-- the table of this pair, machine, history, reason, budget, and of which paths are to be drained
abbrev pub table_of : {D : Type 0} → Verified → RoomyMachine → RecordingView D → Option Halt → ℕ → Both Resting → TableView D
table_of v m r why budget resting = record { verified = v; machine = m.machine; turns = m.room; recording = r; halt = why; budget = budget; resting = resting }

-- a table before and after a turn, by its parts
module _ {D : Type 0} (state : D → DiskState) (v : Verified) (m m' : RoomyMachine) (r r' : RecordingView D) (budget budget' : ℕ) (resting resting' : Both Resting) (path : Path)
    (before : Option Halt) (none : before ≡ None) (table : IsTable state (table_of v m r before budget resting)) where
  -- a table that nothing has stopped may go on
  may : MayGoOn m.machine r
  may = subst (HasReason m.machine r) none table.reason

  -- the step is the path's turn
  module _ (t : Turn) (entry : Option Entry) (answer : TableStep)
      (machine : m'.machine ≡ (turn_of (tapes_in v) path m.machine).machine) (turn_is : t ≡ (turn_of (tapes_in v) path m.machine).turn)
      (entry_is : entry ≡ entry_of (tapes_in v) path m.machine) (bound : bound_of (table_of v m r before budget resting) ≡ None)
      (undrained : drains (table_of v m r before budget resting) path ≡ Draining.none)
      (answers : Answers state (is_due r (list_of entry) t) (Turned t) r r' answer) (records : Records state (list_of entry) r r')
      (spent : budget' + length (list_of entry) ≡ budget) where
    -- the parts of a turn are the turn of the table
    turn_by : IsStep state (step_without_drain (table_of v m r before budget resting) path None None) (table_of v m r None budget resting) (table_of v m' r' (reason_of answer) budget' resting') answer
    turn_by = record {
      answer = subst (λ (e : Option Entry). Answers state (is_due r (list_of e) (turn_of (tapes_in v) path m.machine).turn) (Turned (turn_of (tapes_in v) path m.machine).turn) r r' answer) entry_is
          (subst (λ (u : Turn). Answers state (is_due r (list_of entry) u) (Turned u) r r' answer) turn_is answers);
      records = subst (λ (e : Option Entry). Records state (list_of e) r r') entry_is records;
      machine = machine;
      budget = subst (λ (e : Option Entry). budget' + length (list_of e) ≡ budget) entry_is spent;
      halt = refl;
      verified = refl;
    }

    -- the parts of a turn are a step of the table
    pub turn_step_is : IsStep state (step_of (table_of v m r before budget resting) path) (table_of v m r before budget resting) (table_of v m' r' (reason_of answer) budget' resting') answer
    turn_step_is =
        subst (λ (d : Draining). IsStep state (step_by (table_of v m r before budget resting) path before (bound_of (table_of v m r before budget resting)) d) (table_of v m r before budget resting) (table_of v m' r' (reason_of answer) budget' resting') answer) (sym undrained)
        (subst (λ (h : Option Halt). IsStep state (step_by (table_of v m r before budget resting) path h (bound_of (table_of v m r before budget resting)) Draining.none) (table_of v m r h budget resting) (table_of v m' r' (reason_of answer) budget' resting') answer) (sym none)
        (subst (λ (b : Option Halt). IsStep state (step_by (table_of v m r before budget resting) path None b Draining.none) (table_of v m r None budget resting) (table_of v m' r' (reason_of answer) budget' resting') answer) (sym bound) turn_by))

    -- the table before the turn is a table, machines keep and count their histories, and both paths
    -- stand as told behind the turn
    module _ (keeps : Keeps (tapes_in v) (opening_of v))
        (counted : (entries : List Entry) → IsLegal (tapes_in v) (opening_of v) entries → Counts (tapes_in v) (opening_of v) entries)
        (waits : AreAtTheirWaits v.left.order v.right.order m'.machine)
        (roomy : m.machine.count + m.room ≤ m'.machine.count + m'.room)
        (less : length r.history < v.settings.records) (resting_is : resting' ≡ resting_behind path answer resting)
        (stand : (q : Path) → StandsAsTold v m'.machine q (of_path (resting_behind path (Turned t) resting) q)) where
      -- a machine counts the records of its history
      count_of : (entries : List Entry) (now : MachineView) → IsKept (tapes_in v) (opening_of v) entries now → now.count ≡ length entries
      count_of entries now k = ap (λ (x : MachineView). x.count) (sym k.folds) ∙ (counted entries k.legal).count

      -- after the turn the machine is the fold of the history with its record
      kept' : IsKept (tapes_in v) (opening_of v) r'.history m'.machine
      kept' =
          let event = keeps.event r.history m.machine (TurnOf path) table.kept in
          let of_entry : r.history ++ list_of (entry_of (tapes_in v) path m.machine) ≡ r'.history =
          ap (λ (e : Option Entry). r.history ++ list_of e) (sym entry_is) ∙ sym records.follows.history in
          subst (λ (l : List Entry). IsKept (tapes_in v) (opening_of v) l m'.machine) of_entry
          (subst (λ (x : MachineView). IsKept (tapes_in v) (opening_of v) (r.history ++ list_of (entry_of (tapes_in v) path m.machine)) x) (sym machine) event)

      -- the history is longer by the record of the turn
      grown : length r'.history ≡ length r.history + length (list_of entry)
      grown = ap length records.follows.history ∙ length-append r.history (list_of entry)

      -- the alarm after the turn is the one that it raised, or none
      alarm' : m'.machine.alarm ≡ alarm_behind None t
      alarm' =
          ap (λ (x : MachineView). x.alarm) machine ∙ turn_alarm (tapes_in v) path m.machine
          ∙ ap (λ o. alarm_behind o (turn_of (tapes_in v) path m.machine).turn) may.calm ∙ ap (alarm_behind None) (sym turn_is)

      -- the table after a turn is a table
      pub turn_table : IsTable state (table_of v m' r' (reason_of answer) budget' resting')
      turn_table = record {
        kept = kept';
        waits = waits;
        few = omega (arith, grown, few_made entry, less);
        turns = omega (arith, roomy, count_of r.history m.machine table.kept, count_of r'.history m'.machine kept', grown, spent, table.turns);
        room = λ some. omega (arith, grown, spent, records.room, table.room (omega (arith, spent, some)));
        rests = λ free q. subst (λ (b : Both Resting). StandsAsTold v m'.machine q (of_path b q)) (sym resting_is) (told_stand state (is_due r (list_of entry) t) v m'.machine path t resting r r' answer answers free stand q);
        reason = reason_kept state m'.machine r r' (list_of entry) t answer alarm' may.live may.few records.follows.history (few_made entry) answers;
        journaled = (table.journaled.0, table.journaled.1, (records.follows.journal table.journaled.0 table.journaled.2).journaled);
      }

-- the reason that a table keeps does not depend on the room for records
reason_room : {D : Type 0} (m : MachineView) (r : RecordingView D) (room : ℕ) (why : Option Halt) → HasReason m r why
    → HasReason m (record { history = r.history; room = room; flushed = r.flushed; log = r.log }) why
reason_room m r room None may = record { calm = may.calm; live = may.live; few = may.few }
reason_room m r room (Some (halt.Alarm alarm)) is = is
reason_room m r room (Some halt.Disk) is = is
reason_room m r room (Some (halt.Turret path)) may = record { calm = may.calm; live = may.live; few = may.few }
reason_room m r room (Some halt.Full) is = is
reason_room m r room (Some halt.Budget) is = is

-- that the journal is that of the history does not depend on the room for records
journaled_room : {D : Type 0} (state : D → DiskState) (header : Header) (r : RecordingView D) (room : ℕ) → IsJournaled state header r
    → IsJournaled state header (record { history = r.history; room = room; flushed = r.flushed; log = r.log })
journaled_room state header r room j = record { held = j.held; left = j.left }

-- if no turret was told to rest, both paths stand as told
pub none_stand : (v : Verified) (m : MachineView) (q : Path) → StandsAsTold v m q (of_path none_resting q)
none_stand v m One = tt
none_stand v m Two = tt

-- a table is one still if only it is set which turrets rest for a wait, and both paths stand as told
pub told_table : {D : Type 0} (state : D → DiskState) (v : Verified) (m : RoomyMachine) (r : RecordingView D) (why : Option Halt) (budget : ℕ) (resting resting' : Both Resting)
    → IsTable state (table_of v m r why budget resting) → (why ≢ Some halt.Disk → (q : Path) → StandsAsTold v m.machine q (of_path resting' q))
    → IsTable state (table_of v m r why budget resting')
told_table state v m r why budget resting resting' table stand = record {
  kept = table.kept;
  waits = table.waits;
  few = table.few;
  turns = table.turns;
  room = table.room;
  reason = table.reason;
  rests = stand;
  journaled = table.journaled;
}

-- a table with more room is one still, also if no turret counts as told to rest then
pub room_made : {D : Type 0} (state : D → DiskState) (v : Verified) (m m' : RoomyMachine) (r r' : RecordingView D) (why : Option Halt) (budget budget' : ℕ) (resting resting' : Both Resting)
    → IsTable state (table_of v m r why budget resting) → m'.machine ≡ m.machine → r'.history ≡ r.history → r'.flushed ≡ r.flushed → r'.log ≡ r.log
    → budget' ≤ m'.room → (1 ≤ budget' → length r'.history + budget' ≤ r'.room) → ((resting' ≡ resting) ⊎ (resting' ≡ none_resting)) → IsTable state (table_of v m' r' why budget' resting')
room_made state v m m' r r' why budget budget' resting resting' table machine history count log turns room told =
    let same : r' ≡ record { history = r.history; room = r'.room; flushed = r.flushed; log = r.log } =
    λ i. record { history = history i; room = r'.room; flushed = count i; log = log i } in
    record {
      kept = subst (λ (l : List Entry). IsKept (tapes_in v) (opening_of v) l m'.machine) (sym history)
          (subst (λ (x : MachineView). IsKept (tapes_in v) (opening_of v) r.history x) (sym machine) table.kept);
      waits = subst (λ (x : MachineView). AreAtTheirWaits v.left.order v.right.order x) (sym machine) table.waits;
      few = omega (arith, ap length history, table.few);
      turns = turns;
      room = room;
      rests = λ free q. ⊎_elim
          (λ (e : resting' ≡ resting). subst (λ (b : Both Resting). StandsAsTold v m'.machine q (of_path b q)) (sym e) (subst (λ (x : MachineView). StandsAsTold v x q (of_path resting q)) (sym machine) (table.rests free q)))
          (λ (e : resting' ≡ none_resting). subst (λ (b : Both Resting). StandsAsTold v m'.machine q (of_path b q)) (sym e) (none_stand v m'.machine q)) told;
      reason = subst (λ (x : RecordingView _). HasReason m'.machine x why) (sym same)
          (reason_room m'.machine r r'.room why (subst (λ (x : MachineView). HasReason x r why) (sym machine) table.reason));
      journaled = (
        table.journaled.0,
        table.journaled.1,
        subst (λ (x : RecordingView _). IsJournaled state table.journaled.0 x) (sym same) (journaled_room state table.journaled.0 r r'.room table.journaled.2),
      );
    }

-- what is at most a number and isn't that number is less
less_by : (a b : ℕ) → a ≤ b → (a ≡ b → ⊥) → a < b
less_by a b le differ = go (nat_lt a b) refl
  where
    go : (t : Bool) → nat_lt a b ≡ t → a < b
    go true is = grind arith
    go false is =
        let same : a ≡ b = grind arith in
        absurd (differ same)

-- a table that is not full has fewer records than the settings allow, and than a machine may count
pub few_turns : {D : Type 0} (state : D → DiskState) (v : Verified) (m : RoomyMachine) (r : RecordingView D) (why : Option Halt) (budget : ℕ) (resting : Both Resting)
    → IsTable state (table_of v m r why budget resting)
    → ((entries : List Entry) → IsLegal (tapes_in v) (opening_of v) entries → Counts (tapes_in v) (opening_of v) entries)
    → (length r.history ≡ v.settings.records → ⊥) → (m.machine.count < MOST_RECORDS) × (length r.history < v.settings.records)
few_turns state v m r why budget resting table counted differ =
    let count : m.machine.count ≡ length r.history = ap (λ (x : MachineView). x.count) (sym table.kept.folds) ∙ (counted r.history table.kept.legal).count in
    let less = less_by (length r.history) v.settings.records table.few differ in
    (omega (arith, count, less, v.settings.most_records), less)

-- a table that nothing stops or bounds may note one record more
pub may_note : {D : Type 0} (state : D → DiskState) (v : Verified) (m : RoomyMachine) (r : RecordingView D) (why : Option Halt) (budget : ℕ) (resting : Both Resting)
    → IsTable state (table_of v m r why budget resting) → why ≡ None → bound_of (table_of v m r why budget resting) ≡ None → MayNote r
may_note state v m r why budget resting table none bound =
    let may : MayGoOn m.machine r = subst (HasReason m.machine r) none table.reason in
    let comes = turn_comes (table_of v m r why budget resting) bound in
    let less = less_by (length r.history) v.settings.records table.few comes.0 in
    record { live = may.live; few = may.few; most = omega (arith, less, v.settings.most_records); room = omega (arith, table.room comes.1, comes.1) }
