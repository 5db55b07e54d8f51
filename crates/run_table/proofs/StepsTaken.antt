-- The parts of a step as one call: records that are added, a flush after them, and the answer.
-- Then and the proofs of `take` and `flush_before` (src/stepping.rt) and `Table::step_into`
-- (src/table.rt) use it.
use Rattle.nc_moves.specs.declared.motion.Move.{Move}
use Rattle.nc_number.specs.declared.both.Both.{Both}
use Rattle.seat_table.specs.Turning.{Draining}
use Rattle.run_table.specs.Apart.{step_with}
use Rattle.run_table.specs.Draining.{drain_answer}
use Rattle.run_table.specs.declared.answer.StepAnswer.{StepAnswer}
use Rattle.run_table.specs.declared.answer.StepAnswer.TheVariants as apart
use Rattle.run_table.specs.declared.resting.Resting.{Resting}
use Rattle.std.proofs.Common.{rules, ◌≡◌, ℕ, ◌+◌, ◌≤◌, ◌<◌, Bool, true, false, List, [], ◌++◌, length, drop, refl, sym, ◌∙◌, ap, subst, arith, length-append, append-nil, ◌==◌, Option, Some, None}
use Rattle.std.specs.Prelude.{IsTrue, nat_lt}
use Rattle.disk_model.specs.Device.{DiskState, IsCoherent, Reads, Rose}
use Rattle.disk_model.specs.Moments.{LeavesOnly, Uses}
use Rattle.disk_model.proofs.Runs.{no_call, uses_none}
use Rattle.gate_file.specs.Gate.{Gate}
use Rattle.run_records.specs.Entries.{Entry}
use Rattle.run_journal.specs.Batches.{batch_bytes}
use Rattle.nc_number.specs.declared.path.Path.{Path}
use Rattle.nc_number.proofs.Bools.{or_right}
use Rattle.nc_number.specs.declared.limits.TheConstants.{MOST_PENDING}
use Rattle.nc_outside.specs.declared.halt.Halt.{Halt}
use Rattle.two_path.specs.declared.turn.Turn.{Turn}
use Rattle.run_table.specs.declared.answer.TableStep.{TableStep}
use Rattle.run_table.specs.declared.answer.TableStep.TheVariants.{Drain, Undrained, DiskFault, Halted}
use Rattle.run_table.specs.Kept.{TableView}
use Rattle.run_table.specs.Stepping.{Answers, is_shown, is_due, drains, step_by, step_of, bound_of, idle_step, reason_of, IsStep}
use Rattle.run_table.specs.Stepping.Answers.{at_once, flushed, failed}
use Rattle.run_table.specs.Recording.{RecordingView, StandsForPrefix, Records, IsNoted}
use Rattle.run_table.proofs.RecordingsFollow.{sends_nothing}

-- a record that is added makes no call of the disk
pub noted_only : {D : Type 0} (state : D → DiskState) (made : List Entry) (old new : RecordingView D)
    → ((disk : D) → IsCoherent (state disk)) → IsNoted state made old new → Records state made old new
noted_only state made old new coherent noted = record {
  follows = record {
    history = noted.history;
    flushed = omega (arith, noted.flushed);
    version = noted.version;
    journal = λ header j.
        let k = noted.journal header j in
        record {
          journaled = k;
          any_moment = λ bytes reads.
              let here : LeavesOnly (StandsForPrefix header new.flushed new.history) (state old.log.file.disk) (state old.log.file.disk) =
              no_call (StandsForPrefix header new.flushed new.history) (state old.log.file.disk) (coherent old.log.file.disk)
              (subst (λ (f : Gate _). (c : List ℕ) → (state f.disk).image c → StandsForPrefix header new.flushed new.history c) noted.file
              (k.left bytes (subst (λ (f : Gate _). Reads (state f.disk) bytes) (sym noted.file) reads))) in
              subst (λ (f : Gate _). LeavesOnly (StandsForPrefix header old.flushed new.history) (state old.log.file.disk) (state f.disk)) (sym noted.file)
              (subst (λ (n : ℕ). LeavesOnly (StandsForPrefix header n new.history) (state old.log.file.disk) (state old.log.file.disk)) noted.flushed here);
        };
    sends = λ within. sends_nothing state made old new noted.history noted.file noted.flushed within;
    told = λ bytes reads. (bytes, subst (λ (f : Gate _). Reads (state f.disk) bytes) (sym noted.file) reads);
    rests = λ dead. noted.file;
    later = subst (λ (f : Gate _). (state old.log.file.disk).faults ≤ (state f.disk).faults) (sym noted.file) (omega arith);
    calm = λ live. ap (λ (f : Gate _). (state f.disk).faults) noted.file;
  };
  room = noted.room;
  uses = subst (λ (f : Gate _). Uses 4 (old.log.file.end + length (batch_bytes (drop old.flushed new.history)) + 6) (state old.log.file.disk) (state f.disk)) (sym noted.file)
      (uses_none 4 (old.log.file.end + length (batch_bytes (drop old.flushed new.history)) + 6) (state old.log.file.disk));
}

-- a call that does nothing keeps the journal
pub nothing : {D : Type 0} (state : D → DiskState) (r : RecordingView D) → ((disk : D) → IsCoherent (state disk)) → Records state [] r r
nothing state r coherent =
    noted_only state [] r r coherent (record { within = λ (some : 1 ≤ 0). absurd (omega (arith, some)); history = sym (append-nil r.history); file = refl; flushed = refl; version = refl; room = refl; journal = λ header j. j })

-- an answer after a flush that is done
pub answer_flushed : {D : Type 0} (state : D → DiskState) (answer : TableStep) (old new : RecordingView D) → old.flushed ≤ length old.history
    → new.history ≡ old.history ++ [] → new.flushed ≡ length old.history → new.log.file.live ≡ true → (old.flushed ≡ length old.history → new.log.file ≡ old.log.file)
    → Answers state (nat_lt old.flushed (length old.history)) answer old new answer
answer_flushed state answer old new within history all live idle = go (nat_lt old.flushed (length old.history)) refl
  where
    go : (b : Bool) → nat_lt old.flushed (length old.history) ≡ b → Answers state b answer old new answer
    go true is = flushed refl refl (subst IsTrue (sym live) (search rules)) (all ∙ ap length (sym (history ∙ append-nil old.history)))
    go false is =
        let none : old.flushed ≡ length old.history = grind arith in
        at_once refl refl (idle none) (all ∙ sym none)

-- an answer after a flush that failed is a fault of the disk
pub answer_failed : {D : Type 0} (state : D → DiskState) (answer : TableStep) (old new : RecordingView D) → old.flushed ≤ length old.history
    → new.flushed ≡ old.flushed → IsTrue old.log.file.live → new.log.file.live ≡ false → (old.flushed ≡ length old.history → new.log.file ≡ old.log.file)
    → Rose (state old.log.file.disk).faults (state new.log.file.disk).faults
    → Answers state (nat_lt old.flushed (length old.history)) answer old new DiskFault
answer_failed state answer old new within stays live dead idle rose = go (nat_lt old.flushed (length old.history)) refl
  where
    go : (b : Bool) → nat_lt old.flushed (length old.history) ≡ b → Answers state b answer old new DiskFault
    go true is = failed refl refl dead stays rose
    go false is =
        let none : old.flushed ≡ length old.history = grind arith in
        let still : IsTrue new.log.file.live = subst (λ (f : Gate _). IsTrue f.live) (sym (idle none)) live in
        absurd (let clash : IsTrue false = subst IsTrue dead still in cc)

-- a record that is noted, and then a flush before its answer, are one call with that answer
pub noted_answer : {D : Type 0} (state : D → DiskState) (made : List Entry) (due : Bool) (answer result : TableStep) (old mid new : RecordingView D) → IsNoted state made old mid
    → due ≡ true → nat_lt mid.flushed (length mid.history) ≡ true → Answers state (nat_lt mid.flushed (length mid.history)) answer mid new result
    → Answers state due answer old new result
noted_answer state made due answer result old mid new noted is some (at_once not_due same file stays) = absurd (let clash : true ≡ false = sym some ∙ not_due in cc)
noted_answer state made due answer result old mid new noted is some (flushed yes_due same live all) = flushed is same live all
noted_answer state made due answer result old mid new noted is some (failed yes_due same dead stays rose) =
    failed is same dead (stays ∙ noted.flushed)
    (subst (λ (f : Gate _). Rose (state f.disk).faults (state new.log.file.disk).faults) noted.file rose)

-- after a turn that shows something its record pends
pub some_pends : {D : Type 0} (state : D → DiskState) (made : List Entry) (old mid : RecordingView D) → IsNoted state made old mid → length made ≡ 1
    → nat_lt mid.flushed (length mid.history) ≡ true
some_pends state made old mid noted one =
    let within = noted.within (omega (arith, one)) in
    let less : mid.flushed < length mid.history = omega (arith, within, one, noted.flushed, ap length noted.history, length-append old.history made) in
    grind arith

-- if 64 records pend, there is something to flush
pub many_pend : {D : Type 0} (mid : RecordingView D) (pending : ℕ) → mid.flushed + pending ≡ length mid.history → pending ≡ MOST_PENDING
    → nat_lt mid.flushed (length mid.history) ≡ true
many_pend mid pending sum full =
    let less : mid.flushed < length mid.history = omega (arith, sum, full) in
    grind arith

-- a flush is due if the turn shows something
pub due_shown : {D : Type 0} (made : List Entry) (t : Turn) (old : RecordingView D) → is_shown t ≡ true → is_due old made t ≡ true
due_shown made t old shown = rw shown refl

-- a flush is due if 64 records pend
pub due_is : {D : Type 0} (state : D → DiskState) (made : List Entry) (t : Turn) (old mid : RecordingView D) (pending : ℕ) → IsNoted state made old mid
    → pending ≡ MOST_PENDING → mid.flushed + pending ≡ length mid.history → is_due old made t ≡ true
due_is state made t old mid pending noted full sum =
    let long : old.flushed + MOST_PENDING ≡ length (old.history ++ made) = omega (arith, noted.flushed, full, sum, ap length noted.history) in
    or_right (is_shown t) (old.flushed + MOST_PENDING == length (old.history ++ made)) (grind arith)

-- if a table keeps why it stopped, the step leaves it as it is
pub kept_step : {D : Type 0} (state : D → DiskState) (t : TableView D) (path : Path) (why : Halt) → t.halt ≡ Some why → ((disk : D) → IsCoherent (state disk))
    → IsStep state (step_of t path) t t (Halted why)
kept_step state t path why is coherent =
    subst (λ (h : Option Halt). IsStep state (step_by t path h (bound_of t) (drains t path)) (record t { halt = h }) (record t { halt = h }) (Halted why)) (sym is)
    (record {
      answer = at_once refl refl refl refl;
      records = nothing state t.recording coherent;
      machine = refl;
      budget = omega arith;
      halt = refl;
      verified = refl;
    })

-- if the path has to be drained, the step changes nothing but which turrets rest for a wait
pub drain_step : {D : Type 0} (state : D → DiskState) (t : TableView D) (path : Path) (drain : Draining) (answer : StepAnswer) (moves : List Move) (resting : Both Resting)
    → t.halt ≡ None → bound_of t ≡ None → drains t path ≡ drain → drain_answer drain ≡ Some answer → ((disk : D) → IsCoherent (state disk))
    → IsStep state (step_of t path) t (record t { resting = resting }) (step_with answer moves)
drain_step state t path drain answer moves resting kept bound due is coherent =
    subst (λ (d : Draining). IsStep state (step_by t path t.halt (bound_of t) d) t (record t { resting = resting }) (step_with answer moves)) (sym due)
    (subst (λ (b : Option Halt). IsStep state (step_by t path t.halt b drain) t (record t { resting = resting }) (step_with answer moves)) (sym bound)
    (subst (λ (h : Option Halt). IsStep state (step_by t path h None drain) (record t { halt = h }) (record t { halt = h; resting = resting }) (step_with answer moves)) (sym kept)
    (go drain is)))
  where
    idle : (a : TableStep) → reason_of a ≡ None → IsStep state (idle_step t a) (record t { halt = None }) (record t { halt = None; resting = resting }) a
    idle a none = record {
      answer = at_once refl refl refl refl;
      records = nothing state t.recording coherent;
      machine = refl;
      budget = omega arith;
      halt = sym none;
      verified = refl;
    }

    go : (d : Draining) → drain_answer d ≡ Some answer → IsStep state (step_by t path None None d) (record t { halt = None }) (record t { halt = None; resting = resting }) (step_with answer moves)
    go Draining.none e = absurd (let clash : None ≡ Some answer = e in cc)
    go (Draining.due code) e =
        let same : apart.Drain code ≡ answer = cc in
        subst (λ (a : StepAnswer). IsStep state (idle_step t (Drain code)) (record t { halt = None }) (record t { halt = None; resting = resting }) (step_with a moves)) same (idle (Drain code) refl)
    go (Draining.asked code) e =
        let same : apart.Undrained ≡ answer = cc in
        subst (λ (a : StepAnswer). IsStep state (idle_step t Undrained) (record t { halt = None }) (record t { halt = None; resting = resting }) (step_with a moves)) same (idle Undrained refl)
