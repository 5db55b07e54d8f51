-- What a record that is done again comes to, and when it is legal: for the clauses of src/again.rt.
use Rattle.std.proofs.Common.{◌≡◌, ℕ, ◌+◌, ◌≤◌, ◌<◌, Bool, true, false, IsTrue, ◌==◌, List, [], ◌∷◌, length, drop, slice_index_or, Option, Some, None, Result, Ok, Err, OnOk, OnErr, refl, sym, ap, subst, ◌∙◌, arith}
use Rattle.std.proofs.lemmas.List.{drop_more, drop_all}
use Rattle.nc_number.specs.declared.path.Path.{Path}
use Rattle.block_order.specs.declared.program.ControlProgram.{ControlProgram}
use Rattle.run_records.specs.Entries.{Entry}
use Rattle.run_records.specs.declared.entry.EntryKind.{EntryKind}
use Rattle.path_state.specs.View.{PathView}
use Rattle.path_state.specs.Effect.{Effect, Need, Done, AtWait, AtEnd}
use Rattle.path_state.specs.Effect as effect
use Rattle.nc_number.specs.declared.value.Var.{Var}
use Rattle.path_state.specs.Looks.{is_shared}
use Rattle.path_state.specs.Controlled.{GoesAsOrdered, KeepsFixed, AsksForShared}
use Rattle.two_path.specs.declared.turn.Turn.{Turn}
use Rattle.two_path.specs.Machine.{Part, MachineView, part_without_reads, without_reads}
use Rattle.two_path.specs.Turns.{Blocks, result_at_wait, result_by, own_turn, block_turn, kind_of, behind_block, with_arrival, with_end, with_alarm, crossed_waits, alarm_at}
use Rattle.two_path.specs.Histories.{with_reads}
use Rattle.two_path.specs.Joined.{JointView, machine_of, read_part, AreShared, IsLasting}
use Rattle.two_path.specs.Again.{AreReady, variable_due, IsReadAgain, IsUnread, kind_at_wait, kind_of_effect, HasRead, MayNotRead, IsFit, IsUnfit, IsStepDone, IsStepRefused}
use Rattle.two_path.proofs.Idle.{is_still, own_awake, awake_of}
use Rattle.two_path.proofs.Replayed.{IsReplaying, due_some, begins, goes_on, stops, rests, may_read, has_read}
use Rattle.two_path.proofs.Steady.{step_shared, step_waits}

-- what a block asks for with a read that is due is shared, and there is room for its value
pub asked : (low count stamp : ℕ) (path : PathView) (reads : List Var) (e : Effect) (v : ℕ) → variable_due low count stamp e ≡ Some v → AsksForShared path reads e
    → (is_shared path.fixed v ≡ true) × (length reads < 32)
asked low count stamp path reads e v due asks = subst (AsksForShared path reads) (due_some low count stamp e v due).2 asks

-- in a loop over stamps: the one at this place, and those behind it
stamp_at : (all : List ℕ) (i : ℕ) → i < length all → drop i all ≡ slice_index_or all i 0 ∷ drop (i + 1) all
stamp_at all i within = drop_more all i 0 within

-- before the first stamp nothing has been read again
pub begins_at : (blocks : Blocks) (start : Part) (joint : JointView) (low : ℕ) (all : List ℕ) → low ≡ start.since → part_without_reads start ≡ start
    → IsReplaying blocks start start joint.shared.writes joint.count low all all
begins_at blocks start joint low all e bare =
    subst (λ n. IsReplaying blocks start start joint.shared.writes joint.count n all all) (sym e) (begins blocks start joint.shared.writes joint.count all bare)

-- one read more keeps what the loop says
pub goes_on_at : (blocks : Blocks) (start now after : Part) (joint : JointView) (low i : ℕ) (all : List ℕ) → i < length all
    → IsReplaying blocks start now joint.shared.writes joint.count low all (drop i all) → IsReadAgain blocks joint low (slice_index_or all i 0) now after
    → IsReplaying blocks start after joint.shared.writes joint.count (slice_index_or all i 0) all (drop (i + 1) all)
goes_on_at blocks start now after joint low i all within k again =
    let stamp : ℕ = slice_index_or all i 0 in
    let here : IsReplaying blocks start now joint.shared.writes joint.count low all (stamp ∷ drop (i + 1) all) =
    subst (λ xs. IsReplaying blocks start now joint.shared.writes joint.count low all xs) (stamp_at all i within) k in
    subst (λ (p : Part). IsReplaying blocks start p joint.shared.writes joint.count stamp all (drop (i + 1) all)) (sym (again.part))
    (goes_on blocks start now joint.shared.writes joint.count low stamp again.variable all (drop (i + 1) all) here again.due)

-- if no read with this stamp is due, the block may not have read with all these stamps
pub stops_at : (blocks : Blocks) (start now after : Part) (joint : JointView) (low i : ℕ) (all : List ℕ) → i < length all → part_without_reads start ≡ start
    → IsReplaying blocks start now joint.shared.writes joint.count low all (drop i all) → IsUnread blocks joint low (slice_index_or all i 0) now after
    → MayNotRead blocks joint all start after
stops_at blocks start now after joint low i all within bare k unread =
    let stamp : ℕ = slice_index_or all i 0 in
    let here : IsReplaying blocks start now joint.shared.writes joint.count low all (stamp ∷ drop (i + 1) all) =
    subst (λ xs. IsReplaying blocks start now joint.shared.writes joint.count low all xs) (stamp_at all i within) k in
    record {
      illegal = λ other may. stops blocks start now other joint low stamp all (drop (i + 1) all) here unread.due may;
      rest = ap part_without_reads (unread.unchanged) ∙ rests blocks start now joint.shared.writes joint.count low all (drop i all) bare k;
    }

-- behind the last stamp the block has read what all stamps stand for
pub ends_at : (blocks : Blocks) (start now : Part) (joint : JointView) (low i : ℕ) (all : List ℕ) → length all ≤ i
    → IsReplaying blocks start now joint.shared.writes joint.count low all (drop i all) → HasRead blocks joint all start now
ends_at blocks start now joint low i all past k =
    let here : IsReplaying blocks start now joint.shared.writes joint.count low all [] =
    subst (λ xs. IsReplaying blocks start now joint.shared.writes joint.count low all xs) (drop_all i all past) k in
    record {
      legal = λ other. may_read blocks start now other joint low all here;
      part = has_read blocks start now joint.shared.writes joint.count low all here;
    }

-- what a block reads again changes nothing of what both paths share
pub shared_still : (blocks : Blocks) (start now : Part) (joint : JointView) (low : ℕ) (all left : List ℕ)
    → IsReplaying blocks start now joint.shared.writes joint.count low all left → AreShared start joint → AreShared now joint
shared_still blocks start now joint low all left k shared = record {
  hundreds = shared.hundreds ∙ ap (λ (p : Part). p.path.fixed.shared100) (sym (k.part));
  upper = shared.upper ∙ ap (λ (p : Part). p.path.fixed.shared500) (sym (k.part));
}

-- what holds anyway holds if a result is an error
pub on_err : {A E : Type 0} (r : Result A E) {P : Type 0} → P → OnErr r P
on_err (Ok x) p = tt
on_err (Err e) p = p

-- what holds anyway holds if a result is a success
on_ok : {A E : Type 0} (r : Result A E) {P : Type 0} → P → OnOk r P
on_ok (Ok x) p = p
on_ok (Err e) p = tt

-- the kind of the record of a turn at a wait
kind_at : (path : Path) (line : ℕ) (m : MachineView) (code : ℕ) (o : Option ℕ) → kind_of (result_at_wait path line m code o).turn ≡ Some (kind_at_wait code o)
kind_at path line m code None = refl
kind_at path line m code (Some there) = go (code == there) refl
  where
    go : (b : Bool) → (code == there) ≡ b → kind_of (result_at_wait path line m code (Some there)).turn ≡ Some (kind_at_wait code (Some there))
    go true e = rw e refl
    go false e = rw e refl

-- the kind of a turn's record, by what the block comes to
kind_by : (path : Path) (line : ℕ) (m : MachineView) (e : Effect) → kind_of (result_by path line m e).turn ≡ kind_of_effect e m.paths.two.waiting
kind_by path line m (Need v) = refl
kind_by path line m (Done to write moves) = refl
kind_by path line m (AtWait code) = kind_at path line m code m.paths.two.waiting
kind_by path line m (AtEnd to moves) = refl
kind_by path line m (effect.Alarm number value) = refl

-- the kind of the record of a path that has read again, by what its block comes to
kind_read : (blocks : Blocks) (path : Path) (stamps : List ℕ) (start now other : Part) (joint : JointView)
    → is_still (machine_of start other joint) ≡ false → now ≡ read_part blocks start joint stamps
    → kind_of (own_turn blocks path (with_reads blocks stamps (machine_of start other joint))).turn
    ≡ kind_of_effect (blocks.effect now.path now.values) other.waiting
kind_read blocks path stamps start now other joint awake is =
    let m : MachineView = with_reads blocks stamps (machine_of start other joint) in
    ap (λ r. kind_of r.turn) (own_awake blocks path m awake)
    ∙ kind_by path (blocks.line m.paths.one.path.place) m (blocks.effect m.paths.one.path m.paths.one.values)
    ∙ ap (λ (p : Part). kind_of_effect (blocks.effect p.path p.values) other.waiting) (sym is)

-- a record whose kind is that of the path's block with these reads is legal there
pub fit : (blocks : Blocks) (entry : Entry) (start now other : Part) (joint : JointView) → is_still (machine_of start other joint) ≡ false
    → HasRead blocks joint entry.stamps start now → kind_of_effect (blocks.effect now.path now.values) other.waiting ≡ Some entry.kind
    → IsFit blocks entry other joint start now
fit blocks entry start now other joint awake has is = record {
  legal = record { reads = has.legal other; is = kind_read blocks entry.path entry.stamps start now other joint awake (has.part) ∙ is };
  part = has.part;
}

-- a path that is still makes no record
pub unfit_still : (blocks : Blocks) (entry : Entry) (start other : Part) (joint : JointView) → is_still (machine_of start other joint) ≡ true
    → part_without_reads start ≡ start → IsUnfit blocks entry other joint start start
unfit_still blocks entry start other joint still none = record {
  illegal = λ step.
      let m : MachineView = with_reads blocks entry.stamps (machine_of start other joint) in
      let awake : is_still (machine_of start other joint) ≡ false = awake_of blocks entry.path m entry.kind (step.is) in
      cc;
  rest = none;
}

-- a record is not legal if its block may not have read with its stamps
pub unfit_reads : (blocks : Blocks) (entry : Entry) (start now other : Part) (joint : JointView) → MayNotRead blocks joint entry.stamps start now
    → IsUnfit blocks entry other joint start now
unfit_reads blocks entry start now other joint may = record { illegal = λ step. may.illegal other (step.reads); rest = may.rest }

-- a record is not legal if the path's block makes a record of another kind
pub unfit_kind : (blocks : Blocks) (entry : Entry) (start now other : Part) (joint : JointView) → is_still (machine_of start other joint) ≡ false
    → part_without_reads start ≡ start → HasRead blocks joint entry.stamps start now
    → (kind_of_effect (blocks.effect now.path now.values) other.waiting ≡ Some entry.kind → ⊥) → IsUnfit blocks entry other joint start now
unfit_kind blocks entry start now other joint awake none has differs = record {
  illegal = λ step. differs (sym (kind_read blocks entry.path entry.stamps start now other joint awake (has.part)) ∙ step.is);
  rest = ap part_without_reads (has.part) ∙ none;
}

-- a turn at a wait leaves no reads of the other path, if it had none
wait_bare : (path : Path) (line : ℕ) (m : MachineView) (code : ℕ) (o : Option ℕ) → part_without_reads m.paths.two ≡ m.paths.two
    → without_reads (result_at_wait path line m code o).machine ≡ (result_at_wait path line m code o).machine
wait_bare path line m code None none = ap (λ (p : Part). record (with_arrival code m) { paths = record (with_arrival code m).paths { two = p } }) none
wait_bare path line m code (Some there) none = go (code == there) refl
  where
    go : (b : Bool) → (code == there) ≡ b
        → without_reads (result_at_wait path line m code (Some there)).machine ≡ (result_at_wait path line m code (Some there)).machine
    go true e = rw e refl
    go false e = rw e (ap (λ (p : Part). record (with_alarm (crossed_waits path line) m) { paths = record (with_alarm (crossed_waits path line) m).paths { two = p } }) none)

-- a block that makes a record leaves no reads, if the other's block had none
by_bare : (path : Path) (line : ℕ) (m : MachineView) (e : Effect) (k : EntryKind) → kind_of (result_by path line m e).turn ≡ Some k
    → part_without_reads m.paths.two ≡ m.paths.two → without_reads (result_by path line m e).machine ≡ (result_by path line m e).machine
by_bare path line m (Need v) k is none = absurd cc
by_bare path line m (Done to write moves) k is none = ap (λ (p : Part). record (behind_block to write m) { paths = record (behind_block to write m).paths { two = p } }) none
by_bare path line m (AtWait code) k is none = wait_bare path line m code m.paths.two.waiting none
by_bare path line m (AtEnd to moves) k is none = ap (λ (p : Part). record (with_end to m) { paths = record (with_end to m).paths { two = p } }) none
by_bare path line m (effect.Alarm number value) k is none = ap (λ (p : Part). record (with_alarm (alarm_at path line number value) m) { paths = record (with_alarm (alarm_at path line number value) m).paths { two = p } }) none

-- if a record fits and its path's block runs, the record is done again
pub done : (blocks : Blocks) (entry : Entry) (start now other : Part) (joint : JointView) (after : MachineView) (turn : Turn)
    → IsFit blocks entry other joint start now → part_without_reads other ≡ other
    → after ≡ (block_turn blocks entry.path (machine_of now other joint)).machine
    → turn ≡ (block_turn blocks entry.path (machine_of now other joint)).turn
    → IsStepDone blocks entry.path entry.kind entry.stamps (machine_of start other joint) after turn
done blocks entry start now other joint after turn fit none machine answer =
    let m : MachineView = with_reads blocks entry.stamps (machine_of start other joint) in
    let own = own_awake blocks entry.path m (awake_of blocks entry.path m entry.kind (fit.legal.is)) in
    let is : kind_of (block_turn blocks entry.path m).turn ≡ Some entry.kind = sym (ap (λ r. kind_of r.turn) own) ∙ fit.legal.is in
    record {
      legal = fit.legal;
      machine = machine ∙ ap (λ (p : Part). (block_turn blocks entry.path (machine_of p other joint)).machine) (fit.part)
          ∙ sym (by_bare entry.path (blocks.line m.paths.one.path.place) m (blocks.effect m.paths.one.path m.paths.one.values) entry.kind is none)
          ∙ ap (λ r. without_reads r.machine) (sym own);
      answer = answer ∙ ap (λ (p : Part). (block_turn blocks entry.path (machine_of p other joint)).turn) (fit.part) ∙ ap (λ r. r.turn) (sym own);
    }

-- an illegal record is refused, and the machine is as it was
pub refused : (blocks : Blocks) (entry : Entry) (start now after other : Part) (joint : JointView) → IsUnfit blocks entry other joint start now
    → after ≡ part_without_reads now → IsStepRefused blocks entry.path entry.kind entry.stamps (machine_of start other joint) (machine_of after other joint)
refused blocks entry start now after other joint unfit is = record {
  illegal = unfit.illegal;
  unchanged = ap (λ (p : Part). machine_of p other joint) (is ∙ unfit.rest);
}

-- a joint part that does not change keeps what is shared, and its room
lasts : (joint : JointView) → IsLasting joint joint
lasts joint = record { hundreds = refl; upper = refl; room = omega arith }

-- behind a record that is refused the parts stay ready for another
pub still_ready : (tape other_tape : List ControlProgram) (start now after other : Part) (joint : JointView) (blocks : Blocks) (entry : Entry)
    → AreReady tape other_tape start other joint → IsUnfit blocks entry other joint start now → after ≡ part_without_reads now
    → AreReady tape other_tape after other joint
still_ready tape other_tape start now after other joint blocks entry ready unfit is =
    subst (λ (p : Part). AreReady tape other_tape p other joint) (sym (is ∙ unfit.rest)) ready

-- a path that has read again shares the same variables
pub fit_shared : (blocks : Blocks) (entry : Entry) (start now other : Part) (joint : JointView) → IsFit blocks entry other joint start now
    → AreShared start joint → AreShared now joint
fit_shared blocks entry start now other joint fit shared =
    subst (λ (p : Part). AreShared p joint) (sym (fit.part)) (record { hundreds = shared.hundreds; upper = shared.upper })

-- behind a record that was done again the parts are ready for another
pub ready_behind : (tape other_tape : List ControlProgram) (blocks : Blocks) → ((at : PathView) (values : List Var) → GoesAsOrdered tape at (blocks.effect at values))
    → ((at : PathView) (values : List Var) → KeepsFixed at (blocks.effect at values)) → (path : Path) (kind : EntryKind) (stamps : List ℕ)
    → (me other me' other' : Part) (joint joint' : JointView) (turn : Turn)
    → IsStepDone blocks path kind stamps (machine_of me other joint) (machine_of me' other' joint') turn → IsLasting joint joint'
    → AreReady tape other_tape me other joint → AreReady tape other_tape me' other' joint'
ready_behind tape other_tape blocks led keeps path kind stamps me other me' other' joint joint' turn step lasting ready =
    let shared = step_shared blocks keeps path stamps me other me' other' joint joint' (step.machine) lasting ready.my_shared ready.other_shared in
    let waits = step_waits tape other_tape blocks led path stamps (machine_of me other joint) (machine_of me' other' joint') (step.machine)
    (record { first = ready.my_wait; second = ready.other_wait }) in
    let bare : without_reads (machine_of me' other' joint') ≡ machine_of me' other' joint' = ap without_reads (step.machine) ∙ sym (step.machine) in
    record {
      my_shared = shared.0;
      other_shared = shared.1;
      my_wait = waits.first;
      other_wait = waits.second;
      my_reads = ap (λ (m : MachineView). m.paths.one) bare;
      other_reads = ap (λ (m : MachineView). m.paths.two) bare;
    }

-- no test both holds and doesn't
pub not_due : (b : Bool) → IsTrue b → b ≡ false → ⊥
not_due b is e = cc
