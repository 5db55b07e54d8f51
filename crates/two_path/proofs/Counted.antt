-- What the fold of a legal history counts, in words of the history alone; and with it the law
-- `histories_are_runs` (src/laws.rt). Kept takes `since_after`, `grows` and `legal_take`.
use Rattle.std.proofs.Common.{◌≡◌, ℕ, zero, suc, ◌+◌, ◌≤◌, Bool, true, false, ◌==◌, List, [], ◌∷◌, ◌++◌, length, take, Option, Some, None, inl, inr, refl, sym, ap, subst, ◌∙◌, arith, if◌then◌else◌}
use Rattle.nc_number.specs.declared.path.Path.{Path}
use Rattle.nc_number.specs.declared.path.Path.TheVariants.{One, Two}
use Rattle.nc_number.specs.declared.value.Var.{Var}
use Rattle.common_vars.specs.Writes.{value_after}
use Rattle.run_records.specs.Entries.{Entry}
use Rattle.run_records.specs.declared.edit.Edit.{Edit}
use Rattle.run_records.specs.declared.entry.EntryKind.{EntryKind}
use Rattle.run_records.specs.declared.entry.EntryKind.TheVariants.{Did, Arrived, Met, Ended, Alarmed, Edited}
use Rattle.path_state.specs.View.{PathView}
use Rattle.path_state.specs.Statements.{Write as Written}
use Rattle.path_state.specs.Edits.{shared_write}
use Rattle.path_state.specs.Effect.{Effect, Need, Done, AtWait, AtEnd}
use Rattle.path_state.specs.Effect as effect
use Rattle.nc_number.proofs.Counts.{some_is}
use Rattle.nc_number.specs.Both.{of_path}
use Rattle.two_path.specs.declared.turn.Turn.TheVariants as turn
use Rattle.two_path.specs.Machine.{MachineView, own_first, without_reads, opening}
use Rattle.two_path.specs.Turns.{Blocks, Tapes, result, behind_meeting, crossed_waits, alarm_result, with_write, result_at_wait, result_by, kind_of}
use Rattle.two_path.specs.Edits.{behind_edit_of}
use Rattle.two_path.specs.Histories.{values_at, with_values, with_reads, IsStep, behind_step, behind_entry, IsNext, fold, IsLegal, is_coming, came_from, Counts, HistoriesAreRuns}
use Rattle.two_path.proofs.Folds.{fold_parts}
use Rattle.two_path.proofs.Idle.{own_awake, awake_of}
use Rattle.two_path.proofs.Edited.{step_no_edit, behind_step_entry, behind_edit_entry}
use Rattle.two_path.proofs.Lawful.{value_written, opening_sound}
use Rattle.two_path.proofs.Recorded.{history_from}
use Rattle.two_path.proofs.Scheduled.{run_of, lawful_of}

-- when a path came to its block, after one record more: just now if it came by this record
abbrev pub since_after : Bool → ℕ → ℕ → ℕ
since_after b count since = if b then count + 1 else since

-- the machine `to` is behind one record more than `n`
pub record Grows (n to : MachineView) (mine theirs : Bool) : Type 0 where
  -- the record counts one
  pub count : to.count ≡ n.count + 1
  -- each path came to its block by this record (true), or when it came before
  pub first : to.paths.one.since ≡ since_after mine n.count n.paths.one.since
  pub second : to.paths.two.since ≡ since_after theirs n.count n.paths.two.since
  -- what the record wrote to a shared variable, if it wrote to one
  pub write : Option Written
  pub writes : to.writes ≡ with_write (n.count + 1) write n.writes

-- a turn of a first path that comes to a wait, if it makes a record, grows the machine as `Grows`
-- says
grows_wait : (path : Path) (line : ℕ) (n : MachineView) (rs : List Var) (ks : List ℕ) (code : ℕ) (o : Option ℕ) (k : EntryKind)
    → kind_of (result_at_wait path line (with_values rs ks n) code o).turn ≡ Some k
    → Grows n (without_reads (result_at_wait path line (with_values rs ks n) code o).machine) (is_coming One k One) (is_coming One k Two)
grows_wait path line n rs ks code None k e = rw (← some_is e) (record { count = refl; first = refl; second = refl; write = None; writes = refl })
grows_wait path line n rs ks code (Some there) k e = go (code == there) refl e
  where
    go : (b : Bool) → (code == there) ≡ b
        → kind_of (if b then result (turn.Met code) (behind_meeting (with_values rs ks n)) else alarm_result (crossed_waits path line) (with_values rs ks n)).turn ≡ Some k
        → Grows n (without_reads (result_at_wait path line (with_values rs ks n) code (Some there)).machine) (is_coming One k One) (is_coming One k Two)
    go true i e = rw (i, ← some_is e) (record { count = refl; first = refl; second = refl; write = None; writes = refl })
    go false i e = rw (i, ← some_is e) (record { count = refl; first = refl; second = refl; write = None; writes = refl })

-- a turn of a first path whose block comes to this effect, if it makes a record, grows the machine
-- as `Grows` says
grows_by : (path : Path) (line : ℕ) (n : MachineView) (rs : List Var) (ks : List ℕ) (e : Effect) (k : EntryKind)
    → kind_of (result_by path line (with_values rs ks n) e).turn ≡ Some k
    → Grows n (without_reads (result_by path line (with_values rs ks n) e).machine) (is_coming One k One) (is_coming One k Two)
grows_by path line n rs ks (Need v) k e = absurd cc
grows_by path line n rs ks (Done to write moves) k e = rw (← some_is e) (record { count = refl; first = refl; second = refl; write = write; writes = refl })
grows_by path line n rs ks (AtWait code) k e = grows_wait path line n rs ks code n.paths.two.waiting k e
grows_by path line n rs ks (AtEnd to moves) k e = rw (← some_is e) (record { count = refl; first = refl; second = refl; write = None; writes = refl })
grows_by path line n rs ks (effect.Alarm number value) k e = rw (← some_is e) (record { count = refl; first = refl; second = refl; write = None; writes = refl })

-- a step of the first path grows the machine as `Grows` says
grows_first : (blocks : Blocks) (path : Path) (n : MachineView) (k : EntryKind) (ks : List ℕ) → IsStep blocks path n k ks
    → Grows n (behind_step blocks path ks n) (is_coming One k One) (is_coming One k Two)
grows_first blocks path n k ks i =
    let rs : List Var = values_at blocks n.paths.one.path n.writes ks in
    let is = own_awake blocks path (with_reads blocks ks n) (awake_of blocks path (with_reads blocks ks n) k i.is) in
    rw is (grows_by path (blocks.line n.paths.one.path.place) n rs ks (blocks.effect n.paths.one.path rs) k (rw is at i.is))

-- whether a path comes to a block by a record is the same with both paths changed over
same_coming : (k : EntryKind) → (is_coming One k One ≡ is_coming Two k Two) × (is_coming One k Two ≡ is_coming Two k One)
same_coming Did = (refl, refl)
same_coming Arrived = (refl, refl)
same_coming Met = (refl, refl)
same_coming Ended = (refl, refl)
same_coming Alarmed = (refl, refl)
same_coming (Edited edit) = (refl, refl)

-- a step of either path grows the machine as `Grows` says
grows_step : (tapes : Tapes) (n : MachineView) (p : Path) (k : EntryKind) (ks : List ℕ) → IsStep (of_path tapes p) p (own_first p n) k ks
    → Grows n (own_first p (behind_step (of_path tapes p) p ks (own_first p n))) (is_coming p k One) (is_coming p k Two)
grows_step tapes n One k ks i = grows_first tapes.one One n k ks i
grows_step tapes n Two k ks i =
    let g = grows_first tapes.two Two (own_first Two n) k ks i in
    let same = same_coming k in
    record {
      count = g.count;
      first = g.second ∙ ap (λ b. since_after b n.count n.paths.one.since) same.1;
      second = g.first ∙ ap (λ b. since_after b n.count n.paths.two.since) same.0;
      write = g.write;
      writes = g.writes;
    }

-- an edit, after which both paths' blocks read anew, grows the machine as `Grows` says
grows_edit : (n : MachineView) (p : Path) (edit : Edit) → Grows n (behind_edit_of p edit n) true true
grows_edit n One edit = record { count = refl; first = refl; second = refl; write = shared_write n.paths.one.path.fixed edit; writes = refl }
grows_edit n Two edit = record { count = refl; first = refl; second = refl; write = shared_write n.paths.two.path.fixed edit; writes = refl }

-- each legal record grows the machine by one, and brings the paths to their blocks as its kind says
pub grows : (tapes : Tapes) (n : MachineView) (e : Entry) → IsNext tapes n e → Grows n (behind_entry tapes e n) (is_coming e.path e.kind One) (is_coming e.path e.kind Two)
grows tapes n e (inl i) =
    let step = step_no_edit (of_path tapes e.path) e.path (own_first e.path n) e.kind e.stamps i in
    rw (behind_step_entry tapes n e step) (grows_step tapes n e.path e.kind e.stamps i)
grows tapes n e (inr i) =
    rw (behind_edit_entry tapes n e i.edit i.is)
    (subst (λ (x : Entry). Grows n (behind_edit_of e.path i.edit n) (is_coming x.path x.kind One) (is_coming x.path x.kind Two)) (sym i.is)
    (grows_edit n e.path i.edit))

-- a fold counts each record once
count_of : (tapes : Tapes) (m : MachineView) (rs : List Entry) → IsLegal tapes m rs → (fold tapes m rs).count ≡ m.count + length rs
count_of tapes m [] legal = omega arith
count_of tapes m (e ∷ es) legal =
    let g = grows tapes m e legal.0 in
    let rest = count_of tapes (behind_entry tapes e m) es legal.1 in
    omega (arith, g.count, rest)

-- when the first path came to its block is read off the history alone
first_of_history : (tapes : Tapes) (m : MachineView) (rs : List Entry) → IsLegal tapes m rs
    → (fold tapes m rs).paths.one.since ≡ came_from m.paths.one.since m.count One rs
first_of_history tapes m [] legal = refl
first_of_history tapes m (e ∷ es) legal =
    let g = grows tapes m e legal.0 in
    first_of_history tapes (behind_entry tapes e m) es legal.1 ∙ rw (g.count, g.first) refl

-- when the second path came to its block is read off the history alone
second_of_history : (tapes : Tapes) (m : MachineView) (rs : List Entry) → IsLegal tapes m rs
    → (fold tapes m rs).paths.two.since ≡ came_from m.paths.two.since m.count Two rs
second_of_history tapes m [] legal = refl
second_of_history tapes m (e ∷ es) legal =
    let g = grows tapes m e legal.0 in
    second_of_history tapes (behind_entry tapes e m) es legal.1 ∙ rw (g.count, g.second) refl

-- what a variable was after the first records stays so, whatever records follow
at_later : (tapes : Tapes) (m : MachineView) (rs : List Entry) (k v : ℕ) → IsLegal tapes m rs → k ≤ m.count
    → value_after k v (fold tapes m rs).writes ≡ value_after k v m.writes
at_later tapes m [] k v legal h = refl
at_later tapes m (e ∷ es) k v legal h =
    let g = grows tapes m e legal.0 in
    at_later tapes (behind_entry tapes e m) es k v legal.1 (omega (arith, g.count)) ∙ rw (g.writes) (value_written g.write m.writes m.count k v h)

-- both parts of a legal history are legal, the second after the first
legal_parts : (tapes : Tapes) (m : MachineView) (rs ss : List Entry) → IsLegal tapes m (rs ++ ss) → IsLegal tapes m rs × IsLegal tapes (fold tapes m rs) ss
legal_parts tapes m [] ss legal = (tt, legal)
legal_parts tapes m (r ∷ rs) ss legal = let rest = legal_parts tapes (behind_entry tapes r m) rs ss legal.1 in ((legal.0, rest.0), rest.1)

-- what a variable held after the first records is the same in the fold of all records
values_of : (tapes : Tapes) (m : MachineView) (before after : List Entry) (v : ℕ) → m.count ≡ 0 → IsLegal tapes m (before ++ after)
    → value_after (length before) v (fold tapes m (before ++ after)).writes ≡ value_after (fold tapes m before).count v (fold tapes m before).writes
values_of tapes m before after v none legal =
    let l = legal_parts tapes m before after legal in
    let same : (fold tapes m before).count ≡ length before = omega (arith, count_of tapes m before l.0, none) in
    rw (fold_parts tapes m before after, same) (at_later tapes (fold tapes m before) after (length before) v l.1 (omega (arith, same)))

-- the fold of a legal history counts its records, its comings and its values as the history says
counts_of : (tapes : Tapes) (first second : PathView) (rs : List Entry) → IsLegal tapes (opening first second) rs → Counts tapes (opening first second) rs
counts_of tapes first second rs legal = record {
  count = omega (arith, count_of tapes (opening first second) rs legal);
  first = first_of_history tapes (opening first second) rs legal;
  second = second_of_history tapes (opening first second) rs legal;
  values = λ before after v e. rw (← e) (values_of tapes (opening first second) before after v refl (rw (← e) at legal));
}

-- a prefix of a legal history is legal
pub legal_take : (tapes : Tapes) (m : MachineView) (n : ℕ) (rs : List Entry) → IsLegal tapes m rs → IsLegal tapes m (take n rs)
legal_take tapes m zero rs legal = tt
legal_take tapes m (suc n) [] legal = tt
legal_take tapes m (suc n) (r ∷ rs) legal = (legal.0, legal_take tapes (behind_entry tapes r m) n rs legal.1)

-- the runs of a pair are its legal histories, and the other way round
pub histories_run : (tapes : Tapes) (first second : PathView) → HistoriesAreRuns tapes (opening first second)
histories_run tapes first second = record {
  run = λ es. history_from tapes (opening first second) es (opening_sound tapes first second);
  history = run_of tapes first second;
  lawful = lawful_of tapes first second;
  counts = counts_of tapes first second;
  prefix = legal_take tapes (opening first second);
}
