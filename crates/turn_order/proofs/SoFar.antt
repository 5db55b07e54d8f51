-- A run whose paths take turns, as far as it has come, and how it ends. The loop of
-- `records_in_turn` (src/turns.rt) keeps it.
use Rattle.std.proofs.Common.{◌≡◌, ℕ, suc, ◌+◌, ◌≤◌, ◌<◌, ◌==◌, Bool, true, false, List, [], ◌++◌, length, refl, sym, ◌∙◌, ap, arith, append_assoc, append-nil, Option, Some, None}
use Rattle.std.specs.Prelude.{if◌then◌else◌, unwrap_or}
use Rattle.nc_number.specs.declared.path.Path.{Path}
use Rattle.nc_number.specs.declared.path.Path.TheVariants.{One}
use Rattle.nc_number.specs.Path.{other_of}
use Rattle.nc_moves.specs.declared.alarm.Alarm.{Alarm}
use Rattle.run_records.specs.Entries.{Entry}
use Rattle.two_path.specs.Machine.{MachineView}
use Rattle.two_path.specs.Turns.{Tapes, turn_of, entry_of}
use Rattle.two_path.specs.Histories.{HistoriesAreRuns, IsKept, TurnOf, fold, history, list_of, behind_event, records_of}
use Rattle.nc_outside.specs.declared.halt.Halt.{Halt}
use Rattle.nc_outside.specs.declared.reason.Reason.{Reason}
use Rattle.nc_outside.specs.Reasons.{end_by, end_or_bound}
use Rattle.two_path.specs.Ending.{end_of}
use Rattle.turn_order.specs.Ending.{halt_at, bound_by, end_at, end_told}
use Rattle.turn_order.specs.InTurn.{IsInTurn, in_turn}

-- After some turns the run has these records, stands at this machine, and this path is next:
-- whatever turns follow, their records come after these.
pub record IsSoFar (tapes : Tapes) (start : MachineView) (path : Path) (m : MachineView) (entries : List Entry) : Type 0 where
  -- how many turns there were
  pub turns : ℕ
  -- the records of these and of any further turns
  pub records : (more : ℕ) → history tapes start (in_turn One (turns + more)) ≡ entries ++ history tapes m (in_turn path more)

-- before the first turn there is no record
pub begins : (tapes : Tapes) (start m : MachineView) (entries : List Entry) → m ≡ start → entries ≡ [] → IsSoFar tapes start One m entries
begins tapes start m entries at none = record {
  turns = 0;
  records = λ more.
      let count : 0 + more ≡ more = omega arith in
      ap (λ n. history tapes start (in_turn One n)) count
      ∙ ap (λ (x : MachineView). history tapes x (in_turn One more)) (sym at)
      ∙ ap (λ (es : List Entry). es ++ history tapes m (in_turn One more)) (sym none);
}

-- with one turn more the record that it makes, if it makes one, is added
goes_on : (tapes : Tapes) (start : MachineView) (path : Path) (m : MachineView) (entries : List Entry) → IsSoFar tapes start path m entries
    → IsSoFar tapes start (other_of path) (turn_of tapes path m).machine (entries ++ list_of (entry_of tapes path m))
goes_on tapes start path m entries so_far = record {
  turns = suc so_far.turns;
  records = λ more.
      let count : suc so_far.turns + more ≡ so_far.turns + suc more = omega arith in
      ap (λ n. history tapes start (in_turn One n)) count ∙ so_far.records (suc more)
      ∙ sym (append_assoc entries (list_of (entry_of tapes path m)) (history tapes (turn_of tapes path m).machine (in_turn (other_of path) more)));
}

-- the run so far, with one turn more, and the other path next
pub goes_on_to : (tapes : Tapes) (start : MachineView) (path next : Path) (m after : MachineView) (entries more : List Entry) → IsSoFar tapes start path m entries
    → next ≡ other_of path → after ≡ (turn_of tapes path m).machine → more ≡ entries ++ list_of (entry_of tapes path m) → IsSoFar tapes start next after more
goes_on_to tapes start path next m after entries more so_far is_next is_after is_more =
    rw (is_next, is_after, is_more) (goes_on tapes start path m entries so_far)

-- the history that is kept, with the record of one turn more
pub kept_on : (tapes : Tapes) (start : MachineView) (path : Path) (m after : MachineView) (entries more : List Entry)
    → IsKept tapes start (entries ++ records_of tapes (TurnOf path) m) (behind_event tapes (TurnOf path) m)
    → after ≡ (turn_of tapes path m).machine → more ≡ entries ++ list_of (entry_of tapes path m) → IsKept tapes start more after
kept_on tapes start path m after entries more kept is_after is_more = rw (is_after, is_more) kept

-- the machine counts as many records as there are
pub counted : (tapes : Tapes) (start m : MachineView) (entries : List Entry) → HistoriesAreRuns tapes start → IsKept tapes start entries m → m.count ≡ length entries
counted tapes start m entries law kept =
    sym (ap (λ (x : MachineView). x.count) kept.folds) ∙ (law.counts entries kept.legal).count

-- the end by the machine is that by the fold of the records
same_end : (tapes : Tapes) (start m : MachineView) (entries : List Entry) → IsKept tapes start entries m → end_of (fold tapes start entries) ≡ end_of m
same_end tapes start m entries kept = ap end_of kept.folds

-- if nothing ends the run, there is no alarm, and not both paths have ended
pub not_ended : (alarm : Option Alarm) (both : Bool) → end_by alarm both ≡ None → (alarm ≡ None) × (both ≡ false)
not_ended (Some alarm) both is = absurd cc
not_ended None true is = absurd cc
not_ended None false is = (refl, refl)

-- below its limit a run has room for a record
no_bound : (count limit most : ℕ) → bound_by count limit most ≡ None → count ≤ limit → count < limit
no_bound count limit most = go (count == limit) refl
  where
    go : (b : Bool) → (count == limit) ≡ b → (if b then Some (halt_at count most) else None) ≡ None → count ≤ limit → count < limit
    go true e is le = absurd cc
    go false e is le = grind arith

-- a run that is not halted has not ended, and has room
pub may_go_on : (end : Option Reason) (count limit most : ℕ) → end_or_bound end (bound_by count limit most) ≡ None → count ≤ limit → (end ≡ None) × (count < limit)
may_go_on (Some end) count limit most is le = absurd cc
may_go_on None count limit most is le = (refl, no_bound count limit most (unbound (bound_by count limit most) is) le)
  where
    unbound : (bound : Option Halt) → end_or_bound None bound ≡ None → bound ≡ None
    unbound None none = refl
    unbound (Some why) none = absurd cc

-- a run that is halted by its limit has as many records
at_bound : (count limit most : ℕ) (end : Reason) → end_or_bound None (bound_by count limit most) ≡ Some end → (count ≡ limit) × (end ≡ end_at count most)
at_bound count limit most end = go (count == limit) refl
  where
    go : (b : Bool) → (count == limit) ≡ b → end_or_bound None (if b then Some (halt_at count most) else None) ≡ Some end → (count ≡ limit) × (end ≡ end_at count most)
    go true e is = (grind arith, (cc))
    go false e is = absurd cc

-- how a run ended
pub record HasEnded (m : MachineView) (most limit : ℕ) (end : Reason) : Type 0 where
  -- by the machine, or else by the number of its records
  pub told : end ≡ unwrap_or (end_of m) (end_at m.count most)
  -- if not by the machine, it has as many as the limit
  pub at_limit : end_of m ≡ None → m.count ≡ limit

-- if a run is told to have ended, it ended by its machine or has as many records as the limit
pub ended_by : (m : MachineView) (limit most : ℕ) (end : Reason) (o : Option Reason) → end_of m ≡ o → end_or_bound o (bound_by m.count limit most) ≡ Some end
    → HasEnded m most limit end
ended_by m limit most end (Some e) is told = record {
  told =
      let same : e ≡ end = cc in
      sym same ∙ ap (λ (x : Option Reason). unwrap_or x (end_at m.count most)) (sym is);
  at_limit = λ none. absurd (let clash : ◌≡◌ {A = Option Reason} (Some e) None = sym is ∙ none in cc);
}
ended_by m limit most end None is told =
    let at = at_bound m.count limit most end told in
    record {
      told = at.1 ∙ ap (λ (x : Option Reason). unwrap_or x (end_at m.count most)) (sym is);
      at_limit = λ none. at.0;
    }

-- a run that has ended is one whose paths took turns
pub in_turn_at_end : (tapes : Tapes) (start : MachineView) (path : Path) (m : MachineView) (entries : List Entry) (limit most : ℕ) (end : Reason)
    → IsSoFar tapes start path m entries → IsKept tapes start entries m → m.count ≡ length entries → length entries ≤ limit → HasEnded m most limit end
    → IsInTurn tapes start limit entries
in_turn_at_end tapes start path m entries limit most end so_far kept count within ended = record {
  turns = so_far.turns + 0;
  records = so_far.records 0 ∙ append-nil entries;
  within = within;
  ended = λ none. sym count ∙ ended.at_limit (sym (same_end tapes start m entries kept) ∙ none);
}

-- the end that is told is that of the records
pub told_at_end : (tapes : Tapes) (start m : MachineView) (entries : List Entry) (limit most : ℕ) (end : Reason)
    → IsKept tapes start entries m → m.count ≡ length entries → HasEnded m most limit end → end ≡ end_told tapes start most entries
told_at_end tapes start m entries limit most end kept count ended =
    ended.told ∙ ap (λ (x : Option Reason). unwrap_or x (end_at m.count most)) (sym (same_end tapes start m entries kept))
    ∙ ap (λ n. unwrap_or (end_of (fold tapes start entries)) (end_at n most)) count
