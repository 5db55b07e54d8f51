-- Records that are done again one by one: the machine is the fold of those that are done. `redo`
-- and `replay` (src/replay.rt) rest on it.
use Rattle.std.proofs.Common.{◌≡◌, ℕ, suc, ◌+◌, ◌≤◌, ◌<◌, List, [], ◌∷◌, ◌++◌, length, take, drop, get_or, refl, sym, ap, subst, ◌∙◌, arith, length-append}
use Rattle.std.proofs.lemmas.List.{take_more, length-take-le, take-append-drop}
use Rattle.std.proofs.Math.Seq.{drop-cons}
use Rattle.nc_number.specs.declared.limits.TheConstants.{MOST_RECORDS}
use Rattle.run_records.specs.declared.bad_record.BadRecord.{BadRecord}
use Rattle.run_records.specs.declared.bad_record.BadRecord.TheVariants.{NotLegal, TooManyRecords}
use Rattle.run_records.specs.Entries.{Entry}
use Rattle.two_path.specs.declared.turn.Turn.{Turn}
use Rattle.two_path.specs.Machine.{MachineView, without_reads}
use Rattle.two_path.specs.Histories.{behind_entry, IsLegal, IsNext, Counts}
use Rattle.two_path.specs.Joined.{RoomyMachine, AreAtTheirWaits}
use Rattle.two_path.specs.Again.{IsDoneAgain, IsRefused}
use Rattle.two_path.proofs.Edited.{entry_bare}
use Rattle.two_path.proofs.Folds.{fold_push, legal_push}
use Rattle.nc_verify.specs.declared.verified.Verified.{Verified}
use Rattle.nc_restart.specs.Pair.{tapes_in, opening_of, machine_behind}
use Rattle.nc_restart.specs.History.{IsBehind, IsOutOfPlace, illegal, beyond, IsOutOfPlaceAt}
use Rattle.nc_restart.specs.Reading.{AreDone}

-- a record that is to be done behind those before it
module _ (pair : Verified) (before : List Entry) (e : Entry) (m n : MachineView) (is : IsBehind pair before m) where
  -- a record that is no step of the machine is out of place
  pub next_illegal : IsRefused (tapes_in pair) e m n → IsOutOfPlace pair before e NotLegal
  next_illegal refused = illegal (λ next. refused.illegal (subst (λ (x : MachineView). IsNext (tapes_in pair) x e) (sym is.folds) next))

  -- a record that the machine does again is a step of it
  next_may : (turn : Turn) → IsDoneAgain (tapes_in pair) e m n turn → IsNext (tapes_in pair) (machine_behind pair before) e
  next_may turn done = subst (λ (x : MachineView). IsNext (tapes_in pair) x e) (is.folds) done.legal

  -- a step of the machine is out of place if there are as many records as the settings allow
  pub next_beyond : (turn : Turn) → IsDoneAgain (tapes_in pair) e m n turn → pair.settings.records ≤ m.count → IsOutOfPlace pair before e TooManyRecords
  next_beyond turn done full = beyond (next_may turn done) (omega (arith, full, is.counts, is.history.few))

  -- any other step is done again, and the machine stands behind the records with it
  pub next_done : (turn : Turn) → ((entries : List Entry) → IsLegal (tapes_in pair) (opening_of pair) entries → Counts (tapes_in pair) (opening_of pair) entries)
      → IsDoneAgain (tapes_in pair) e m n turn → m.count < pair.settings.records
      → AreAtTheirWaits pair.left.order pair.right.order n → IsBehind pair (before ++ e ∷ []) n
  next_done turn counts done room waits =
      let legal = legal_push (tapes_in pair) (opening_of pair) before e is.history.legal (next_may turn done) in
      let folds : n ≡ machine_behind pair (before ++ e ∷ []) =
      done.machine ∙ ap (behind_entry (tapes_in pair) e) (is.folds) ∙ sym (fold_push (tapes_in pair) (opening_of pair) before e) in
      record {
        history = record { legal = legal; few = omega (arith, length-append before (e ∷ []), is.counts, room) };
        folds = folds;
        bare = subst (λ (x : MachineView). without_reads x ≡ x) (sym done.machine) (entry_bare (tapes_in pair) e m);
        counts = ap (λ (x : MachineView). x.count) folds ∙ (counts (before ++ e ∷ []) legal).count;
        waits = waits;
      }

-- before the first record none is done, and there is room for all
pub none_done : (pair : Verified) (entries : List Entry) (now : RoomyMachine) → now.machine ≡ opening_of pair → length entries ≤ now.room → AreDone pair entries 0 now
none_done pair entries now opens room = record {
  behind = record {
    history = record { legal = tt; few = omega arith };
    folds = opens;
    bare = subst (λ (m : MachineView). without_reads m ≡ m) (sym opens) refl;
    counts = ap (λ (m : MachineView). m.count) opens;
    waits = subst (λ (m : MachineView). AreAtTheirWaits pair.left.order pair.right.order m) (sym opens)
        (record { first = λ code e. absurd cc; second = λ code e. absurd cc });
  };
  room = omega (arith, room);
}

-- while a record is left there is room for it
pub room_there : (pair : Verified) (entries : List Entry) (done : ℕ) (now : RoomyMachine) → AreDone pair entries done now → done < length entries → 0 < now.room
room_there pair entries done now are within = omega (arith, are.room, within)

-- no more records are done again than a run may have
pub few_done : (pair : Verified) (entries : List Entry) (done : ℕ) (now : RoomyMachine) → AreDone pair entries done now → now.machine.count ≤ MOST_RECORDS
few_done pair entries done now are = omega (arith, are.behind.counts, are.behind.history.few, pair.settings.most_records)

-- so many records are done, and this one is next
module _ (pair : Verified) (entries : List Entry) (done : ℕ) (e : Entry) (now : RoomyMachine) (are : AreDone pair entries done now)
    (within : done < length entries) (is : e ≡ get_or entries done e) where
  -- the records up to the next index are those that are done and this one
  taken : take (done + 1) entries ≡ take done entries ++ e ∷ []
  taken = take_more entries done e within ∙ ap (λ x. take done entries ++ x ∷ []) (sym is)

  -- those that are done are so many
  size : length (take done entries) ≡ done
  size = length-take-le done entries (omega (arith, within))

  -- if the machine does this record, one more is done, and there is room for the others
  pub more_done : (next : RoomyMachine) → ((before : List Entry) → IsBehind pair before now.machine → IsBehind pair (before ++ e ∷ []) next.machine)
      → now.machine.count + now.room ≤ next.machine.count + next.room → AreDone pair entries (done + 1) next
  more_done next redone room =
      let behind = redone (take done entries) are.behind in
      let counted : next.machine.count ≡ done + 1 = omega (arith, behind.counts, length-append (take done entries) (e ∷ []), size) in
      record {
        behind = subst (λ (l : List Entry). IsBehind pair l next.machine) (sym taken) behind;
        room = omega (arith, room, counted, are.behind.counts, size, are.room);
      }

  -- if this record is out of place, it is the first such of all
  pub bad_at : (cause : BadRecord) → ((before : List Entry) → IsBehind pair before now.machine → IsOutOfPlace pair before e cause)
      → IsOutOfPlaceAt pair entries done cause
  bad_at cause bad = record {
    before = take done entries;
    entry = e;
    after = drop (suc done) entries;
    are = sym (take-append-drop done entries) ∙ ap (λ l. take done entries ++ l) (drop-cons entries done e within ∙ ap (λ x. x ∷ drop (suc done) entries) (sym is));
    index_is = sym size;
    history = are.behind.history;
    bad = bad (take done entries) are.behind;
  }
