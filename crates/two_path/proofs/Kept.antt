-- A machine beside its history stays the fold of it, over each event, each record that is done
-- again, and each restart: for the laws `each_event_keeps_the_history` and
-- `restarts_keep_the_history` (src/laws.rt).
use Rattle.std.proofs.Common.{◌≡◌, ℕ, ◌+◌, ◌≤◌, Bool, true, false, List, [], ◌∷◌, ◌++◌, take, refl, sym, ap, subst, append-nil, arith}
use Rattle.nc_number.specs.declared.path.Path.TheVariants.{One, Two}
use Rattle.run_records.specs.Entries.{Entry}
use Rattle.path_state.specs.View.{PathView}
use Rattle.two_path.specs.Machine.{Part, MachineView, own_first, part_without_reads, without_reads, opening}
use Rattle.two_path.specs.Turns.{Tapes}
use Rattle.two_path.specs.Histories.{Event, behind_event, records_of, behind_entry, IsNext, fold, IsLegal, is_coming, IsKept, Keeps, Episode, Happens, Restarts, Recorded, behind_episode, behind_episodes, IsKeptOverRestarts}
use Rattle.two_path.proofs.Edited.{entry_bare}
use Rattle.two_path.proofs.Folds.{fold_parts, fold_push, legal_join, legal_push}
use Rattle.two_path.proofs.Lawful.{event_sound, lawful_none, opening_sound}
use Rattle.two_path.proofs.Recorded.{joins_event}
use Rattle.two_path.proofs.Scheduled.{from_end, legal_front, fold_bare}
use Rattle.two_path.proofs.Counted.{since_after, grows, legal_take}

-- one event more keeps that the machine is the fold of its records
event_kept : (tapes : Tapes) (m : MachineView) (rs : List Entry) (now : MachineView) (e : Event) → IsKept tapes m rs now
    → IsKept tapes m (rs ++ records_of tapes e now) (behind_event tapes e now)
event_kept tapes m rs now e k =
    let j = joins_event tapes now (without_reads (behind_event tapes e now)) e [] k.lawful tt refl in
    let legal : IsLegal tapes (without_reads now) (records_of tapes e now) = subst (IsLegal tapes (without_reads now)) (append-nil (records_of tapes e now)) j.0 in
    let folds : fold tapes (without_reads now) (records_of tapes e now) ≡ without_reads (behind_event tapes e now) =
    subst (λ xs. fold tapes (without_reads now) xs ≡ without_reads (behind_event tapes e now)) (append-nil (records_of tapes e now)) j.1 in
    record {
      legal = legal_join tapes m rs (records_of tapes e now) k.legal (rw (k.folds) legal);
      folds = rw (fold_parts tapes m rs (records_of tapes e now), k.folds) folds;
      lawful = event_sound tapes e now k.lawful;
    }

-- a path came to its block no later than the last record, also after one more
since_kept : (b : Bool) (count since : ℕ) → since ≤ count → since_after b count since ≤ count + 1
since_kept true count since h = omega arith
since_kept false count since h = omega arith

-- a record that is done again leaves no reads
entry_none : (tapes : Tapes) (e : Entry) (m : MachineView)
    → ((behind_entry tapes e m).paths.one ≡ part_without_reads (behind_entry tapes e m).paths.one)
    × ((behind_entry tapes e m).paths.two ≡ part_without_reads (behind_entry tapes e m).paths.two)
entry_none tapes e m = let is = entry_bare tapes e m in (ap (λ (n : MachineView). n.paths.one) (sym is), ap (λ (n : MachineView). n.paths.two) (sym is))

-- one record more that is done again keeps that the machine is the fold of its records
entry_kept : (tapes : Tapes) (m : MachineView) (rs : List Entry) (now : MachineView) (e : Entry) → IsKept tapes m rs now → IsNext tapes (without_reads now) e
    → IsKept tapes m (rs ++ e ∷ []) (behind_entry tapes e (without_reads now))
entry_kept tapes m rs now e k next =
    let to : MachineView = behind_entry tapes e (without_reads now) in
    let g = grows tapes (without_reads now) e next in
    let none = entry_none tapes e (without_reads now) in
    record {
      legal = legal_push tapes m rs e k.legal (rw (k.folds) next);
      folds = rw (fold_push tapes m rs e, k.folds) (sym (entry_bare tapes e (without_reads now)));
      lawful = record {
        first = lawful_none tapes.one to (ap (λ (p : Part). p.values) none.0) (ap (λ (p : Part). p.stamps) none.0)
            (rw (g.count, g.first) (since_kept (is_coming e.path e.kind One) now.count now.paths.one.since k.lawful.first.came));
        second = lawful_none tapes.two (own_first Two to) (ap (λ (p : Part). p.values) none.1) (ap (λ (p : Part). p.stamps) none.1)
            (rw (g.count, g.second) (since_kept (is_coming e.path e.kind Two) now.count now.paths.two.since k.lawful.second.came));
      };
    }

-- before the first turn the machine is the fold of no records
opening_kept : (tapes : Tapes) (first second : PathView) → IsKept tapes (opening first second) [] (opening first second)
opening_kept tapes first second = record { legal = tt; folds = refl; lawful = opening_sound tapes first second }

-- the machine is the fold of its records at the opening, and stays so
pub keeps : (tapes : Tapes) (first second : PathView) → Keeps tapes (opening first second)
keeps tapes first second = record {
  opening = opening_kept tapes first second;
  event = event_kept tapes (opening first second);
  entry = entry_kept tapes (opening first second);
}

-- the fold of a legal history is a machine beside that history
pub fold_kept : (tapes : Tapes) (first second : PathView) (rs : List Entry) → IsLegal tapes (opening first second) rs
    → IsKept tapes (opening first second) rs (fold tapes (opening first second) rs)
fold_kept tapes first second =
    let m : MachineView = opening first second in
    from_end (λ rs. IsLegal tapes m rs → IsKept tapes m rs (fold tapes m rs))
    (λ legal. opening_kept tapes first second)
    (λ rs e rest legal.
    let l = legal_front tapes m rs e legal in
    let is : without_reads (fold tapes m rs) ≡ fold tapes m rs = fold_bare tapes m rs refl in
    rw (fold_push tapes m rs e) (subst (λ n. IsKept tapes m (rs ++ e ∷ []) (behind_entry tapes e n)) is
    (entry_kept tapes m rs (fold tapes m rs) e (rest l.0) (rw is l.1))))

-- one event or one restart keeps that the machine is the fold of its records
episode_kept : (tapes : Tapes) (first second : PathView) (e : Episode) (now : Recorded) → IsKept tapes (opening first second) now.history now.machine
    → IsKept tapes (opening first second) (behind_episode tapes (opening first second) e now).history (behind_episode tapes (opening first second) e now).machine
episode_kept tapes first second (Happens e) now k = event_kept tapes (opening first second) now.history now.machine e k
episode_kept tapes first second (Restarts n) now k =
    fold_kept tapes first second (take n now.history) (legal_take tapes (opening first second) n now.history k.legal)

-- each list of events and restarts keeps that the machine is the fold of its records
episodes_kept : (tapes : Tapes) (first second : PathView) (es : List Episode) (now : Recorded) → IsKept tapes (opening first second) now.history now.machine
    → IsKept tapes (opening first second) (behind_episodes tapes (opening first second) es now).history (behind_episodes tapes (opening first second) es now).machine
episodes_kept tapes first second [] now k = k
episodes_kept tapes first second (e ∷ es) now k =
    episodes_kept tapes first second es (behind_episode tapes (opening first second) e now) (episode_kept tapes first second e now k)

-- from the opening of a pair on, each list of events and restarts leaves one legal history
pub kept_over_restarts : (tapes : Tapes) (first second : PathView) → IsKeptOverRestarts tapes (opening first second)
kept_over_restarts tapes first second es =
    episodes_kept tapes first second es (record { machine = opening first second; history = [] }) (opening_kept tapes first second)
