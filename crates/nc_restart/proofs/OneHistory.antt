-- Over any stops and restarts the records are one history. The law `restarts_make_one_history`
-- (src/laws.rt) rests on it.
use Rattle.std.proofs.Common.{◌≡◌, ℕ, zero, suc, ◌≤◌, List, [], ◌∷◌, ◌++◌, length, take, refl, sym, ap, subst, ◌∙◌, arith, append_assoc, append-nil}
use Rattle.run_records.specs.Entries.{Entry}
use Rattle.run_records.specs.declared.header.Header.{Header}
use Rattle.run_journal.specs.Meaning.{a_run, StandsFor}
use Rattle.two_path.specs.Machine.{MachineView, without_reads}
use Rattle.two_path.specs.Turns.{Tapes}
use Rattle.two_path.specs.Histories.{Event, behind_event, records_of, behind_entry, history, fold, IsLegal, IsNext, IsKept, Keeps, HistoriesAreRuns}
use Rattle.two_path.proofs.Edited.{entry_bare}
use Rattle.nc_verify.specs.declared.verified.Verified.{Verified}
use Rattle.nc_restart.specs.Pair.{texts_of, tapes_in, opening_of, machine_behind}
use Rattle.nc_restart.specs.History.{IsHistory}
use Rattle.nc_restart.specs.Meaning.{HasHistory, StandsForRun}
use Rattle.nc_restart.specs.Lives.{IsLife, LeaveEach, AreOneHistory}
use Rattle.nc_restart.proofs.SamePair.{same_pair}
use Rattle.nc_restart.proofs.OneRun.{Below, history_same, one_run, header_of, entries_of}

-- a machine that keeps its history over each record that is done again and over each event
module _ (tapes : Tapes) (m : MachineView) (keeps : Keeps tapes m) where
  -- after further legal records the history is that of the records before and these
  kept_on : (done entries : List Entry) (now : MachineView) → IsKept tapes m done now → without_reads now ≡ now → IsLegal tapes now entries
      → IsKept tapes m (done ++ entries) (fold tapes now entries)
  kept_on done [] now kept bare legal = subst (λ (l : List Entry). IsKept tapes m l now) (sym (append-nil done)) kept
  kept_on done (e ∷ entries) now kept bare legal =
      let next = keeps.entry done now e kept (subst (λ (x : MachineView). IsNext tapes x e) (sym bare) legal.0) in
      let here : IsKept tapes m (done ++ e ∷ []) (behind_entry tapes e now) =
      subst (λ (x : MachineView). IsKept tapes m (done ++ e ∷ []) (behind_entry tapes e x)) bare next in
      subst (λ (l : List Entry). IsKept tapes m l (fold tapes (behind_entry tapes e now) entries)) (append_assoc done (e ∷ []) entries)
      (kept_on (done ++ e ∷ []) entries (behind_entry tapes e now) here (entry_bare tapes e now) legal.1)

  -- the records before and those of further events are legal together
  legal_on : (entries : List Entry) (now : MachineView) (events : List Event) → IsKept tapes m entries now → IsLegal tapes m (entries ++ history tapes now events)
  legal_on entries now [] kept = subst (IsLegal tapes m) (sym (append-nil entries)) kept.legal
  legal_on entries now (e ∷ events) kept =
      subst (IsLegal tapes m) (append_assoc entries (records_of tapes e now) (history tapes (behind_event tapes e now) events))
      (legal_on (entries ++ records_of tapes e now) (behind_event tapes e now) events (keeps.event entries now e kept))

-- if at least all found records are kept of a longer list, those it begins with are the found ones
front_again : (found more : List Entry) (kept : ℕ) → length found ≤ kept → take (length found) (take kept (found ++ more)) ≡ found
front_again [] more kept holds = refl
front_again (e ∷ found) more zero holds = absurd (omega (arith, holds))
front_again (e ∷ found) more (suc kept) holds = ap (λ l. e ∷ l) (front_again found more kept (omega (arith, holds)))

-- a run over restarts, by the laws of the layers below
module _ (below : Below) (keeps : (pair : Verified) → Keeps (tapes_in pair) (opening_of pair))
    (runs : (pair : Verified) → HistoriesAreRuns (tapes_in pair) (opening_of pair)) where
  -- a history and the records of events after it are legal together
  life_legal : (pair : Verified) (found : List Entry) (events : List Event) → IsHistory pair found
      → IsLegal (tapes_in pair) (opening_of pair) (found ++ history (tapes_in pair) (machine_behind pair found) events)
  life_legal pair found events is =
      let kept = kept_on (tapes_in pair) (opening_of pair) (keeps pair) [] found (opening_of pair) (keeps pair).opening refl is.legal in
      legal_on (tapes_in pair) (opening_of pair) (keeps pair) found (machine_behind pair found) events kept

  -- what a stop leaves of a history and of what came after it is a history of the header
  life_has : (header : Header) (found left : List Entry) → HasHistory header found → IsLife header found left → HasHistory header left
  life_has header found left has life =
      let same = same_pair (texts_of header) has.pair life.pair has.accepted life.accepted in
      let is = history_same has.pair life.pair same found has.history in
      let all = life_legal life.pair found life.events is in
      record {
        pair = life.pair;
        accepted = life.accepted;
        history = record {
          legal = subst (IsLegal (tapes_in life.pair) (opening_of life.pair)) (sym life.are) ((runs life.pair).prefix life.kept _ all);
          few = life.few;
        };
      }

  -- what a stop leaves begins with the records that the restart found
  life_front : (header : Header) (found left : List Entry) → IsLife header found left → take (length found) left ≡ found
  life_front header found left life =
      ap (take (length found)) life.are
      ∙ front_again found (history (tapes_in life.pair) (machine_behind life.pair found) life.events) life.kept life.holds

  -- over any restarts and stops the records are one history
  pub one_history : (header : Header) (found : List Entry) (image : List ℕ) (images : List (List ℕ)) → StandsForRun (a_run header found) image
      → LeaveEach image images → AreOneHistory header found images
  one_history header found image [] stands leave = tt
  one_history header found image (next ∷ images) stands leave =
      let l = leave.0 in
      let same : a_run l.header l.found ≡ a_run header found = one_run below image (a_run l.header l.found) (a_run header found) l.begins stands in
      let h : l.header ≡ header = ap (header_of header) same in
      let f : l.found ≡ found = ap (entries_of found) same in
      let life : IsLife header found l.left = subst (λ (es : List Entry). IsLife header es l.left) f (subst (λ (x : Header). IsLife x l.found l.left) h l.life) in
      let has = life_has header found l.left stands.1 life in
      let is : StandsForRun (a_run header l.left) next = (subst (λ (x : Header). StandsFor (a_run x l.left) next) h l.ends, has) in
      (l.left, is, life_front header found l.left life, one_history header l.left next images is leave.1)
