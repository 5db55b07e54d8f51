-- A step of a held table: what it adds to what both turrets were told.
-- HeldKept, WaitsTold and FlushedShown use it.
use Rattle.std.proofs.Common.{◌≡◌, ◌≢◌, inl, inr, ℕ, ◌+◌, ◌<◌, ◌==◌, ◌&&◌, Bool, true, false, List, [], ◌∷◌, ◌++◌, length, drop, refl, sym, ◌∙◌, ap, subst, arith, append-nil, append_assoc, length-append, Option, Some, None}
use Rattle.std.specs.Prelude.{nat_lt, not, MatchOption}
use Rattle.std.proofs.Math.Seq.{drop-append_seam}
use Rattle.disk_model.specs.Device.{DiskState}
use Rattle.nc_number.specs.declared.path.Path.{Path}
use Rattle.nc_number.proofs.Bools.{and_false, not_false}
use Rattle.nc_number.specs.declared.limits.TheConstants.{MOST_PENDING}
use Rattle.nc_number.specs.Both.{of_path}
use Rattle.nc_number.specs.declared.both.Both.{Both}
use Rattle.nc_outside.specs.Calls.{told_at}
use Rattle.run_table.specs.declared.resting.Resting.{Resting}
use Rattle.seat_table.specs.Turning.{Answers as Adds}
use Rattle.nc_outside.specs.declared.halt.Halt.{Halt}
use Rattle.nc_outside.specs.declared.halt.Halt.TheVariants as halt
use Rattle.nc_outside.specs.declared.halt.Next.TheVariants as next
use Rattle.nc_outside.specs.declared.got.Got.{Got}
use Rattle.nc_verify.specs.declared.verified.Verified.{Verified}
use Rattle.run_records.specs.Entries.{Entry, edit_of}
use Rattle.run_records.specs.declared.entry.EntryKind.{EntryKind}
use Rattle.two_path.specs.declared.turn.Turn.{Turn}
use Rattle.two_path.specs.declared.turn.Turn.TheVariants as turn
use Rattle.two_path.specs.Machine.{MachineView, without_reads}
use Rattle.two_path.specs.Turns.{Tapes, turn_of, kind_of, entry_with, entry_of}
use Rattle.two_path.specs.Histories.{list_of, fold, IsKept}
use Rattle.two_path.specs.Again.{turn_of_entry}
use Rattle.two_path.proofs.Edited.{no_edit}
use Rattle.seat_table.specs.Turning.{Draining}
use Rattle.run_table.specs.declared.answer.TableStep.{TableStep}
use Rattle.run_table.specs.declared.answer.TableStep.TheVariants.{Turned, Drain, Undrained, DiskFault, Halted}
use Rattle.run_table.specs.Draining.{rest_behind, rest_told, resting_behind, told_in_turn, FitsRest}
use Rattle.run_table.specs.Kept.{TableView, tapes_in, opening_of, MayGoOn, HasReason, IsTable}
use Rattle.run_table.specs.Since.{Since}
use Rattle.run_table.specs.Stepping.{is_due, bound_of, drains, step_by, step_of, Answers, reason_behind, IsStep}
use Rattle.run_table.specs.Stepping.Answers.{at_once, flushed, failed}
use Rattle.run_table.specs.Made.{joined}
use Rattle.two_path.proofs.Folds.{fold_parts}
use Rattle.run_table.specs.Holding.{HeldView, held_of, answered_from, records_since, told_since, next_of, is_lost}
use Rattle.run_table.proofs.OtherGoesOn.{waits_still}
use Rattle.run_table.proofs.ListsGrow.{GrowsBy, GrowsByTurn, Grows, shown_grows, lost_grows}
use Rattle.run_table.proofs.ToldOwn.{others_grow, rests_kept, rests_other, rests_own, step_own}
use Rattle.run_table.proofs.Redone.{redone}

-- no record is lost if none was made
none_lost : (result : TableStep) (n n' : ℕ) → n' ≡ n → is_lost result n n' ≡ false
none_lost (Turned t) n n' same = refl
none_lost (Drain code) n n' same = refl
none_lost Undrained n n' same = refl
none_lost DiskFault n n' same = let is : (n == n') ≡ true = grind arith in ap not is
none_lost (Halted why) n n' same = refl

-- a fault of the disk that made a record has lost its moves
one_lost : (n n' : ℕ) → n' ≡ n + 1 → is_lost DiskFault n n' ≡ true
one_lost n n' more = let is : (n == n') ≡ false = grind arith in ap not is

-- a batch that isn't full has room for one record more
pub not_full : (written n m : ℕ) → m ≡ n → n < written + MOST_PENDING → (written + MOST_PENDING == m) ≡ false
not_full written n m same few = grind arith

-- a test and `true` together are that test
still : (b : Bool) → (b && true) ≡ b
still true = refl
still false = refl

-- a step of a path of a held table that was opened as `start`, from the table t to t'
module _ {D : Type 0} (state : D → DiskState) (path : Path) (start t t' : TableView D) (result : TableStep) (shown shown' : Bool)
    (table : IsTable state t) (since : Since state start t) (lost : shown ≡ false → t.halt ≡ Some halt.Disk)
    (step : IsStep state (step_of t path) t t' result) (resting : t'.resting ≡ resting_behind path result t.resting)
    (fits : FitsRest (of_path t.resting path) result)
    (shown_is : shown' ≡ (shown && not (is_lost result (length t.recording.history) (length t'.recording.history)))) where
  -- both tapes of the table
  abbrev tapes : Tapes
  tapes = tapes_in start.verified

  -- the machine of the opening
  abbrev first : MachineView
  first = fold (tapes_in start.verified) (opening_of start.verified) start.recording.history

  -- the records of a path since the opening with what they told, before the step
  abbrev before : Path → List (List Got)
  before p = records_since (Some start) (held_of t shown) p

  -- the records of a path since the opening with what they told, after the step
  abbrev after : Path → List (List Got)
  after p = records_since (Some start) (held_of t' shown') p

  -- what was told the turret of a path since the opening, before the step
  abbrev told : Path → List Got
  told p = told_since (Some start) (held_of t shown) p

  -- what was told the turret of a path since the opening, after the step
  abbrev told' : Path → List Got
  told' p = told_since (Some start) (held_of t' shown') p

  -- this answer is what the step tells the turret of its path, and the other's is told nothing
  abbrev Comes : TableStep → Type 0
  Comes answer =
      MatchOption (next_of answer) (◌≡◌ {A = HeldView D} (held_of t' shown') (held_of t shown)) (λ next. Adds (told path) next (told' path))
      × ((p : Path) → p ≢ path → told' p ≡ told p)

  -- before the step the records since the opening are those that were made since
  behind : drop (length start.recording.history) t.recording.history ≡ since.made
  behind = ap (drop (length start.recording.history)) since.recording.history ∙ drop-append_seam start.recording.history since.made

  -- a step that makes these records
  module _ (made : List Entry) (grown : t'.recording.history ≡ t.recording.history ++ made) where
    -- after the step the records since the opening are those made before it and those that it made
    behind' : drop (length start.recording.history) t'.recording.history ≡ since.made ++ made
    behind' =
        ap (drop (length start.recording.history)) (grown ∙ ap (λ (l : List Entry). l ++ made) since.recording.history ∙ append_assoc start.recording.history since.made made)
        ∙ drop-append_seam start.recording.history (since.made ++ made)

    -- a step makes the history longer by the records that it makes
    pub count' : length t'.recording.history ≡ length t.recording.history + length made
    count' = ap length grown ∙ length-append t.recording.history made

  -- a step that makes no record
  module _ (grown : t'.recording.history ≡ t.recording.history ++ []) where
    -- whether the last moves were answered stays as it was
    shown_same : shown' ≡ shown
    shown_same = shown_is ∙ ap (λ (b : Bool). shown && not b) (none_lost result (length t.recording.history) (length t'.recording.history) (ap length (grown ∙ append-nil t.recording.history))) ∙ still shown

    -- a step without a record adds no moves
    pub stays : (p : Path) → after p ≡ before p
    stays p =
        ap (λ (b : Bool). answered_from tapes first p b (drop (length start.recording.history) t'.recording.history)) shown_same
        ∙ ap (λ (l : List Entry). answered_from tapes first p shown (drop (length start.recording.history) l)) (grown ∙ append-nil t.recording.history)

  -- a step of a table that nothing has stopped
  module _ (why : t.halt ≡ None) where
    -- if a record is made, the last one's moves were answered
    shown_before : shown ≡ true
    shown_before = go shown refl
      where
        go : (b : Bool) → shown ≡ b → shown ≡ true
        go true is = is
        go false is = absurd (let clash : None ≡ Some halt.Disk = sym why ∙ lost is in cc)

    -- a table that nothing stopped may go on
    may : MayGoOn t.machine t.recording
    may = subst (HasReason t.machine t.recording) why table.reason

    -- the turn of the path
    abbrev the_turn : Turn
    the_turn = (turn_of (tapes_in t.verified) path t.machine).turn

    -- the record of the turn, of this kind
    abbrev entry : EntryKind → Entry
    entry k = record { path = path; kind = k; stamps = (of_path t.machine.paths path).stamps }

    -- the record of the turn is one of this kind
    made_is : (k : Option EntryKind) → kind_of the_turn ≡ k → list_of (entry_of (tapes_in t.verified) path t.machine) ≡ list_of (entry_with path (of_path t.machine.paths path).stamps k)
    made_is k is = ap (λ (o : Option EntryKind). list_of (entry_with path (of_path t.machine.paths path).stamps o)) is

    -- the machine before the step is the fold of its history
    kept : IsKept tapes (opening_of start.verified) t.recording.history t.machine
    kept = subst (λ (v : Verified). IsKept (tapes_in v) (opening_of v) t.recording.history t.machine) since.verified table.kept

    -- the moves of the turn's record, done again, are those of the turn
    same_moves : (k : EntryKind) → edit_of k ≡ None → told_in_turn (turn_of_entry tapes (entry k) (fold tapes first since.made)) ≡ told_in_turn the_turn
    same_moves k plain =
        let there : fold tapes first since.made ≡ without_reads t.machine =
        sym (fold_parts tapes (opening_of start.verified) start.recording.history since.made) ∙ ap (fold tapes (opening_of start.verified)) (sym since.recording.history) ∙ kept.folds in
        ap (λ (m : MachineView). told_in_turn (turn_of_entry tapes (entry k) m)) there
        ∙ ap told_in_turn (redone tapes path t.machine k plain kept.lawful)
        ∙ ap (λ (v : Verified). told_in_turn (turn_of (tapes_in v) path t.machine).turn) (sym since.verified)

    -- a step that makes one record, and its answer
    module _ (k : EntryKind) (grown : t'.recording.history ≡ t.recording.history ++ entry k ∷ []) where
      -- a record that is answered adds what it tells to the list of its path
      pub shown_grown : edit_of k ≡ None → (is_lost result (length t.recording.history) (length t'.recording.history) ≡ false) → GrowsBy path (told_in_turn the_turn) before after
      shown_grown plain kept_it =
          let now : shown' ≡ true = shown_is ∙ ap (λ (b : Bool). shown && not b) kept_it ∙ still shown ∙ shown_before in
          subst (λ (b : Bool). GrowsBy path (told_in_turn the_turn) (λ p. answered_from tapes first p b (drop (length start.recording.history) t.recording.history)) after) (sym shown_before)
          (subst (λ (b : Bool). GrowsBy path (told_in_turn the_turn) (λ p. answered_from tapes first p true (drop (length start.recording.history) t.recording.history))
          (λ p. answered_from tapes first p b (drop (length start.recording.history) t'.recording.history))) (sym now)
          (subst (λ (l : List Entry). GrowsBy path (told_in_turn the_turn) (λ p. answered_from tapes first p true l)
          (λ p. answered_from tapes first p true (drop (length start.recording.history) t'.recording.history))) (sym behind)
          (subst (λ (l : List Entry). GrowsBy path (told_in_turn the_turn) (λ p. answered_from tapes first p true since.made) (λ p. answered_from tapes first p true l)) (sym (behind' (entry k ∷ []) grown))
          (shown_grows tapes first path since.made (entry k) refl (told_in_turn the_turn) (same_moves k plain)))))

      -- a record that was lost adds an empty entry
      pub lost_grown : (is_lost result (length t.recording.history) (length t'.recording.history) ≡ true) → GrowsBy path [] before after
      lost_grown lost_it =
          let now : shown' ≡ false = shown_is ∙ ap (λ (b : Bool). shown && not b) lost_it ∙ and_false shown false refl in
          subst (λ (b : Bool). GrowsBy path [] (λ p. answered_from tapes first p b (drop (length start.recording.history) t.recording.history)) after) (sym shown_before)
          (subst (λ (b : Bool). GrowsBy path [] (λ p. answered_from tapes first p true (drop (length start.recording.history) t.recording.history))
          (λ p. answered_from tapes first p b (drop (length start.recording.history) t'.recording.history))) (sym now)
          (subst (λ (l : List Entry). GrowsBy path [] (λ p. answered_from tapes first p true l)
          (λ p. answered_from tapes first p false (drop (length start.recording.history) t'.recording.history))) (sym behind)
          (subst (λ (l : List Entry). GrowsBy path [] (λ p. answered_from tapes first p true since.made) (λ p. answered_from tapes first p false l)) (sym (behind' (entry k ∷ []) grown))
          (lost_grows tapes first path since.made (entry k) refl))))

    -- a turn that says that the path waits
    module _ (turned : IsStep state (step_by t path None None Draining.none) t t' result) (code : ℕ) (waits : the_turn ≡ turn.Waiting code) where
      -- a path that waits makes no record
      none_made : list_of (entry_of (tapes_in t.verified) path t.machine) ≡ []
      none_made = made_is None (ap kind_of waits)

      -- after the turn of a path that waits the history is the same
      same_history : t'.recording.history ≡ t.recording.history ++ []
      same_history = turned.records.follows.history ∙ ap (λ (l : List Entry). t.recording.history ++ l) none_made

      -- no flush is due for a path that waits
      not_due : is_due t.recording (list_of (entry_of (tapes_in t.verified) path t.machine)) the_turn ≡ false
      not_due =
          ap (λ (l : List Entry). is_due t.recording l the_turn) none_made ∙ ap (is_due t.recording []) waits
          ∙ not_full t.recording.flushed (length t.recording.history) (length (t.recording.history ++ [])) (ap length (append-nil t.recording.history)) may.few

      -- the disk isn't touched for a path that waits
      rests : Answers state (is_due t.recording (list_of (entry_of (tapes_in t.verified) path t.machine)) the_turn) (Turned the_turn) t.recording t'.recording result
          → (result ≡ Turned the_turn) × (t'.recording.log.file ≡ t.recording.log.file) × (t'.recording.flushed ≡ t.recording.flushed)
      rests (at_once now same file even) = (same, file, even)
      rests (flushed due same live all) = absurd (let clash : true ≡ false = sym due ∙ not_due in cc)
      rests (failed due same dead stay rose) = absurd (let clash : true ≡ false = sym due ∙ not_due in cc)

      -- the held table is as it was after the turn of a path that waits
      pub unchanged : ◌≡◌ {A = HeldView D} (held_of t' shown') (held_of t shown)
      unchanged =
          let at = rests turned.answer in
          let is : result ≡ Turned (turn.Waiting code) = at.0 ∙ ap Turned waits in
          let machine : t'.machine ≡ t.machine = turned.machine ∙ waits_still (tapes_in t.verified) path t.machine code waits in
          let history : t'.recording.history ≡ t.recording.history = same_history ∙ append-nil t.recording.history in
          let halts : t'.halt ≡ t.halt = turned.halt ∙ ap (reason_behind t.halt) is ∙ (ap (λ (h : Option Halt). reason_behind h (Turned (turn.Waiting code))) why ∙ sym why) in
          let spent : t'.budget ≡ t.budget = let none : length (list_of (entry_of (tapes_in t.verified) path t.machine)) ≡ 0 = ap length none_made in omega (arith, turned.budget, none) in
          let owes : t'.resting ≡ t.resting = resting ∙ ap (λ (r : TableStep). resting_behind path r t.resting) is ∙ rests_kept path t.resting in
          λ i. record {
            verified = turned.verified i;
            machine = machine i;
            history = history i;
            flushed = at.2 i;
            file = at.1 i;
            halt = halts i;
            budget = spent i;
            resting = owes i;
            shown = shown_same same_history i;
          }

    -- a step that is the path's turn
    module _ (turned : IsStep state (step_by t path None None Draining.none) t t' result) where
      -- the history grows by the record of the turn, if it makes one
      history_by : (k : Option EntryKind) → kind_of the_turn ≡ k → t'.recording.history ≡ t.recording.history ++ list_of (entry_with path (of_path t.machine.paths path).stamps k)
      history_by k is = turned.records.follows.history ∙ ap (λ (l : List Entry). t.recording.history ++ l) (made_is k is)

      -- a turn that is answered adds what it tells to the list of its path
      shown_result : (k : Option EntryKind) → kind_of the_turn ≡ k → result ≡ Turned the_turn → GrowsByTurn path the_turn k before after
      shown_result None is same = stays (history_by None is)
      shown_result (Some k) is same =
          shown_grown k (history_by (Some k) is) (no_edit the_turn k is) (ap (λ (r : TableStep). is_lost r (length t.recording.history) (length t'.recording.history)) same)

      -- a turn whose flush failed adds nothing that is told
      failed_result : (k : Option EntryKind) → kind_of the_turn ≡ k → result ≡ DiskFault → Grows path DiskFault before after
      failed_result None is same = inr (stays (history_by None is))
      failed_result (Some k) is same =
          let more : length t'.recording.history ≡ length t.recording.history + 1 = count' (entry k ∷ []) (history_by (Some k) is) in
          inl (lost_grown k (history_by (Some k) is)
          (ap (λ (r : TableStep). is_lost r (length t.recording.history) (length t'.recording.history)) same ∙ one_lost (length t.recording.history) (length t'.recording.history) more))

      -- the result of a turn is what the step adds, whether the flush before it failed or not
      turn_grows : Answers state (is_due t.recording (list_of (entry_of (tapes_in t.verified) path t.machine)) the_turn) (Turned the_turn) t.recording t'.recording result
          → Grows path result before after
      turn_grows (at_once now same file even) = subst (λ (r : TableStep). Grows path r before after) (sym same) (shown_result (kind_of the_turn) refl same)
      turn_grows (flushed due same live all) = subst (λ (r : TableStep). Grows path r before after) (sym same) (shown_result (kind_of the_turn) refl same)
      turn_grows (failed due same dead stay rose) = subst (λ (r : TableStep). Grows path r before after) (sym same) (failed_result (kind_of the_turn) refl same)

      -- after a turn that says that the path waits the held table is as it was
      turn_waits : Answers state (is_due t.recording (list_of (entry_of (tapes_in t.verified) path t.machine)) the_turn) (Turned the_turn) t.recording t'.recording result
          → (code : ℕ) → result ≡ Turned (turn.Waiting code) → ◌≡◌ {A = HeldView D} (held_of t' shown') (held_of t shown)
      turn_waits (at_once now same file even) code is = let turned_is : Turned the_turn ≡ Turned (turn.Waiting code) = sym same ∙ is in let waits : the_turn ≡ turn.Waiting code = cc in unchanged turned code waits
      turn_waits (flushed due same live all) code is = let turned_is : Turned the_turn ≡ Turned (turn.Waiting code) = sym same ∙ is in let waits : the_turn ≡ turn.Waiting code = cc in unchanged turned code waits
      turn_waits (failed due same dead stay rose) code is = absurd (let clash : DiskFault ≡ Turned (turn.Waiting code) = sym same ∙ is in cc)

  -- an answer without a turn adds nothing
  idle_grows : (answer : TableStep) (due : Bool) → ((p : Path) → after p ≡ before p) → Grows path answer before after → Answers state due answer t.recording t'.recording result → Grows path result before after
  idle_grows answer due same_all grows (at_once now same file even) = subst (λ (r : TableStep). Grows path r before after) (sym same) grows
  idle_grows answer due same_all grows (flushed was same live all) = subst (λ (r : TableStep). Grows path r before after) (sym same) grows
  idle_grows answer due same_all grows (failed was same dead stay rose) = subst (λ (r : TableStep). Grows path r before after) (sym same) (inr same_all)

  -- what a step answers is what it adds to the lists of records
  pub grows : Grows path result before after
  grows = go t.halt (bound_of t) (drains t path) refl step
    where
      go : (why bound : Option Halt) (drain : Draining) → t.halt ≡ why → IsStep state (step_by t path why bound drain) t t' result → Grows path result before after
      go (Some why) bound drain is s = let same = stays s.records.follows.history in idle_grows (Halted why) false same same s.answer
      go None (Some why) drain is s =
          let same = stays s.records.follows.history in idle_grows (Halted why) (nat_lt t.recording.flushed (length t.recording.history)) same same s.answer
      go None None (Draining.due code) is s = let same = stays s.records.follows.history in idle_grows (Drain code) false same same s.answer
      go None None (Draining.asked code) is s = let same = stays s.records.follows.history in idle_grows Undrained false same same s.answer
      go None None Draining.none is s = turn_grows is s s.answer

  -- an answer that is none of a turn does not say that the path waits
  idle_waits : (answer : TableStep) (due : Bool) (code : ℕ) → (answer ≡ Turned (turn.Waiting code) → ⊥) → Answers state due answer t.recording t'.recording result
      → result ≡ Turned (turn.Waiting code) → ⊥
  idle_waits answer due code not_so (at_once now same file even) is = not_so (sym same ∙ is)
  idle_waits answer due code not_so (flushed was same live all) is = not_so (sym same ∙ is)
  idle_waits answer due code not_so (failed was same dead stay rose) is = let clash : DiskFault ≡ Turned (turn.Waiting code) = sym same ∙ is in cc

  -- a step that says that the path waits leaves the held table as it was
  waits_same : (code : ℕ) → result ≡ Turned (turn.Waiting code) → ◌≡◌ {A = HeldView D} (held_of t' shown') (held_of t shown)
  waits_same code is = go t.halt (bound_of t) (drains t path) refl step
    where
      go : (why bound : Option Halt) (drain : Draining) → t.halt ≡ why → IsStep state (step_by t path why bound drain) t t' result → ◌≡◌ {A = HeldView D} (held_of t' shown') (held_of t shown)
      go (Some why) bound drain halts s = absurd (idle_waits (Halted why) false code (λ clash. cc) s.answer is)
      go None (Some why) drain halts s = absurd (idle_waits (Halted why) _ code (λ clash. cc) s.answer is)
      go None None (Draining.due at) halts s = absurd (idle_waits (Drain at) false code (λ clash. cc) s.answer is)
      go None None (Draining.asked at) halts s = absurd (idle_waits Undrained false code (λ clash. cc) s.answer is)
      go None None Draining.none halts s = turn_waits halts s s.answer code is

  -- what a step answers is what it tells the turret of its path
  pub comes : Comes result
  comes = (
    subst (λ (r : Resting). MatchOption (next_of result) (◌≡◌ {A = HeldView D} (held_of t' shown') (held_of t shown)) (λ next. joined (after path) ++ rest_told r ≡ told path ++ told_at next)) (sym own_rest)
        (step_own {H = HeldView D} (held_of t shown) (held_of t' shown') path result (of_path t.resting path) before after grows fits waits_same),
    λ p differ. (λ i. joined (others_grow path result before after grows p differ i) ++ rest_told (other_rest p differ i)),
  )
    where
      own_rest : of_path t'.resting path ≡ rest_behind result (of_path t.resting path)
      own_rest = ap (λ (b : Both Resting). of_path b path) resting ∙ rests_own path (rest_behind result (of_path t.resting path)) t.resting

      other_rest : (p : Path) → p ≢ path → of_path t'.resting p ≡ of_path t.resting p
      other_rest p differ = ap (λ (b : Both Resting). of_path b p) resting ∙ rests_other path p (rest_behind result (of_path t.resting path)) t.resting differ

  -- a table that has halted answers why, and makes no record
  pub halted_told : (why : Halt) → t.halt ≡ Some why → (next_of result ≡ Some (next.Halted why)) × (t'.halt ≡ Some why) × ((p : Path) → told' p ≡ told p)
  halted_told why is =
      let s = subst (λ (h : Option Halt). IsStep state (step_by t path h (bound_of t) (drains t path)) t t' result) is step in
      let rests : t'.resting ≡ t.resting = resting ∙ ap (λ (r : TableStep). resting_behind path r t.resting) (answered s.answer) ∙ rests_kept path t.resting in
      (ap next_of (answered s.answer), step.halt ∙ ap (λ (h : Option Halt). reason_behind h result) is, λ p i. joined (stays s.records.follows.history p i) ++ rest_told (of_path (rests i) p))
    where
      answered : Answers state false (Halted why) t.recording t'.recording result → result ≡ Halted why
      answered (at_once now same file even) = same
      answered (flushed was same live all) = absurd (let clash : false ≡ true = was in cc)
      answered (failed was same dead stay rose) = absurd (let clash : false ≡ true = was in cc)

  -- a record is lost only if the disk fails
  pub still_lost : shown' ≡ false → t'.halt ≡ Some halt.Disk
  still_lost is = before_it shown refl
    where
      only_fault : (r : TableStep) → is_lost r (length t.recording.history) (length t'.recording.history) ≡ true → r ≡ DiskFault
      only_fault (Turned u) clash = absurd cc
      only_fault (Drain code) clash = absurd cc
      only_fault Undrained clash = absurd cc
      only_fault DiskFault same = refl
      only_fault (Halted why) clash = absurd cc

      idle : (why : Halt) → Answers state false (Halted why) t.recording t'.recording result → result ≡ DiskFault → ⊥
      idle why (at_once now same file even) fault = let clash : Halted why ≡ DiskFault = sym same ∙ fault in cc
      idle why (flushed was same live all) fault = let clash : false ≡ true = was in cc
      idle why (failed was same dead stay rose) fault = let clash : false ≡ true = was in cc

      by_halt : (why : Option Halt) → t.halt ≡ why → result ≡ DiskFault → t'.halt ≡ Some halt.Disk
      by_halt None none fault = step.halt ∙ ap (λ (h : Option Halt). reason_behind h result) none ∙ ap (reason_behind None) fault
      by_halt (Some why) some fault =
          absurd (idle why (subst (λ (h : Option Halt). IsStep state (step_by t path h (bound_of t) (drains t path)) t t' result) some step).answer fault)

      before_it : (b : Bool) → shown ≡ b → t'.halt ≡ Some halt.Disk
      before_it false was = step.halt ∙ ap (λ (h : Option Halt). reason_behind h result) (lost was)
      before_it true was =
          let same : not (is_lost result (length t.recording.history) (length t'.recording.history)) ≡ false =
          sym (ap (λ (b : Bool). b && not (is_lost result (length t.recording.history) (length t'.recording.history))) was) ∙ sym shown_is ∙ is in
          by_halt t.halt refl (only_fault result (not_false (is_lost result (length t.recording.history) (length t'.recording.history)) same))
