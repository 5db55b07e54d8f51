-- The moves that a held table has answered are those of records on the disk: an invariant of each
-- step.
-- HeldKept, EndsTold and the proof of `a_table_opens_itself` (src/laws.rt) use it.
use Rattle.std.proofs.Common.{◌≡◌, ◌≢◌, ⊎_elim, map, ℕ, ◌≤◌, ◌==◌, Bool, true, false, List, [], ◌∷◌, ◌++◌, length, take, drop, refl, sym, ◌∙◌, ap, subst, arith, append-nil, append_assoc, length-append, Option, Some, None}
use Rattle.std.specs.Prelude.{not, ◌&&◌}
use Rattle.std.proofs.Math.Seq.{take-length, take-append_seam, drop-length, drop-append_seam}
use Rattle.std.proofs.Math.ListN.{drop_of_length-le}
use Rattle.std.proofs.lemmas.List.{take-append-le, length-take}
use Rattle.disk_model.specs.Device.{DiskState, IsCoherent}
use Rattle.nc_number.specs.declared.path.Path.{Path}
use Rattle.nc_number.specs.declared.path.Path.TheVariants.{One, Two}
use Rattle.nc_number.proofs.Bools.{neither}
use Rattle.nc_outside.specs.declared.halt.Halt.{Halt}
use Rattle.nc_outside.specs.declared.halt.Halt.TheVariants as halt
use Rattle.nc_outside.specs.declared.got.Got.{Got}
use Rattle.nc_outside.specs.declared.got.Got.TheVariants.{Moved}
use Rattle.nc_outside.specs.Lined.{lined_moves, lined_move}
use Rattle.std.proofs.lemmas.List.{nil_from_length}
use Rattle.nc_moves.specs.declared.motion.Moves.{Moves}
use Rattle.nc_verify.specs.declared.verified.Verified.{Verified}
use Rattle.run_records.specs.Entries.{Entry}
use Rattle.seat_table.specs.Turning.{Draining}
use Rattle.nc_number.specs.Both.{of_path}
use Rattle.two_path.specs.declared.turn.Turn.{Turn}
use Rattle.two_path.specs.declared.turn.Turn.TheVariants as turn
use Rattle.two_path.specs.Turns.{turn_of}
use Rattle.two_path.specs.Histories.{fold}
use Rattle.run_table.specs.declared.answer.TableStep.{TableStep}
use Rattle.run_table.specs.declared.answer.TableStep.TheVariants.{Turned, Drain, Undrained, DiskFault, Halted}
use Rattle.run_table.specs.Draining.{resting_behind, told_in_turn, FitsRest}
use Rattle.run_table.specs.Kept.{TableView, tapes_in, opening_of, IsTable}
use Rattle.run_table.specs.Made.{joined, told_from, told_made}
use Rattle.run_table.specs.Since.{Since}
use Rattle.run_table.specs.Stepping.{is_shown, bound_of, drains, step_by, step_of, Answers, IsStep}
use Rattle.run_table.specs.Stepping.Answers.{at_once, flushed, failed}
use Rattle.run_table.specs.Holding.{HeldView, held_of, ShowsFlushed, MayHold, is_lost, records_since}
use Rattle.run_table.proofs.HeldSteps.{grows}
use Rattle.run_table.proofs.ListsGrow.{GrowsBy, Grows}
use Rattle.run_table.proofs.ToldOwn.{joined_more, others_grow, turn_grows}
use Rattle.two_path.specs.Turns.{kind_of}
use Rattle.run_table.proofs.Then.{since_none, since_more}

-- a turn that shows nothing, by whether it makes a record, tells nothing
unshown_told : (t : Turn) → is_shown t ≡ false → told_in_turn t ≡ []
unshown_told (turn.Read variable stamp) quiet = refl
unshown_told (turn.Did moves) quiet = go (length moves.list == 0) refl quiet
  where
    go : (b : Bool) → (length moves.list == 0) ≡ b → not b ≡ false → map Moved (lined_moves moves) ≡ []
    go true none calm = let empty : moves.list ≡ [] = nil_from_length moves.list (grind arith) in ap (λ l. map Moved (map (lined_move moves.line) l)) empty
    go false some calm = absurd cc
unshown_told (turn.Arrived code) quiet = absurd cc
unshown_told (turn.Met code) quiet = absurd cc
unshown_told (turn.Ended moves) quiet = absurd cc
unshown_told (turn.Waiting code) quiet = refl
unshown_told turn.Finished quiet = refl
unshown_told (turn.Alarm alarm) quiet = absurd cc
unshown_told (turn.Halted alarm) quiet = refl
unshown_told turn.Edited quiet = refl

-- if the moves of the path that stepped stay, and the other's list stays, the moves of each path
-- stay
by_path : (path p : Path) {before after : Path → List (List Got)} → joined (after path) ≡ joined (before path) → ((q : Path) → q ≢ path → after q ≡ before q)
    → joined (after p) ≡ joined (before p)
by_path One One own others = own
by_path One Two own others = ap joined (others Two (λ clash. cc))
by_path Two One own others = ap joined (others One (λ clash. cc))
by_path Two Two own others = own

-- the moves up to a record are the same in a longer history
made_same : (pair : Verified) (path : Path) (from upto : ℕ) (history made : List Entry) → from ≤ length history → upto ≤ length history
    → told_made pair path from upto (history ++ made) ≡ told_made pair path from upto history
made_same pair path from upto history made first last =
    λ i. joined (told_from (tapes_in pair) (fold (tapes_in pair) (opening_of pair) (take-append-le from history made first i)) path
    (drop from (take-append-le upto history made last i)))

-- the moves of all records that were added to a history
made_behind : (pair : Verified) (path : Path) (history made : List Entry)
    → told_made pair path (length history) (length (history ++ made)) (history ++ made)
    ≡ joined (told_from (tapes_in pair) (fold (tapes_in pair) (opening_of pair) history) path made)
made_behind pair path history made =
    let all : drop (length history) (take (length (history ++ made)) (history ++ made)) ≡ made =
    ap (drop (length history)) (take-length (history ++ made)) ∙ drop-append_seam history made in
    λ i. joined (told_from (tapes_in pair) (fold (tapes_in pair) (opening_of pair) (take-append_seam history made i)) path (all i))

-- if all records are on the disk, all that was shown is
pub shows_all : {D : Type 0} (state : D → DiskState) (start t : TableView D) → Since state start t → t.recording.flushed ≡ length t.recording.history
    → ShowsFlushed (Some start) (held_of t true) t
shows_all state start t since all = λ path.
    let grown = since.recording.history in
    let behind : drop (length start.recording.history) t.recording.history ≡ since.made = ap (drop (length start.recording.history)) grown ∙ drop-append_seam start.recording.history since.made in
    ap (λ (l : List Entry). joined (told_from (tapes_in start.verified) (fold (tapes_in start.verified) (opening_of start.verified) start.recording.history) path l)) behind
    ∙ sym (made_behind start.verified path start.recording.history since.made)
    ∙ sym (ap (λ (l : List Entry). told_made start.verified path (length start.recording.history) (length l) l) grown)
    ∙ sym (ap (λ (n : ℕ). told_made start.verified path (length start.recording.history) n t.recording.history) all)
    ∙ sym (ap (λ (v : Verified). told_made v path (length start.recording.history) t.recording.flushed t.recording.history) since.verified)

-- if no move was shown and no record got to the disk, what was shown is still there
pub shows_still : {D : Type 0} (state : D → DiskState) (start t t' : TableView D) (shown shown' : Bool) (made : List Entry) → Since state start t
    → t.recording.flushed ≤ length t.recording.history → t'.verified ≡ t.verified → t'.recording.history ≡ t.recording.history ++ made → t'.recording.flushed ≡ t.recording.flushed
    → ((p : Path) → joined (records_since (Some start) (held_of t' shown') p) ≡ joined (records_since (Some start) (held_of t shown) p))
    → ShowsFlushed (Some start) (held_of t shown) t → ShowsFlushed (Some start) (held_of t' shown') t'
shows_still state start t t' shown shown' made since within pair grown still same shows = λ path.
    let from = length start.recording.history in
    let less : from ≤ length t.recording.history = omega (arith, ap length since.recording.history, length-append start.recording.history since.made) in
    same path ∙ shows path
    ∙ sym (made_same t.verified path from t.recording.flushed t.recording.history made less within)
    ∙ sym (ap (λ (l : List Entry). told_made t.verified path from t.recording.flushed l) grown)
    ∙ sym (ap (λ (n : ℕ). told_made t.verified path from n t'.recording.history) still)
    ∙ sym (ap (λ (v : Verified). told_made v path from t'.recording.flushed t'.recording.history) pair)

-- a table that is its own opening has shown nothing since
shows_none : {D : Type 0} (t : TableView D) → ShowsFlushed (Some t) (held_of t true) t
shows_none t = λ path.
    let few : length (take t.recording.flushed t.recording.history) ≤ length t.recording.history = omega (arith, length-take t.recording.flushed t.recording.history) in
    let none : drop (length t.recording.history) t.recording.history ≡ drop (length t.recording.history) (take t.recording.flushed t.recording.history) =
    drop-length t.recording.history ∙ sym (drop_of_length-le (take t.recording.flushed t.recording.history) few) in
    λ i. joined (told_from (tapes_in t.verified) (fold (tapes_in t.verified) (opening_of t.verified) (sym (take-length t.recording.history) i)) path (none i))

-- a table is what has come of itself
pub opens_itself : {D : Type 0} (state : D → DiskState) (t : TableView D) → ((disk : D) → IsCoherent (state disk)) → MayHold state (Some t) t
opens_itself state t coherent = record { of = since_none state t coherent; shows = shows_none t }

-- if moves of the last record are unanswered only after a fault of the disk, a table without that
-- fault has answered them
pub shown_unless : {D : Type 0} (t : TableView D) (shown : Bool) → (shown ≡ false → t.halt ≡ Some halt.Disk) → t.halt ≢ Some halt.Disk → shown ≡ true
shown_unless t true lost free = refl
shown_unless t false lost free = absurd (free (lost refl))

-- the setting of a step of a held table, from the table t to t'
module _ {D : Type 0} (state : D → DiskState) (path : Path) (start t t' : TableView D) (result : TableStep) (shown shown' : Bool)
    (table : IsTable state t) (since : Since state start t) (lost : shown ≡ false → t.halt ≡ Some halt.Disk)
    (within : t.recording.flushed ≤ length t.recording.history) (shows : ShowsFlushed (Some start) (held_of t shown) t)
    (step : IsStep state (step_of t path) t t' result) (then : Since state t t') (resting : t'.resting ≡ resting_behind path result t.resting)
    (fits : FitsRest (of_path t.resting path) result)
    (shown_is : shown' ≡ (shown && not (is_lost result (length t.recording.history) (length t'.recording.history)))) where
  -- the records of a path since the opening with their answered moves, before the step
  abbrev before : Path → List (List Got)
  before p = records_since (Some start) (held_of t shown) p

  -- the records of a path since the opening with their answered moves, after the step
  abbrev after : Path → List (List Got)
  after p = records_since (Some start) (held_of t' shown') p

  -- the result of the step adds just what it tells
  came : Grows path result before after
  came = grows state path start t t' result shown shown' table since lost step resting fits shown_is

  -- if the step adds no moves, what was shown is still on the disk
  still : t'.recording.flushed ≡ t.recording.flushed → joined (after path) ≡ joined (before path) → ShowsFlushed (Some start) (held_of t' shown') t'
  still same own =
      shows_still state start t t' shown shown' (step_of t path).made since within step.verified step.records.follows.history same
      (λ p. by_path path p {before = before} {after = after} own (others_grow path result before after came)) shows

  -- an answer that tells nothing leaves what was shown on the disk
  quiet : t'.recording.flushed ≡ t.recording.flushed → (answer : TableStep) → result ≡ answer → (Grows path answer before after → joined (after path) ≡ joined (before path))
      → ShowsFlushed (Some start) (held_of t' shown') t'
  quiet same answer is none = still same (none (subst (λ (r : TableStep). Grows path r before after) is came))

  -- a turn that shows nothing leaves what was shown on the disk
  unshown_one : (t'.recording.flushed ≡ t.recording.flushed) → (u : Turn) → result ≡ Turned u → is_shown u ≡ false → ShowsFlushed (Some start) (held_of t' shown') t'
  unshown_one same u is none =
      quiet same (Turned u) is
      (λ adds. turn_grows path u (kind_of u) before after refl adds ∙ ap (λ l. joined (before path) ++ l) (unshown_told u none) ∙ append-nil (joined (before path)))

  -- an answer that the table has stopped leaves what was shown on the disk
  halted : (t'.recording.flushed ≡ t.recording.flushed) → (why : Halt) → result ≡ Halted why → ShowsFlushed (Some start) (held_of t' shown') t'
  halted same why is = quiet same (Halted why) is (λ adds. ap joined (adds path))

  -- a fault of the disk leaves what was shown on the disk
  fault : (t'.recording.flushed ≡ t.recording.flushed) → result ≡ DiskFault → ShowsFlushed (Some start) (held_of t' shown') t'
  fault same is = quiet same DiskFault is (λ adds. ⊎_elim
      (λ (g : GrowsBy path [] before after). ap joined g.own ∙ joined_more (before path) [] ∙ append-nil (joined (before path)))
      (λ (g : (p : Path) → after p ≡ before p). ap joined (g path)) adds)

  -- a drain leaves what was shown on the disk
  drain : (t'.recording.flushed ≡ t.recording.flushed) → (code : ℕ) → result ≡ Drain code → ShowsFlushed (Some start) (held_of t' shown') t'
  drain same code is = quiet same (Drain code) is (λ adds. ap joined (adds path))

  -- so does an answer to a path that is not drained yet
  undrained : (t'.recording.flushed ≡ t.recording.flushed) → result ≡ Undrained → ShowsFlushed (Some start) (held_of t' shown') t'
  undrained same is = quiet same Undrained is (λ adds. ap joined (adds path))

  -- if all records are on the disk after the step, all that was shown is
  all : t.halt ≡ None → result ≢ DiskFault → t'.recording.flushed ≡ length t'.recording.history → ShowsFlushed (Some start) (held_of t' shown') t'
  all calm fine flushed_all =
      let free : t.halt ≢ Some halt.Disk = λ is. let clash : None ≡ Some halt.Disk = sym calm ∙ is in cc in
      let now : shown' ≡ true = shown_is ∙ ap (λ (b : Bool). b && not (is_lost result (length t.recording.history) (length t'.recording.history))) (shown_unless t shown lost free)
      ∙ ap not (not_lost result fine) in
      subst (λ (b : Bool). ShowsFlushed (Some start) (held_of t' b) t') (sym now) (shows_all state start t' (since_more state start t t' since then) flushed_all)
    where
      not_lost : (r : TableStep) → r ≢ DiskFault → is_lost r (length t.recording.history) (length t'.recording.history) ≡ false
      not_lost (Turned u) fine = refl
      not_lost (Drain code) fine = refl
      not_lost Undrained fine = refl
      not_lost DiskFault fine = absurd (fine refl)
      not_lost (Halted why) fine = refl

  -- whatever was due before the answer, all that was shown after the step is on the disk
  by_answer : (due : Bool) (answer : TableStep) → answer ≢ DiskFault → (due ≡ true → t.halt ≡ None) → Answers state due answer t.recording t'.recording result
      → (t'.recording.flushed ≡ t.recording.flushed → result ≡ answer → due ≡ false → ShowsFlushed (Some start) (held_of t' shown') t')
      → ShowsFlushed (Some start) (held_of t' shown') t'
  by_answer due answer fine calm (at_once now same file even) none = none even same now
  by_answer due answer fine calm (flushed now same live every) none = all (calm now) (λ is. fine (sym same ∙ is)) every
  by_answer due answer fine calm (failed now same dead even rose) none = fault even same

  -- each step keeps that all that was shown is on the disk
  pub shows_on : ShowsFlushed (Some start) (held_of t' shown') t'
  shows_on = go t.halt (bound_of t) (drains t path) refl step
    where
      go : (why bound : Option Halt) (drained : Draining) → t.halt ≡ why → IsStep state (step_by t path why bound drained) t t' result → ShowsFlushed (Some start) (held_of t' shown') t'
      go (Some why) bound drained is s = by_answer false (Halted why) (λ clash. cc) (λ clash. absurd cc) s.answer (λ even same quiet. halted even why same)
      go None (Some why) drained is s = by_answer _ (Halted why) (λ clash. cc) (λ due. is) s.answer (λ even same quiet. halted even why same)
      go None None (Draining.due code) is s = by_answer false (Drain code) (λ clash. cc) (λ clash. absurd cc) s.answer (λ even same quiet. drain even code same)
      go None None (Draining.asked code) is s = by_answer false Undrained (λ clash. cc) (λ clash. absurd cc) s.answer (λ even same quiet. undrained even same)
      go None None Draining.none is s =
          let u = (turn_of (tapes_in t.verified) path t.machine).turn in
          by_answer _ (Turned u) (λ clash. cc) (λ due. is) s.answer (λ even same quiet. unshown_one even u same (neither (is_shown u) _ quiet).0)
