-- A step of a table is handed on as nothing just if the path waits and nothing has stopped the
-- table.
-- For the proof of `turn_step` of a held table (src/held.rt).
use Rattle.std.proofs.Common.{◌≡◌, ℕ, ◌&&◌, Bool, true, false, List, [], ◌++◌, length, refl, sym, ◌∙◌, ap, subst, append-nil, Option, Some, None, is_some, is_none}
use Rattle.std.specs.Prelude.{nat_lt, not, MatchOption}
use Rattle.disk_model.specs.Device.{DiskState}
use Rattle.nc_number.specs.declared.path.Path.{Path}
use Rattle.nc_number.specs.declared.path.Path.TheVariants.{One, Two}
use Rattle.nc_number.specs.Both.{of_path}
use Rattle.nc_outside.specs.declared.halt.Halt.{Halt}
use Rattle.nc_moves.specs.declared.alarm.Alarm.{Alarm}
use Rattle.run_records.specs.Entries.{Entry}
use Rattle.run_records.specs.declared.entry.EntryKind.{EntryKind}
use Rattle.two_path.specs.declared.turn.Turn.{Turn}
use Rattle.two_path.specs.declared.turn.Turn.TheVariants as turn
use Rattle.two_path.specs.Machine.{MachineView, own_first}
use Rattle.two_path.specs.Turns.{Tapes, TurnResult, unless_idle, block_turn, turn_of, kind_of, entry_with, entry_of, Blocks, own_turn}
use Rattle.two_path.specs.Histories.{list_of}
use Rattle.run_table.specs.declared.answer.TableStep.{TableStep}
use Rattle.run_table.specs.declared.answer.TableStep.TheVariants.{Turned, Drain, Undrained, Halted}
use Rattle.seat_table.specs.Turning.{Draining}
use Rattle.run_table.specs.Draining.{drains_by, wait_of}
use Rattle.run_table.specs.declared.resting.Resting.{Resting}
use Rattle.run_table.specs.declared.resting.Resting.TheVariants.{Unasked, Asked, Rests}
use Rattle.run_table.specs.Kept.{TableView, tapes_in, MayGoOn, HasReason, IsTable}
use Rattle.run_table.specs.Stepping.{is_due, bound_of, is_waiting, drains, step_by, step_of, Answers, IsStep}
use Rattle.run_table.specs.Stepping.Answers.{at_once, flushed, failed}
use Rattle.run_table.specs.Holding.{held_of, waits_at, next_of_turn, next_of}
use Rattle.run_table.proofs.HeldSteps.{not_full}
use Rattle.run_table.proofs.OtherGoesOn.{IsOfBlock, block_goes}

-- the turn is handed on as nothing only if Q holds, and as something only if R does
abbrev Tells : Turn → Type 0 → Type 0 → Type 0
Tells t Q R = MatchOption (next_of_turn t) Q (λ _. R)

-- the turn of a block is handed on as something
block_tells : (t : Turn) (Q R : Type 0) → IsOfBlock t → R → Tells t Q R
block_tells (turn.Read variable stamp) Q R goes r = r
block_tells (turn.Did moves) Q R goes r = r
block_tells (turn.Arrived code) Q R goes r = r
block_tells (turn.Met code) Q R goes r = r
block_tells (turn.Ended moves) Q R goes r = r
block_tells (turn.Waiting code) Q R goes r = absurd (goes.waits code refl)
block_tells turn.Finished Q R goes r = r
block_tells (turn.Alarm alarm) Q R goes r = r
block_tells (turn.Halted alarm) Q R goes r = r
block_tells turn.Edited Q R goes r = r

-- whether a path waits: there is no alarm and no end, but a code at which it waits
abbrev waits_by : Option Alarm → Bool → Option ℕ → Bool
waits_by alarm finished waiting = (is_none alarm && not finished) && is_some waiting

-- a turn that may do nothing is handed on as nothing just if the path waits
idle_tells : (m : MachineView) (a : Option Alarm) (f : Bool) (w : Option ℕ) (rest : TurnResult) → IsOfBlock rest.turn
    → Tells (unless_idle m a f w rest).turn (waits_by a f w ≡ true) (waits_by a f w ≡ false)
idle_tells m (Some alarm) f w rest goes = refl
idle_tells m None true w rest goes = refl
idle_tells m None false (Some code) rest goes = refl
idle_tells m None false None rest goes = block_tells rest.turn (false ≡ true) (false ≡ false) goes refl

-- a whole turn is handed on as nothing just if the path waits
own_tells : (blocks : Blocks) (path : Path) (m : MachineView)
    → Tells (own_turn blocks path m).turn (waits_by m.alarm m.paths.one.finished m.paths.one.waiting ≡ true)
    (waits_by m.alarm m.paths.one.finished m.paths.one.waiting ≡ false)
own_tells blocks path m =
    idle_tells m m.alarm m.paths.one.finished m.paths.one.waiting (block_turn blocks path m) (block_goes blocks path m)

-- a turn of either path is handed on as nothing just if the path waits
turn_tells : (tapes : Tapes) (path : Path) (m : MachineView) → Tells (turn_of tapes path m).turn (is_waiting path m ≡ true) (is_waiting path m ≡ false)
turn_tells tapes One m = own_tells tapes.one One m
turn_tells tapes Two m = own_tells tapes.two Two (own_first Two m)

-- a turn that brings the path to a wait is handed on as something
come_tells : (t : Turn) (Q R : Type 0) → (wait_of t ≡ None → ⊥) → Tells t Q R → R
come_tells (turn.Read variable stamp) Q R is tells = tells
come_tells (turn.Did moves) Q R is tells = tells
come_tells (turn.Arrived code) Q R is tells = tells
come_tells (turn.Met code) Q R is tells = tells
come_tells (turn.Ended moves) Q R is tells = tells
come_tells (turn.Waiting code) Q R is tells = absurd (is refl)
come_tells turn.Finished Q R is tells = tells
come_tells (turn.Alarm alarm) Q R is tells = tells
come_tells (turn.Halted alarm) Q R is tells = tells
come_tells turn.Edited Q R is tells = tells

-- a turn that does not say that the path waits tells what holds when something is handed on
other_tells : (t : Turn) (Q R : Type 0) → ((code : ℕ) → t ≡ turn.Waiting code → R) → Tells t Q R → R
other_tells (turn.Read variable stamp) Q R waits tells = tells
other_tells (turn.Did moves) Q R waits tells = tells
other_tells (turn.Arrived code) Q R waits tells = tells
other_tells (turn.Met code) Q R waits tells = tells
other_tells (turn.Ended moves) Q R waits tells = tells
other_tells (turn.Waiting code) Q R waits tells = waits code refl
other_tells turn.Finished Q R waits tells = tells
other_tells (turn.Alarm alarm) Q R waits tells = tells
other_tells (turn.Halted alarm) Q R waits tells = tells
other_tells turn.Edited Q R waits tells = tells

-- a step of a path from the table t to t'
module _ {D : Type 0} (state : D → DiskState) (path : Path) (t t' : TableView D) (result : TableStep) (shown : Bool) (table : IsTable state t)
    (step : IsStep state (step_of t path) t t' result) where
  -- whether the path waits, and nothing has stopped or bounds the table
  abbrev waits : Bool
  waits = waits_at (held_of t shown) path

  -- this answer is handed on as nothing just if the path waits
  abbrev Told : TableStep → Type 0
  Told answer = MatchOption (next_of answer) (waits ≡ true) (λ _. waits ≡ false)

  -- the path's turn
  abbrev the_turn : Turn
  the_turn = (turn_of (tapes_in t.verified) path t.machine).turn

  -- whether the path waits, by why the table stopped and what bounds it
  waits_is : (why bound : Option Halt) → t.halt ≡ why → bound_of t ≡ bound → waits ≡ ((is_none why && is_none bound) && is_waiting path t.machine)
  waits_is why bound halts bounds = λ i. (is_none (halts i) && is_none (bounds i)) && is_waiting path t.machine

  -- an answer that the table has stopped is handed on as something, and the path doesn't wait
  halted_tells : (why : Halt) (due : Bool) → waits ≡ false → Answers state due (Halted why) t.recording t'.recording result → Told result
  halted_tells why due none (at_once now same file even) = subst Told (sym same) none
  halted_tells why due none (flushed was same live all) = subst Told (sym same) none
  halted_tells why due none (failed was same dead stay rose) = subst Told (sym same) none

  -- a path that is to be drained comes to a wait
  comes_to_one : (r : Resting) (ahead : Option ℕ) → (drains_by r ahead ≡ Draining.none → ⊥) → ahead ≡ None → ⊥
  comes_to_one r None due none = due refl
  comes_to_one r (Some code) due none = let clash : Some code ≡ None = none in cc

  -- a drain is handed on as something, and the path doesn't wait
  drain_tells : (answer : TableStep) → (waits ≡ false → Told answer) → waits ≡ false → Answers state false answer t.recording t'.recording result → Told result
  drain_tells answer tells none (at_once now same file even) = subst Told (sym same) (tells none)
  drain_tells answer tells none (flushed was same live all) = absurd (let clash : false ≡ true = was in cc)
  drain_tells answer tells none (failed was same dead stay rose) = absurd (let clash : false ≡ true = was in cc)

  -- a turn of a table that nothing has stopped
  module _ (why : t.halt ≡ None) (bound : bound_of t ≡ None) where
    -- a table that nothing stopped may go on
    may : MayGoOn t.machine t.recording
    may = subst (HasReason t.machine t.recording) why table.reason

    -- the answer of a turn is handed on as nothing just if the turn says that the path waits
    tells : Tells the_turn (waits ≡ true) (waits ≡ false)
    tells = subst (λ (b : Bool). Tells the_turn (b ≡ true) (b ≡ false)) (sym (waits_is None None why bound)) (turn_tells (tapes_in t.verified) path t.machine)

    -- if the path waits, no records are to be written
    not_due : (code : ℕ) → the_turn ≡ turn.Waiting code → is_due t.recording (list_of (entry_of (tapes_in t.verified) path t.machine)) the_turn ≡ false
    not_due code is =
        let none_made : list_of (entry_of (tapes_in t.verified) path t.machine) ≡ [] =
        ap (λ (o : Option EntryKind). list_of (entry_with path (of_path t.machine.paths path).stamps o)) (ap kind_of is) in
        ap (λ (l : List Entry). is_due t.recording l the_turn) none_made ∙ ap (is_due t.recording []) is
        ∙ not_full t.recording.flushed (length t.recording.history) (length (t.recording.history ++ [])) (ap length (append-nil t.recording.history)) may.few

    -- the step of a turn tells whether the path waits
    turned_tells : Answers state (is_due t.recording (list_of (entry_of (tapes_in t.verified) path t.machine)) the_turn) (Turned the_turn) t.recording t'.recording result → Told result
    turned_tells (at_once now same file even) = subst Told (sym same) tells
    turned_tells (flushed was same live all) = subst Told (sym same) tells
    turned_tells (failed due same dead stay rose) = subst Told (sym same)
        (other_tells the_turn (waits ≡ true) (waits ≡ false) (λ code is. absurd (let clash : true ≡ false = sym due ∙ not_due code is in cc)) tells)

  -- each step of a table tells whether the path waits
  pub waits_told : Told result
  waits_told = go t.halt (bound_of t) (drains t path) refl refl refl step
    where
      go : (why bound : Option Halt) (drain : Draining) → t.halt ≡ why → bound_of t ≡ bound → drains t path ≡ drain → IsStep state (step_by t path why bound drain) t t' result → Told result
      go (Some why) bound drain halts bounds drained s = halted_tells why false (waits_is (Some why) bound halts bounds) s.answer
      go None (Some why) drain halts bounds drained s = halted_tells why (nat_lt t.recording.flushed (length t.recording.history)) (waits_is None (Some why) halts bounds) s.answer
      go None None (Draining.due code) halts bounds drained s =
          drain_tells (Drain code) (λ none. none) (come_tells the_turn (waits ≡ true) (waits ≡ false)
          (comes_to_one (of_path t.resting path) (wait_of the_turn) (λ none. let clash : Draining.due code ≡ Draining.none = sym drained ∙ none in cc)) (tells halts bounds)) s.answer
      go None None (Draining.asked code) halts bounds drained s =
          drain_tells Undrained (λ none. none) (come_tells the_turn (waits ≡ true) (waits ≡ false)
          (comes_to_one (of_path t.resting path) (wait_of the_turn) (λ none. let clash : Draining.asked code ≡ Draining.none = sym drained ∙ none in cc)) (tells halts bounds)) s.answer
      go None None Draining.none halts bounds drained s = turned_tells halts bounds s.answer
