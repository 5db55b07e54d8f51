-- A step of a table asks for a drain just if the path is to be drained and was not asked for that;
-- after it the path was.
-- For the proofs of `drained` and `turn_step` of a held table (src/held.rt).
use Rattle.std.proofs.Common.{◌≡◌, ℕ, arith, ◌==◌, ◌&&◌, Bool, true, false, length, refl, sym, ◌∙◌, ap, subst, append-nil, Option, Some, None, is_none}
use Rattle.std.specs.Prelude.{nat_lt, if◌then◌else◌}
use Rattle.disk_model.specs.Device.{DiskState}
use Rattle.nc_number.specs.declared.path.Path.{Path}
use Rattle.nc_number.specs.declared.path.Path.TheVariants.{One, Two}
use Rattle.nc_moves.specs.declared.motion.Moves.{Moves}
use Rattle.nc_outside.specs.declared.halt.Halt.{Halt}
use Rattle.nc_outside.specs.declared.halt.Next.TheVariants as next
use Rattle.two_path.specs.declared.turn.Turn.{Turn}
use Rattle.two_path.specs.declared.turn.Turn.TheVariants as turn
use Rattle.two_path.specs.Turns.{turn_of, entry_of}
use Rattle.two_path.specs.Histories.{list_of}
use Rattle.seat_table.specs.Turning.{AsksDrain, Draining, IsNoDrain, once_drained}
use Rattle.run_table.specs.declared.answer.TableStep.{TableStep}
use Rattle.run_table.specs.declared.answer.TableStep.TheVariants.{Turned, Drain, Undrained, DiskFault, Halted}
use Rattle.nc_number.specs.declared.both.Both.{Both}
use Rattle.nc_number.specs.Both.{of_path}
use Rattle.run_table.specs.Draining.{drains_by, once_rested, rest_behind, resting_behind, wait_of, with_drained, with_resting}
use Rattle.run_table.specs.declared.resting.Resting.{Resting}
use Rattle.run_table.specs.declared.resting.Resting.TheVariants.{Unasked, Asked, Rests}
use Rattle.run_table.specs.Kept.{TableView, tapes_in}
use Rattle.run_table.specs.Stepping.{is_due, bound_by, bound_of, drains, idle_step, step_by, step_of, Answers, reason_behind, reason_of, IsStep}
use Rattle.run_table.specs.Stepping.Answers.{at_once, flushed, failed}
use Rattle.run_table.specs.Holding.{held_of, drains_at, next_of_turn, next_of}
use Rattle.run_table.proofs.ToldOwn.{rests_own}

-- a path whose turret rests is to be drained no more, if it was asked for
rests_once : (r : Resting) (ahead : Option ℕ) → drains_by (once_rested r) ahead ≡ once_drained (drains_by r ahead)
rests_once Unasked None = refl
rests_once Unasked (Some code) = refl
rests_once (Asked asked) None = refl
rests_once (Asked asked) (Some code) = refl
rests_once (Rests at) None = refl
rests_once (Rests at) (Some code) = refl

-- a path that was drained is to be drained no more, if it was asked for
pub drained_once : {D : Type 0} (t : TableView D) (path : Path) (shown : Bool)
    → drains_at (held_of (record t { resting = with_drained path t.resting }) shown) path ≡ once_drained (drains_at (held_of t shown) path)
drained_once t path shown = go (is_none t.halt && is_none (bound_of t))
  where
    ahead : Option ℕ
    ahead = wait_of (turn_of (tapes_in t.verified) path t.machine).turn

    go : (b : Bool) → (if b then drains_by (of_path (with_drained path t.resting) path) ahead else Draining.none) ≡ once_drained (if b then drains_by (of_path t.resting path) ahead else Draining.none)
    go true = ap (λ (r : Resting). drains_by r ahead) (rests_own path (once_rested (of_path t.resting path)) t.resting) ∙ rests_once (of_path t.resting path) ahead
    go false = refl

-- moves of a block that are handed on do not ask for a drain
handed_asks : (b : Bool) (moves : Moves) → IsNoDrain (Some (if b then next.Silent else next.Moves moves))
handed_asks true moves = tt
handed_asks false moves = tt

-- a turn does not ask for a drain
turn_asks : (t : Turn) → IsNoDrain (next_of_turn t)
turn_asks (turn.Read variable stamp) = tt
turn_asks (turn.Did moves) = handed_asks (length moves.list == 0) moves
turn_asks (turn.Arrived code) = tt
turn_asks (turn.Met code) = tt
turn_asks (turn.Ended moves) = handed_asks (length moves.list == 0) moves
turn_asks (turn.Waiting code) = tt
turn_asks turn.Finished = tt
turn_asks (turn.Alarm alarm) = tt
turn_asks (turn.Halted alarm) = tt
turn_asks turn.Edited = tt

-- a step of a path from the table t to t'
module _ {D : Type 0} (state : D → DiskState) (path : Path) (t t' : TableView D) (result : TableStep) (shown shown' : Bool)
    (step : IsStep state (step_of t path) t t' result) (resting : t'.resting ≡ resting_behind path result t.resting) where
  -- whether the path is to be drained before the step
  abbrev asked : Draining
  asked = drains_at (held_of t shown) path

  -- whether the path is to be drained after the step
  abbrev behind : Draining
  behind = drains_at (held_of t' shown') path

  -- this answer is `Drain` just if the path is to be drained before the step and was not asked for
  -- that, and then it was asked for it after the step
  abbrev Told : TableStep → Type 0
  Told answer = AsksDrain asked (next_of answer) behind

  -- whether the path is to be drained before the step, by why the table stopped and what bounds it
  asked_is : (why bound : Option Halt) (drain : Draining) → t.halt ≡ why → bound_of t ≡ bound → drains t path ≡ drain
      → asked ≡ (if is_none why && is_none bound then drain else Draining.none)
  asked_is why bound drain halts bounds drained = λ i. if is_none (halts i) && is_none (bounds i) then drained i else Draining.none

  -- if the path is not to be drained, an answer that asks for no drain tells the truth
  other : (answer : TableStep) → asked ≡ Draining.none → IsNoDrain (next_of answer) → Told answer
  other answer none not_drain = subst (λ (b : Draining). AsksDrain b (next_of answer) behind) (sym none) not_drain

  -- if the path is not to be drained, the result of the step tells the truth, also if the disk
  -- failed in it
  other_told : (answer : TableStep) (due : Bool) → asked ≡ Draining.none → IsNoDrain (next_of answer) → Answers state due answer t.recording t'.recording result → Told result
  other_told answer due none not_drain (at_once now same file even) = subst Told (sym same) (other answer none not_drain)
  other_told answer due none not_drain (flushed was same live all) = subst Told (sym same) (other answer none not_drain)
  other_told answer due none not_drain (failed was same dead stay rose) = subst Told (sym same) (other DiskFault none tt)

  -- if the step was no turn, and nothing stopped the table before or behind it, whether the path is to
  -- be drained hangs on its turret alone
  idle_behind : (answer : TableStep) → IsStep state (idle_step t answer) t t' result → t.halt ≡ None → bound_of t ≡ None → result ≡ answer → reason_of answer ≡ None
      → behind ≡ drains_by (rest_behind answer (of_path t.resting path)) (wait_of (turn_of (tapes_in t.verified) path t.machine).turn)
  idle_behind answer s halts bounds is none =
      let halt : t'.halt ≡ None = s.halt ∙ ap (λ (why : Option Halt). reason_behind why result) halts ∙ ap (reason_behind None) is ∙ none in
      let count : length t'.recording.history ≡ length t.recording.history = ap length (s.records.follows.history ∙ append-nil t.recording.history) in
      let left = s.budget in
      let budget : t'.budget ≡ t.budget = omega (arith, left) in
      let bound : bound_of t' ≡ None = (λ i. bound_by (count i) (s.verified i).settings.records (budget i)) ∙ bounds in
      let rest : of_path t'.resting path ≡ rest_behind answer (of_path t.resting path) =
      ap (λ (b : Both Resting). of_path b path) resting ∙ ap (λ (r : TableStep). of_path (resting_behind path r t.resting) path) is ∙ rests_own path (rest_behind answer (of_path t.resting path)) t.resting in
      λ i. if is_none (halt i) && is_none (bound i) then drains_by (rest i) (wait_of (turn_of (tapes_in (s.verified i)) path (s.machine i)).turn) else Draining.none

  -- a step that asks for a drain tells the truth
  due_told : (code : ℕ) → drains t path ≡ Draining.due code → IsStep state (idle_step t (Drain code)) t t' result → t.halt ≡ None → bound_of t ≡ None
      → asked ≡ Draining.due code → Answers state false (Drain code) t.recording t'.recording result → Told result
  due_told code drained s halts bounds due (at_once now same file even) =
      let ahead = wait_of (turn_of (tapes_in t.verified) path t.machine).turn in
      let now : behind ≡ Draining.asked code = idle_behind (Drain code) s halts bounds same refl ∙ due_then (of_path t.resting path) ahead code drained in
      subst Told (sym same) (subst (λ (b : Draining). AsksDrain b (Some (next.Drain code)) behind) (sym due) (refl, now))
    where
      due_then : (r : Resting) (ahead : Option ℕ) (code : ℕ) → drains_by r ahead ≡ Draining.due code → drains_by (Asked code) ahead ≡ Draining.asked code
      due_then r None code e = absurd (let clash : Draining.none ≡ Draining.due code = e in cc)
      due_then r (Some at) code e = refl
  due_told code drained s halts bounds due (flushed was same live all) = absurd (let clash : false ≡ true = was in cc)
  due_told code drained s halts bounds due (failed was same dead stay rose) = absurd (let clash : false ≡ true = was in cc)

  -- a step of a path that was asked for a drain tells the truth
  asked_told : (code : ℕ) → drains t path ≡ Draining.asked code → IsStep state (idle_step t Undrained) t t' result → t.halt ≡ None → bound_of t ≡ None
      → asked ≡ Draining.asked code → Answers state false Undrained t.recording t'.recording result → Told result
  asked_told code drained s halts bounds due (at_once now same file even) =
      let now : behind ≡ Draining.asked code = idle_behind Undrained s halts bounds same refl ∙ drained in
      subst Told (sym same) (subst (λ (b : Draining). AsksDrain b (Some next.Silent) behind) (sym due) (refl, now))
  asked_told code drained s halts bounds due (flushed was same live all) = absurd (let clash : false ≡ true = was in cc)
  asked_told code drained s halts bounds due (failed was same dead stay rose) = absurd (let clash : false ≡ true = was in cc)

  -- each step of a table tells whether the path is to be drained
  pub drains_told : Told result
  drains_told = go t.halt (bound_of t) (drains t path) refl refl refl step
    where
      go : (why bound : Option Halt) (drain : Draining) → t.halt ≡ why → bound_of t ≡ bound → drains t path ≡ drain → IsStep state (step_by t path why bound drain) t t' result → Told result
      go (Some why) bound drain halts bounds drained s = other_told (Halted why) false (asked_is (Some why) bound drain halts bounds drained) tt s.answer
      go None (Some why) drain halts bounds drained s =
          other_told (Halted why) (nat_lt t.recording.flushed (length t.recording.history)) (asked_is None (Some why) drain halts bounds drained) tt s.answer
      go None None (Draining.due code) halts bounds drained s = due_told code drained s halts bounds (asked_is None None (Draining.due code) halts bounds drained) s.answer
      go None None (Draining.asked code) halts bounds drained s = asked_told code drained s halts bounds (asked_is None None (Draining.asked code) halts bounds drained) s.answer
      go None None Draining.none halts bounds drained s =
          let the_turn = (turn_of (tapes_in t.verified) path t.machine).turn in
          other_told (Turned the_turn) (is_due t.recording (list_of (entry_of (tapes_in t.verified) path t.machine)) the_turn) (asked_is None None Draining.none halts bounds drained)
          (turn_asks the_turn) s.answer
