-- What a machine keeps over each record that is done again, in the parts that the code keeps: for
-- `step_again` (src/machine.rt).
use Rattle.std.proofs.Common.{◌≡◌, List, None, Result, Ok, Err, IfOk, OnErr, refl, sym, ap, subst, ◌∙◌}
use Rattle.nc_number.specs.declared.path.Path.{Path}
use Rattle.nc_number.specs.declared.path.Path.TheVariants.{One, Two}
use Rattle.nc_number.specs.Both.{of_path}
use Rattle.block_order.specs.declared.program.ControlProgram.{ControlProgram}
use Rattle.run_records.specs.Entries.{Entry, edit_of}
use Rattle.two_path.specs.declared.turn.Turn.{Turn}
use Rattle.two_path.specs.Machine.{Part, MachineView, own_first}
use Rattle.two_path.specs.Turns.{Tapes}
use Rattle.two_path.specs.Joined.{JointView, machine_of, AreAtTheirWaits}
use Rattle.two_path.specs.Again.{AreReady, IsStepDone, IsStepRefused, IsDoneAgain, IsRefused}
use Rattle.two_path.proofs.Edited.{behind_step_entry, turn_of_step, next_of_step, step_of_next}

-- ready parts are ready with the paths changed over
swap : (tape other_tape : List ControlProgram) (me other : Part) (joint : JointView) → AreReady tape other_tape me other joint → AreReady other_tape tape other me joint
swap tape other_tape me other joint r = record {
  my_shared = r.other_shared;
  other_shared = r.my_shared;
  my_wait = r.other_wait;
  other_wait = r.my_wait;
  my_reads = r.other_reads;
  other_reads = r.my_reads;
}

-- each waiting path of ready parts stands on a wait of its tape
waits_of : (tape other_tape : List ControlProgram) (me other : Part) (joint : JointView) → AreReady tape other_tape me other joint
    → AreAtTheirWaits tape other_tape (machine_of me other joint)
waits_of tape other_tape me other joint r = record { first = r.my_wait; second = r.other_wait }

-- a machine whose paths are changed over twice is as it was
twice : (p : Path) (m : MachineView) → own_first p (own_first p m) ≡ m
twice One m = refl
twice Two m = refl

-- a step that is done again in the machine with its path first is a record that is done again
done_by : (tapes : Tapes) (e : Entry) (before after : MachineView) (turn : Turn) → edit_of e.kind ≡ None
    → IsStepDone (of_path tapes e.path) e.path e.kind e.stamps (own_first e.path before) (own_first e.path after) turn
    → IsDoneAgain tapes e before after turn
done_by tapes e before after turn step s = record {
  legal = next_of_step tapes before e s.legal;
  machine = sym (twice e.path after) ∙ ap (own_first e.path) s.machine ∙ sym (behind_step_entry tapes before e step);
  answer = s.answer ∙ sym (turn_of_step tapes before e step);
}

-- a step that is refused in the machine with its path first is a record that is refused
refused_by : (tapes : Tapes) (e : Entry) (before after : MachineView) → edit_of e.kind ≡ None
    → IsStepRefused (of_path tapes e.path) e.path e.kind e.stamps (own_first e.path before) (own_first e.path after)
    → IsRefused tapes e before after
refused_by tapes e before after step s = record {
  illegal = λ next. s.illegal (step_of_next tapes before e step next);
  unchanged = sym (twice e.path after) ∙ ap (own_first e.path) s.unchanged ∙ twice e.path before;
}

-- if a call over the machine with the record's path first did the step, the record is done again
pub done_in : {A E : Type 0} (result : Result A E) (turn_for : A → Turn) (tapes : Tapes) (p : Path) (entry : Entry) (before after : MachineView)
    → entry.path ≡ p → edit_of entry.kind ≡ None
    → IfOk result (λ a. IsStepDone (of_path tapes p) entry.path entry.kind entry.stamps (own_first p before) (own_first p after) (turn_for a))
    → IfOk result (λ a. IsDoneAgain tapes entry before after (turn_for a))
done_in (Ok a) turn_for tapes p entry before after e step s =
    done_by tapes entry before after (turn_for a) step
    (subst (λ q. IsStepDone (of_path tapes q) entry.path entry.kind entry.stamps (own_first q before) (own_first q after) (turn_for a)) (sym e) s)
done_in (Err error) turn_for tapes p entry before after e step s = tt

-- if a call over the machine with the record's path first refused the step, the record is refused
pub refused_in : {A E : Type 0} (result : Result A E) (tapes : Tapes) (p : Path) (entry : Entry) (before after : MachineView) → entry.path ≡ p
    → edit_of entry.kind ≡ None
    → OnErr result (IsStepRefused (of_path tapes p) entry.path entry.kind entry.stamps (own_first p before) (own_first p after))
    → OnErr result (IsRefused tapes entry before after)
refused_in (Ok turn) tapes p entry before after e step s = tt
refused_in (Err error) tapes p entry before after e step s =
    refused_by tapes entry before after step
    (subst (λ q. IsStepRefused (of_path tapes q) entry.path entry.kind entry.stamps (own_first q before) (own_first q after)) (sym e) s)
