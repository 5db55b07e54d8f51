-- For the proof of `Table::step_into` (src/table.rt): one step, whose moves stand in a list that is
-- lent. Its cases: the table has stopped, is full or has no budget, a drain, or the path's turn.
use Rattle.std.proofs.Common.{◌≡◌, ◌≢◌, length, refl, true, false, None, Some, sym, ap, subst, ◌∙◌, Option}
use Rattle.std.specs.Prelude.{IfSome}
use Rattle.nc_number.specs.declared.path.Path.TheVariants.{One, Two}
use Rattle.nc_number.specs.Path.{other_of}
use Rattle.nc_number.specs.Both.{of_path}
use Rattle.nc_outside.specs.declared.halt.Halt.{Halt}
use Rattle.path_state.specs.Opening.{opening_path}
use Rattle.run_records.specs.Entries.{Entry, edit_of}
use Rattle.tape_flow.specs.declared.flow.Flow.{Flow}
use Rattle.two_path.specs.declared.turn.Turn.{Turn}
use Rattle.two_path.specs.Machine.{MachineView}
use Rattle.two_path.specs.Turns.{Tapes, tapes_of, turn_of, entry_of}
use Rattle.two_path.specs.Joined.{AreAtTheirWaits}
use Rattle.two_path.specs.Histories.{list_of}
use Rattle.two_path.specs.Made.{turn_with}
use Rattle.two_path.proofs.Apart.{is_joined, still_apart}
use Rattle.run_table.specs.Apart.{step_with}
use Rattle.run_table.specs.declared.answer.TableStep.TheVariants.{Turned, Halted}
use Rattle.run_table.specs.Kept.{TableView, tapes_in, IsTable}
use Rattle.run_table.specs.Since.{Since}
use Rattle.run_table.specs.Stepping.{is_shown, is_due, bound_of, drains, step_of, IsStep, GoesOn}
use Rattle.run_table.proofs.AlarmsKept.{shown_made, made_step}
use Rattle.run_table.proofs.OtherGoesOn.{waits_still}
use Rattle.run_table.proofs.StepsTaken.{kept_step, drain_step}
use Rattle.run_table.proofs.TablesKept.{table_of, turn_comes, few_turns, told_table, turn_table, turn_step_is, answer_waits, may_note}
use Rattle.nc_number.specs.declared.both.Both.{Both}
use Rattle.seat_table.specs.Turning.{Draining}
use Rattle.run_table.specs.Draining.{drain_answer, resting_behind, wait_of, FitsRest, FitsTurn, StandsAsTold}
use Rattle.nc_number.specs.declared.path.Path.{Path}
use Rattle.nc_outside.specs.declared.halt.Halt.TheVariants as halt
use Rattle.run_table.specs.declared.resting.Resting.{Resting}
use Rattle.run_table.proofs.RestsKept.{answer_fits, drain_fits, drain_no_turn, drain_quiet, drain_stands, fits_rest, none_due, stand_on}
use Rattle.run_table.proofs.Then.{since_none}
use Rattle.run_table.proofs.table.Table.step_into.Goals as goal

pub returns-in-Some-clause-step : goal.returns-in-Some-clause-step
returns-in-Some-clause-step g c =
    let d = g.D.Disk.state in
    let i = c.self.inside in
    subst (λ (t : TableView g.row.D.Denot). IsStep d (step_of t c.args.path) t t (Halted c.in-Some.why)) c.self.view_is
    (kept_step d (table_of i.verified i.machine i.recording i.halt i.budget i.resting) c.args.path c.in-Some.why (c.in-Some.is ∙ ap Some (sym c.in-Some.why-is)) g.met.D.Disk.coherent)

pub returns-in-Some-drain_due-clause-step : goal.returns-in-Some-drain_due-clause-step
returns-in-Some-drain_due-clause-step g c =
    let i = c.self.inside in
    let old = table_of i.verified i.machine i.recording i.halt i.budget i.resting in
    let bound : bound_of old ≡ None = subst (λ (t : TableView g.row.D.Denot). bound_of t ≡ None) (sym c.self.view_is) (sym c.bound.ensures ∙ c.in_default-bound.is) in
    let due : drain_answer (drains old c.args.path) ≡ Some c.in-Some-drain_due.answer =
    subst (λ (t : TableView g.row.D.Denot). drain_answer (drains t c.args.path) ≡ Some c.in-Some-drain_due.answer) (sym c.self.view_is) (sym c.drain_due.ensures ∙ c.in-Some-drain_due.is) in
    subst (λ (t : TableView g.row.D.Denot). IsStep g.D.Disk.state (step_of t c.args.path) t (table_of i.verified i.machine i.recording i.halt i.budget c.resting_behind-self-inside.result) (step_with c.in-Some-drain_due.answer c.clear.new.self)) c.self.view_is
    (drain_step g.D.Disk.state old c.args.path (drains old c.args.path) c.in-Some-drain_due.answer c.clear.new.self c.resting_behind-self-inside.result c.in_default.is bound refl due g.met.D.Disk.coherent)

pub invariant_of-self-in-Some-drain_due : goal.invariant_of-self-in-Some-drain_due
invariant_of-self-in-Some-drain_due g c =
    let i = c.self.inside in
    let old = table_of i.verified i.machine i.recording i.halt i.budget i.resting in
    let due : drain_answer (drains old c.args.path) ≡ Some c.in-Some-drain_due.answer =
    subst (λ (t : TableView g.row.D.Denot). drain_answer (drains t c.args.path) ≡ Some c.in-Some-drain_due.answer) (sym c.self.view_is) (sym c.drain_due.ensures ∙ c.in-Some-drain_due.is) in
    subst (λ (b : Both Resting). IsTable g.D.Disk.state (table_of i.verified i.machine i.recording i.halt i.budget b)) (sym c.resting_behind-self-inside.ensures)
    (told_table g.D.Disk.state i.verified i.machine i.recording i.halt i.budget i.resting _ c.self.invariant
    (λ free. drain_stands i.verified c.control_goes_as_the_flow_orders.ensures.control c.waits_and_ends_stop_a_path.ensures.waits c.args.path i.machine.machine i.resting
    c.in-Some-drain_due.answer c.clear.new.self due (c.self.invariant.rests free)))

pub turn_into-turned-requires-clause-few : goal.turn_into-turned-requires-clause-few
turn_into-turned-requires-clause-few g c =
    let i = c.self.inside in
    let bound : bound_of (table_of i.verified i.machine i.recording i.halt i.budget i.resting) ≡ None =
    subst (λ (t : TableView g.row.D.Denot). bound_of t ≡ None) (sym c.self.view_is) (sym c.bound.ensures ∙ c.in_default-bound.is) in
    let runs = c.histories_are_runs.ensures (tapes_in i.verified) (opening_path i.verified.left i.verified.settings One) (opening_path i.verified.right i.verified.settings Two) in
    (few_turns g.D.Disk.state i.verified i.machine i.recording i.halt i.budget i.resting c.self.invariant runs.counts
    (turn_comes (table_of i.verified i.machine i.recording i.halt i.budget i.resting) bound).0).0

pub take-answer-requires-clause-made : goal.take-answer-requires-clause-made
take-answer-requires-clause-made g c = λ shown.
    let m : MachineView = c.self.inside.machine.machine in
    let tapes : Tapes = tapes_of c.left.result.now c.right.result.now in
    subst (λ (e : Option Entry). length (list_of e) ≡ 1) (sym c.turn_into-turned.ensures.entry)
    (shown_made c.args.path (of_path m.paths c.args.path).stamps (turn_of tapes c.args.path m).turn
    (subst (λ (t : Turn). is_shown t ≡ true) (is_joined (turn_of tapes c.args.path m).turn c.turn_into-turned.result.answer c.turn_into-turned.new.moves c.turn_into-turned.ensures.answer c.turn_into-turned.ensures.moves) shown))

pub invariant_of-self-2 : goal.invariant_of-self-2
invariant_of-self-2 g c =
    let d = g.D.Disk.state in
    let i = c.self.inside in
    let m : MachineView = i.machine.machine in
    let after : MachineView = c.turn_into-turned.new.self.machine in
    let undrained : drains (table_of i.verified i.machine i.recording i.halt i.budget i.resting) c.args.path ≡ Draining.none =
    subst (λ (t : TableView g.row.D.Denot). drains t c.args.path ≡ Draining.none) (sym c.self.view_is) (none_due (drains c.args.self.now c.args.path) (sym c.drain_due.ensures ∙ c.in_default-drain_due.is)) in
    let bound : bound_of (table_of i.verified i.machine i.recording i.halt i.budget i.resting) ≡ None =
    subst (λ (t : TableView g.row.D.Denot). bound_of t ≡ None) (sym c.self.view_is) (sym c.bound.ensures ∙ c.in_default-bound.is) in
    let runs = c.histories_are_runs.ensures (tapes_in i.verified) (opening_path i.verified.left i.verified.settings One) (opening_path i.verified.right i.verified.settings Two) in
    let keeps = c.each_event_keeps_the_history.ensures (tapes_in i.verified) (opening_path i.verified.left i.verified.settings One) (opening_path i.verified.right i.verified.settings Two) in
    let few = few_turns d i.verified i.machine i.recording i.halt i.budget i.resting c.self.invariant runs.counts (turn_comes (table_of i.verified i.machine i.recording i.halt i.budget i.resting) bound).0 in
    let tapes : tapes_of c.left.result.now c.right.result.now ≡ tapes_in i.verified = λ j. tapes_of (c.left.ensures.same j) (c.right.ensures.same j) in
    let machine = subst (λ (t : Tapes). after ≡ (turn_of t c.args.path m).machine) tapes c.turn_into-turned.ensures.machine in
    let turned = subst (λ (t : Tapes). (turn_with c.turn_into-turned.result.answer c.turn_into-turned.new.moves) ≡ (turn_of t c.args.path m).turn) tapes
    (is_joined (turn_of (tapes_of c.left.result.now c.right.result.now) c.args.path m).turn c.turn_into-turned.result.answer c.turn_into-turned.new.moves c.turn_into-turned.ensures.answer c.turn_into-turned.ensures.moves) in
    let entry = subst (λ (t : Tapes). c.turn_into-turned.result.entry ≡ entry_of t c.args.path m) tapes c.turn_into-turned.ensures.entry in
    let waits = subst (λ (f : Flow). AreAtTheirWaits f.order i.verified.right.order after) c.left.ensures.same
    (subst (λ (f : Flow). AreAtTheirWaits c.left.result.now.order f.order after) c.right.ensures.same c.turn_into-turned.ensures.waits) in
    let free : i.halt ≢ Some halt.Disk = λ e. let clash : None ≡ Some halt.Disk = sym c.in_default.is ∙ e in cc in
    let stand : (q : Path) → StandsAsTold i.verified after q (of_path (resting_behind c.args.path (Turned (turn_with c.turn_into-turned.result.answer c.turn_into-turned.new.moves)) i.resting) q) = λ q.
    subst (λ (x : MachineView). StandsAsTold i.verified x q (of_path (resting_behind c.args.path (Turned (turn_with c.turn_into-turned.result.answer c.turn_into-turned.new.moves)) i.resting) q)) (sym machine)
    (subst (λ (u : Turn). StandsAsTold i.verified (turn_of (tapes_in i.verified) c.args.path m).machine q (of_path (resting_behind c.args.path (Turned u) i.resting) q)) (sym turned)
    (stand_on i.verified c.waits_and_ends_stop_a_path.ensures.waits c.args.path m i.resting (c.self.invariant.rests free) q)) in
    subst (λ (h : Option Halt). IsTable d (table_of i.verified c.turn_into-turned.new.self c.take-answer.new.recording h c.take-answer.new.budget c.resting_behind-self-inside-2.result)) (sym c.reason_of-self-inside-2.ensures)
    (turn_table d i.verified i.machine c.turn_into-turned.new.self i.recording c.take-answer.new.recording i.budget c.take-answer.new.budget i.resting c.resting_behind-self-inside-2.result c.args.path i.halt c.in_default.is c.self.invariant
    (turn_with c.turn_into-turned.result.answer c.turn_into-turned.new.moves) c.turn_into-turned.result.entry (step_with c.take-answer.result c.take-answer.new.moves) machine turned entry bound undrained c.take-answer.ensures.answer c.take-answer.ensures.records c.take-answer.ensures.budget
    keeps runs.counts waits c.turn_into-turned.ensures.room few.1 c.resting_behind-self-inside-2.ensures stand)

pub returns-clause-step : goal.returns-clause-step
returns-clause-step g c =
    let d = g.D.Disk.state in
    let i = c.self.inside in
    let m : MachineView = i.machine.machine in
    let after : MachineView = c.turn_into-turned.new.self.machine in
    let answer = (step_with c.take-answer.result c.take-answer.new.moves) in
    let undrained : drains (table_of i.verified i.machine i.recording i.halt i.budget i.resting) c.args.path ≡ Draining.none =
    subst (λ (t : TableView g.row.D.Denot). drains t c.args.path ≡ Draining.none) (sym c.self.view_is) (none_due (drains c.args.self.now c.args.path) (sym c.drain_due.ensures ∙ c.in_default-drain_due.is)) in
    let bound : bound_of (table_of i.verified i.machine i.recording i.halt i.budget i.resting) ≡ None =
    subst (λ (t : TableView g.row.D.Denot). bound_of t ≡ None) (sym c.self.view_is) (sym c.bound.ensures ∙ c.in_default-bound.is) in
    let tapes : tapes_of c.left.result.now c.right.result.now ≡ tapes_in i.verified = λ j. tapes_of (c.left.ensures.same j) (c.right.ensures.same j) in
    let machine = subst (λ (t : Tapes). after ≡ (turn_of t c.args.path m).machine) tapes c.turn_into-turned.ensures.machine in
    let turned = subst (λ (t : Tapes). (turn_with c.turn_into-turned.result.answer c.turn_into-turned.new.moves) ≡ (turn_of t c.args.path m).turn) tapes
    (is_joined (turn_of (tapes_of c.left.result.now c.right.result.now) c.args.path m).turn c.turn_into-turned.result.answer c.turn_into-turned.new.moves c.turn_into-turned.ensures.answer c.turn_into-turned.ensures.moves) in
    let entry = subst (λ (t : Tapes). c.turn_into-turned.result.entry ≡ entry_of t c.args.path m) tapes c.turn_into-turned.ensures.entry in
    let new = table_of i.verified c.turn_into-turned.new.self c.take-answer.new.recording c.reason_of-self-inside-2.result c.take-answer.new.budget c.resting_behind-self-inside-2.result in
    subst (λ (t : TableView g.row.D.Denot). IsStep d (step_of t c.args.path) t new answer) c.self.view_is
    (subst (λ (h : Option Halt). IsStep d (step_of (table_of i.verified i.machine i.recording i.halt i.budget i.resting) c.args.path) (table_of i.verified i.machine i.recording i.halt i.budget i.resting) (table_of i.verified c.turn_into-turned.new.self c.take-answer.new.recording h c.take-answer.new.budget c.resting_behind-self-inside-2.result) answer) (sym c.reason_of-self-inside-2.ensures)
    (turn_step_is d i.verified i.machine c.turn_into-turned.new.self i.recording c.take-answer.new.recording i.budget c.take-answer.new.budget i.resting c.resting_behind-self-inside-2.result c.args.path i.halt c.in_default.is c.self.invariant
    (turn_with c.turn_into-turned.result.answer c.turn_into-turned.new.moves) c.turn_into-turned.result.entry answer machine turned entry bound undrained c.take-answer.ensures.answer c.take-answer.ensures.records c.take-answer.ensures.budget))

pub returns-clause-goes_on : goal.returns-clause-goes_on
returns-clause-goes_on g c = λ code is.
    let d = g.D.Disk.state in
    let i = c.self.inside in
    let m : MachineView = i.machine.machine in
    let after : MachineView = c.turn_into-turned.new.self.machine in
    let tapes : tapes_of c.left.result.now c.right.result.now ≡ tapes_in i.verified = λ j. tapes_of (c.left.ensures.same j) (c.right.ensures.same j) in
    let machine = subst (λ (t : Tapes). after ≡ (turn_of t c.args.path m).machine) tapes c.turn_into-turned.ensures.machine in
    let turned = subst (λ (t : Tapes). (turn_with c.turn_into-turned.result.answer c.turn_into-turned.new.moves) ≡ (turn_of t c.args.path m).turn) tapes
    (is_joined (turn_of (tapes_of c.left.result.now c.right.result.now) c.args.path m).turn c.turn_into-turned.result.answer c.turn_into-turned.new.moves c.turn_into-turned.ensures.answer c.turn_into-turned.ensures.moves) in
    let waits = answer_waits d (is_due i.recording (list_of c.turn_into-turned.result.entry) (turn_with c.turn_into-turned.result.answer c.turn_into-turned.new.moves)) (turn_with c.turn_into-turned.result.answer c.turn_into-turned.new.moves) i.recording c.take-answer.new.recording (step_with c.take-answer.result c.take-answer.new.moves) code c.take-answer.ensures.answer is in
    let there = sym turned ∙ waits in
    let goes = c.who_is_waited_for_goes_on.ensures i.verified i.recording.history m c.args.path code c.self.invariant.kept there in
    subst (λ (x : MachineView). GoesOn (tapes_in i.verified) (other_of c.args.path) x) (sym (machine ∙ waits_still (tapes_in i.verified) c.args.path m code there)) goes

pub returns-in-Some-clause-since : goal.returns-in-Some-clause-since
returns-in-Some-clause-since g c =
    let d = g.D.Disk.state in
    let i = c.self.inside in
    subst (λ (t : TableView g.row.D.Denot). Since d t t) c.self.view_is
    (since_none d (table_of i.verified i.machine i.recording i.halt i.budget i.resting) g.met.D.Disk.coherent)

pub returns-in-Some-drain_due-clause-since : goal.returns-in-Some-drain_due-clause-since
returns-in-Some-drain_due-clause-since g c =
    let d = g.D.Disk.state in
    let i = c.self.inside in
    let same = since_none d (table_of i.verified i.machine i.recording i.halt i.budget i.resting) g.met.D.Disk.coherent in
    subst (λ (t : TableView g.row.D.Denot). Since d t (table_of i.verified i.machine i.recording i.halt i.budget c.resting_behind-self-inside.result)) c.self.view_is
    (record { verified = same.verified; made = same.made; recording = same.recording; budget = same.budget; cause = same.cause })

pub returns-in-Some-drain_due-clause-rests : goal.returns-in-Some-drain_due-clause-rests
returns-in-Some-drain_due-clause-rests g c =
    let t = c.args.self.now in
    drain_fits (of_path t.resting c.args.path) (wait_of (turn_of (tapes_in t.verified) c.args.path t.machine).turn) c.in-Some-drain_due.answer c.clear.new.self
    (sym c.drain_due.ensures ∙ c.in-Some-drain_due.is)

pub returns-in-Some-drain_due-clause-apart : goal.returns-in-Some-drain_due-clause-apart
returns-in-Some-drain_due-clause-apart g c =
    drain_quiet (drains c.args.self.now c.args.path) c.in-Some-drain_due.answer c.clear.new.self (sym c.drain_due.ensures ∙ c.in-Some-drain_due.is) ∙ sym c.clear.ensures

pub returns-in-Some-drain_due-clause-goes_on : goal.returns-in-Some-drain_due-clause-goes_on
returns-in-Some-drain_due-clause-goes_on g c = λ code is.
    absurd (drain_no_turn (drains c.args.self.now c.args.path) c.in-Some-drain_due.answer c.clear.new.self _ (sym c.drain_due.ensures ∙ c.in-Some-drain_due.is) is)

pub take-answer-requires-clause-note : goal.take-answer-requires-clause-note
take-answer-requires-clause-note g c =
    let i = c.self.inside in
    let bound : bound_of (table_of i.verified i.machine i.recording i.halt i.budget i.resting) ≡ None =
    subst (λ (t : TableView g.row.D.Denot). bound_of t ≡ None) (sym c.self.view_is) (sym c.bound.ensures ∙ c.in_default-bound.is) in
    may_note g.D.Disk.state i.verified i.machine i.recording i.halt i.budget i.resting c.self.invariant c.in_default.is bound

pub take-answer-requires-clause-budget : goal.take-answer-requires-clause-budget
take-answer-requires-clause-budget g c =
    let i = c.self.inside in
    let bound : bound_of (table_of i.verified i.machine i.recording i.halt i.budget i.resting) ≡ None =
    subst (λ (t : TableView g.row.D.Denot). bound_of t ≡ None) (sym c.self.view_is) (sym c.bound.ensures ∙ c.in_default-bound.is) in
    (turn_comes (table_of i.verified i.machine i.recording i.halt i.budget i.resting) bound).1

pub take-answer-requires-clause-step : goal.take-answer-requires-clause-step
take-answer-requires-clause-step g c =
    let m : MachineView = c.self.inside.machine.machine in
    let tapes : Tapes = tapes_of c.left.result.now c.right.result.now in
    subst (λ (e : Option Entry). IfSome e (λ r. edit_of r.kind ≡ None)) (sym c.turn_into-turned.ensures.entry)
    (made_step c.args.path (of_path m.paths c.args.path).stamps (turn_of tapes c.args.path m).turn)

pub take-answer-requires-clause-apart : goal.take-answer-requires-clause-apart
take-answer-requires-clause-apart g c =
    let m : MachineView = c.self.inside.machine.machine in
    let tapes : Tapes = tapes_of c.left.result.now c.right.result.now in
    still_apart (turn_of tapes c.args.path m).turn c.turn_into-turned.result.answer c.turn_into-turned.new.moves c.turn_into-turned.ensures.answer
    c.turn_into-turned.ensures.moves

pub returns-clause-rests : goal.returns-clause-rests
returns-clause-rests g c =
    let d = g.D.Disk.state in
    let i = c.self.inside in
    let m : MachineView = i.machine.machine in
    let path = c.args.path in
    let free : i.halt ≢ Some halt.Disk = λ e. let clash : None ≡ Some halt.Disk = sym c.in_default.is ∙ e in cc in
    let undrained : drains (table_of i.verified i.machine i.recording i.halt i.budget i.resting) path ≡ Draining.none =
    subst (λ (t : TableView g.row.D.Denot). drains t path ≡ Draining.none) (sym c.self.view_is) (none_due (drains c.args.self.now path) (sym c.drain_due.ensures ∙ c.in_default-drain_due.is)) in
    let tapes : tapes_of c.left.result.now c.right.result.now ≡ tapes_in i.verified = λ j. tapes_of (c.left.ensures.same j) (c.right.ensures.same j) in
    let turned = subst (λ (t : Tapes). (turn_with c.turn_into-turned.result.answer c.turn_into-turned.new.moves) ≡ (turn_of t path m).turn) tapes
    (is_joined (turn_of (tapes_of c.left.result.now c.right.result.now) path m).turn c.turn_into-turned.result.answer c.turn_into-turned.new.moves c.turn_into-turned.ensures.answer c.turn_into-turned.ensures.moves) in
    let fits = fits_rest i.verified c.waits_and_ends_stop_a_path.ensures.waits path m (of_path i.resting path) (c.self.invariant.rests free path) undrained in
    subst (λ (t : TableView g.row.D.Denot). FitsRest (of_path t.resting path) (step_with c.take-answer.result c.take-answer.new.moves)) c.self.view_is
    (answer_fits d _ (of_path i.resting path) (Turned (turn_with c.turn_into-turned.result.answer c.turn_into-turned.new.moves)) i.recording c.take-answer.new.recording
    (step_with c.take-answer.result c.take-answer.new.moves) c.take-answer.ensures.answer
    (subst (λ (u : Turn). FitsTurn (of_path i.resting path) u) (sym turned) fits))
