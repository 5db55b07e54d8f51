-- Each turn goes on with the run, fewer are left, and at the end the records are those of its turns
-- (`records_in_turn`, src/turns.rt).
use Rattle.std.proofs.Common.{length, min, refl, sym, subst, ap, ◌∙◌, arith, length-append}
use Rattle.nc_number.specs.declared.path.Path.TheVariants.{One, Two}
use Rattle.cell_settings.specs.declared.settings.Settings.{Settings}
use Rattle.path_state.specs.Opening.{opening_path}
use Rattle.two_path.specs.Machine.{MachineView}
use Rattle.two_path.specs.Turns.{turn_of, entry_of}
use Rattle.two_path.specs.Histories.{TurnOf, list_of}
use Rattle.two_path.specs.Joined.{AreAtTheirWaits}
use Rattle.two_path.specs.Ending.{end_of}
use Rattle.turn_order.specs.Ending.{end_told}
use Rattle.turn_order.specs.InTurn.{IsInTurn, start_of, tapes_in}
use Rattle.turn_order.proofs.SoFar.{begins, counted, ended_by, goes_on_to, in_turn_at_end, kept_on, may_go_on, not_ended, told_at_end}
use Rattle.turn_order.proofs.Turned.{few_reads, fewer, gave, made_few}
use Rattle.turn_order.proofs.turns.records_in_turn.Goals as goal

pub loop-end-init : goal.loop-end-init
loop-end-init c =
    let v = c.args.verified.now in
    let first = opening_path v.left v.settings One in
    let second = opening_path v.right v.settings Two in
    let at = rw (c.left-left.ensures.same, c.right-right.ensures.same, c.settings-settings.ensures) at c.in_ok-machine.ensures in
    let keeps = c.each_event_keeps_the_history.ensures (tapes_in v) first second in
    record {
      so_far = begins (tapes_in v) (start_of v) _ _ at c.empty-entries.ensures;
      kept = rw (at, c.empty-entries.ensures) keeps.opening;
      waits = subst (λ (x : MachineView). AreAtTheirWaits v.left.order v.right.order x) (sym at)
          (c.a_machine_begins_without_waits.ensures v.left.order v.right.order first second);
      within = omega (arith, ap length c.empty-entries.ensures);
    }

pub returns-in-Some-clause-turns : goal.returns-in-Some-clause-turns
returns-in-Some-clause-turns c =
    let v = c.args.verified.now in
    let now = c.loop-end in
    let law = c.histories_are_runs.ensures (tapes_in v) (opening_path v.left v.settings One) (opening_path v.right v.settings Two) in
    let count = counted (tapes_in v) (start_of v) now.machine.machine now.entries.items law now.invariant.kept in
    let ended = ended_by now.machine.machine c.limit_of-limit.result c.settings-settings.result.now.records c.in-Some.end (end_of now.machine.machine) refl
    (sym c.end_before.ensures ∙ c.in-Some.is) in
    let limit = c.limit_of-limit.ensures ∙ ap (λ (s : Settings). min c.args.most s.records) c.settings-settings.ensures in
    subst (λ n. IsInTurn (tapes_in v) (start_of v) n now.entries.items) limit
    (in_turn_at_end (tapes_in v) (start_of v) now.path now.machine.machine now.entries.items c.limit_of-limit.result c.settings-settings.result.now.records
    c.in-Some.end now.invariant.so_far now.invariant.kept count now.invariant.within ended)

pub returns-in-Some-clause-end : goal.returns-in-Some-clause-end
returns-in-Some-clause-end c =
    let v = c.args.verified.now in
    let now = c.loop-end in
    let law = c.histories_are_runs.ensures (tapes_in v) (opening_path v.left v.settings One) (opening_path v.right v.settings Two) in
    let count = counted (tapes_in v) (start_of v) now.machine.machine now.entries.items law now.invariant.kept in
    let ended = ended_by now.machine.machine c.limit_of-limit.result c.settings-settings.result.now.records c.in-Some.end (end_of now.machine.machine) refl
    (sym c.end_before.ensures ∙ c.in-Some.is) in
    told_at_end (tapes_in v) (start_of v) now.machine.machine now.entries.items c.limit_of-limit.result c.settings-settings.result.now.records c.in-Some.end
    now.invariant.kept count ended
    ∙ ap (λ (s : Settings). end_told (tapes_in v) (start_of v) s.records now.entries.items) c.settings-settings.ensures

pub returns-in-Some-clause-legal : goal.returns-in-Some-clause-legal
returns-in-Some-clause-legal c = c.loop-end.invariant.kept.legal

pub returns-in-Some-clause-few : goal.returns-in-Some-clause-few
returns-in-Some-clause-few c =
    let v = c.args.verified.now in
    let limit = c.limit_of-limit.ensures ∙ ap (λ (s : Settings). min c.args.most s.records) c.settings-settings.ensures in
    omega (arith, c.loop-end.invariant.within, limit, v.settings.most_records)

pub give_turn-requires-clause-few : goal.give_turn-requires-clause-few
give_turn-requires-clause-few c =
    let v = c.args.verified.now in
    let now = c.loop-end in
    let law = c.histories_are_runs.ensures (tapes_in v) (opening_path v.left v.settings One) (opening_path v.right v.settings Two) in
    let count = counted (tapes_in v) (start_of v) now.machine.machine now.entries.items law now.invariant.kept in
    let goes = may_go_on (end_of now.machine.machine) now.machine.machine.count c.limit_of-limit.result c.settings-settings.result.now.records
    (sym c.end_before.ensures ∙ c.in_default.is) (omega (arith, count, now.invariant.within)) in
    let limit = c.limit_of-limit.ensures ∙ ap (λ (s : Settings). min c.args.most s.records) c.settings-settings.ensures in
    omega (arith, goes.1, limit, v.settings.most_records)

pub give_turn-requires-clause-waits : goal.give_turn-requires-clause-waits
give_turn-requires-clause-waits c = rw (c.left-left.ensures.same, c.right-right.ensures.same) c.loop-end.invariant.waits

pub loop-end-smaller : goal.loop-end-smaller
loop-end-smaller c =
    let v = c.args.verified.now in
    let now = c.loop-end in
    let m = now.machine.machine in
    let law = c.histories_are_runs.ensures (tapes_in v) (opening_path v.left v.settings One) (opening_path v.right v.settings Two) in
    let count = counted (tapes_in v) (start_of v) m now.entries.items law now.invariant.kept in
    let goes = may_go_on (end_of m) m.count c.limit_of-limit.result c.settings-settings.result.now.records
    (sym c.end_before.ensures ∙ c.in_default.is) (omega (arith, count, now.invariant.within)) in
    let calm = not_ended m.alarm _ goes.0 in
    let after = rw (c.left-left.ensures.same, c.right-right.ensures.same) at c.in_ok-give_turn.ensures.machine in
    rw (c.other-path.ensures, after)
    (fewer c.limit_of-limit.result now.path m (turn_of (tapes_in v) now.path m).machine
    (c.kept_runs_are_not_stuck.ensures v now.entries.items m now.invariant.kept) calm.0 calm.1
    (few_reads c.a_block_asks_for_each_variable_once_at_most.ensures.block v.left v.right m now.invariant.kept.lawful) goes.1
    (list_of (entry_of (tapes_in v) now.path m)) (gave (tapes_in v) now.path m calm.0))

pub loop-end-preserved : goal.loop-end-preserved
loop-end-preserved c =
    let v = c.args.verified.now in
    let now = c.loop-end in
    let m = now.machine.machine in
    let first = opening_path v.left v.settings One in
    let second = opening_path v.right v.settings Two in
    let law = c.histories_are_runs.ensures (tapes_in v) first second in
    let keeps = c.each_event_keeps_the_history.ensures (tapes_in v) first second in
    let count = counted (tapes_in v) (start_of v) m now.entries.items law now.invariant.kept in
    let goes = may_go_on (end_of m) m.count c.limit_of-limit.result c.settings-settings.result.now.records
    (sym c.end_before.ensures ∙ c.in_default.is) (omega (arith, count, now.invariant.within)) in
    let calm = not_ended m.alarm _ goes.0 in
    let after = rw (c.left-left.ensures.same, c.right-right.ensures.same) at c.in_ok-give_turn.ensures.machine in
    let made = rw (c.left-left.ensures.same, c.right-right.ensures.same) at c.in_ok-give_turn.ensures.entries in
    let more = ap length made ∙ length-append now.entries.items (list_of (entry_of (tapes_in v) now.path m)) in
    let few = made_few now.path m _ _ (gave (tapes_in v) now.path m calm.0) in
    record {
      so_far = goes_on_to (tapes_in v) (start_of v) now.path _ m _ now.entries.items _ now.invariant.so_far c.other-path.ensures after made;
      kept = kept_on (tapes_in v) (start_of v) now.path m _ now.entries.items _
          (keeps.event now.entries.items m (TurnOf now.path) now.invariant.kept) after made;
      waits = rw (c.left-left.ensures.same, c.right-right.ensures.same) at c.in_ok-give_turn.ensures.waits;
      within = omega (arith, more, few, count, goes.1);
    }
