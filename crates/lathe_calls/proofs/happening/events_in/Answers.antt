-- For the proof of `events_in` (src/happening.rt): the events are where both turrets begin and what
-- each turn came to, and the status says how far the run has come.
use Rattle.std.proofs.Common.{◌≡◌, ◌++◌, List, map, sym, subst, ◌∙◌, ap}
use Rattle.nc_number.specs.declared.path.Path.TheVariants.{One, Two}
use Rattle.path_state.specs.Opening.{opening_path}
use Rattle.two_path.specs.Machine.{MachineView}
use Rattle.two_path.specs.Turns.{tapes_of}
use Rattle.two_path.specs.Histories.{run, turns_of}
use Rattle.two_path.specs.Joined.{AreAtTheirWaits}
use Rattle.two_path.specs.Start.{machine_at_start}
use Rattle.lathe_calls.specs.Statuses.{reason_status}
use Rattle.lathe_calls.specs.declared.event.Event.{Event}
use Rattle.lathe_calls.specs.Order.{end_after, events_from, turns_given, path_at, first_events}
use Rattle.lathe_calls.proofs.happening.events_in.Goals as goal

pub give_turns-requires-clause-waits : goal.give_turns-requires-clause-waits
give_turns-requires-clause-waits c =
    let left = c.args.left.now in
    let right = c.args.right.now in
    let settings = c.args.settings.now in
    subst (λ (x : MachineView). AreAtTheirWaits left.order right.order x) (sym c.in_ok-machine.ensures)
    (c.a_machine_begins_without_waits.ensures left.order right.order (opening_path left settings One) (opening_path right settings Two))

pub returns : goal.returns
returns c =
    let left = c.args.left.now in
    let right = c.args.right.now in
    let settings = c.args.settings.now in
    let tapes = tapes_of left right in
    let start = machine_at_start left right settings in
    let order = map path_at c.args.order.now in
    let most = settings.records in
    let at = c.in_ok-machine.ensures in
    let law = c.histories_are_runs.ensures tapes (opening_path left settings One) (opening_path right settings Two) in
    record {
      legal = (law.run (turns_of (turns_given tapes most start order))).legal;
      events = subst (λ (x : MachineView). c.give_turns.new.list.items ≡ c.in_ok-list.list.items ++ events_from tapes x (turns_given tapes most x order))
          at c.in_ok-give_turns.ensures.list
          ∙ ap (λ (xs : List Event). xs ++ events_from tapes start (turns_given tapes most start order)) (c.in_ok-list.ensures ∙ ap first_events at);
      ends = c.reason_status-status.ensures ∙ ap reason_status (c.end_after.ensures ∙ ap (end_after most)
          (c.in_ok-give_turns.ensures.machine ∙ ap (λ (x : MachineView). run tapes x (turns_of (turns_given tapes most x order))) at));
    }
