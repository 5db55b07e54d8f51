-- For the proof of `Table::wait_ahead` (src/table.rt): the wait to which the labels say that the path
-- comes is that of its next turn.
use Rattle.std.proofs.Common.{◌≡◌, ◌∙◌, ℕ, ap, subst, Option}
use Rattle.tape_flow.specs.declared.flow.Flow.{Flow}
use Rattle.tape_flow.specs.Places.{label_at}
use Rattle.nc_number.specs.Path.{other_of}
use Rattle.nc_number.specs.Both.{of_path}
use Rattle.two_path.specs.Turns.{turn_of}
use Rattle.run_table.specs.Kept.{TableView, tapes_in}
use Rattle.run_table.specs.Draining.{comes_by, wait_of}
use Rattle.run_table.proofs.WaitsAhead.{wait_ahead}
use Rattle.run_table.proofs.table.Table.wait_ahead.Goals as goal

pub returns : goal.returns
returns g c =
    let i = c.self.inside in
    let m = i.machine.machine in
    let path = c.args.path in
    let ahead = wait_ahead i.verified c.control_goes_as_the_flow_orders.ensures.control c.waits_and_ends_stop_a_path.ensures.waits path m in
    let comes = c.wait_ahead.ensures ∙ ap (λ (flow : Flow). comes_by m.alarm (of_path m.paths path).finished (of_path m.paths path).waiting
    (label_at flow.order (of_path m.paths path).path.place) (of_path m.paths (other_of path)).waiting) c.flow_of.ensures ∙ ahead in
    subst (λ (t : TableView g.row.D.Denot). c.wait_ahead.result ≡ wait_of (turn_of (tapes_in t.verified) path t.machine).turn) c.self.view_is comes
