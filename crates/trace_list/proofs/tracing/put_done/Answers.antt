-- For the proof of `put_done` (src/tracing.rt): the lines of a record are put, or a prefix of them,
-- and the machine and the number of meetings are those after it.
use Rattle.std.proofs.Common.{◌≡◌, ap, subst, ◌∙◌}
use Rattle.nc_number.specs.declared.path.Path.{Path}
use Rattle.nc_verify.specs.Printed.{IsPut}
use Rattle.run_records.specs.Entries.{Entry}
use Rattle.two_path.specs.Machine.{MachineView}
use Rattle.two_path.specs.Turns.{tapes_of}
use Rattle.two_path.specs.Histories.{behind_entry}
use Rattle.two_path.specs.Again.{turn_of_entry}
use Rattle.trace_list.specs.Trace.{look_of, path_in, standing_of, turn_lines}
use Rattle.trace_list.specs.TraceText.{lines_text}
use Rattle.trace_list.proofs.tracing.put_done.Goals as goal

pub returns-clause-put : goal.returns-clause-put
returns-clause-put g c =
    let tapes = tapes_of c.args.left.now c.args.right.now in
    let e = c.args.entry.now in
    let m = c.args.machine.now.machine in
    let done = c.done_again-turn.ensures.done in
    let same : c.entry.inside.path ≡ e.path = ap (λ (x : Entry). x.path) c.entry.view_is in
    let after = c.look_of-after.ensures ∙ ap look_of (c.path.ensures ∙ ap (λ (x : MachineView). path_in c.entry.inside.path x) done.machine) in
    subst (λ (p : Path). IsPut (g.K.Sink.state c.args.sink.now) (g.K.Sink.state c.put_turn.new.sink)
    (lines_text (turn_lines p c.args.met.now (standing_of tapes p m) (look_of (path_in p (behind_entry tapes e m))) (turn_of_entry tapes e m))) c.put_turn.result) same
    (rw (c.standing_of-before.ensures, after, done.answer) at c.put_turn.ensures)
