-- For the proof of `put_again` (src/tracing.rt): with room for a record, it is done again and its
-- lines are put, or a prefix of them; without memory nothing is put.
use Rattle.std.proofs.Common.{subst}
use Rattle.nc_verify.specs.Printed.{IsPut}
use Rattle.two_path.specs.Machine.{MachineView}
use Rattle.two_path.specs.Turns.{tapes_of}
use Rattle.nc_verify.proofs.InPieces.{none_put}
use Rattle.trace_list.specs.Trace.{lines_of}
use Rattle.trace_list.specs.TraceText.{lines_text}
use Rattle.trace_list.proofs.tracing.put_again.Goals as goal

pub returns-in-Ok-clause-put : goal.returns-in-Ok-clause-put
returns-in-Ok-clause-put g c =
    let sink = g.K.Sink.state in
    subst (λ (x : MachineView). IsPut (sink c.args.sink.now) (sink c.put_done.new.sink)
    (lines_text (lines_of (tapes_of c.args.left.now c.args.right.now) c.args.met.now x c.args.entry.now)) c.put_done.result)
    c.reserve.ensures.machine c.put_done.ensures.put

pub returns-in-Err-clause-put : goal.returns-in-Err-clause-put
returns-in-Err-clause-put g c = none_put _ _
