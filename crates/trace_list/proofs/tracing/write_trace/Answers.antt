-- For the proof of `write_trace`: the whole text of the trace is put, or a prefix of it if the sink
-- fails or memory runs out (src/tracing.rt).
use Rattle.trace_list.proofs.tracing.write_trace.Goals as goal

pub put_trace-requires-clause-legal : goal.put_trace-requires-clause-legal
put_trace-requires-clause-legal g c =
    rw (c.left.ensures.same, c.right.ensures.same, c.settings.ensures) c.requires.legal

pub returns : goal.returns
returns g c = rw (c.left.ensures.same, c.right.ensures.same, c.settings.ensures) at c.put_trace.ensures
