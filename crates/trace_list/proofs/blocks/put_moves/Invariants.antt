-- For the loop of `put_moves` (src/blocks.rt): the lines of the moves so far were put, and those of
-- the others are the rest.
use Rattle.std.proofs.Common.{drop}
use Rattle.trace_list.specs.Trace.{moved_lines}
use Rattle.trace_list.specs.TraceText.{lines_text}
use Rattle.trace_list.proofs.InParts.{HasPut}
use Rattle.trace_list.proofs.blocks.put_moves.Given as goal

abbrev pub invariant-loop-what : goal.invariant-loop-what
invariant-loop-what g l =
    HasPut (g.K.Sink.state l.initial.sink) (g.K.Sink.state l.sink) (lines_text (moved_lines l.path l.line (drop l.what-index l.moves)))
    (lines_text (moved_lines l.path l.line l.moves))
