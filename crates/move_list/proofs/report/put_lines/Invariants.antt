-- For the loop of `put_lines` (src/report.rt): the lines of the moves so far were put whole.
use Rattle.std.proofs.Common.{take, Ok}
use Rattle.std.specs.List.{flat_map}
use Rattle.nc_verify.specs.Printed.{IsPut}
use Rattle.move_list.specs.Report.{lined_text}
use Rattle.move_list.proofs.report.put_lines.Given as goal

abbrev pub invariant-loop-made : goal.invariant-loop-made
invariant-loop-made g l =
    IsPut (g.K.Sink.state l.initial.sink) (g.K.Sink.state l.sink) (flat_map lined_text (take l.made-index l.moves)) (Ok tt)
