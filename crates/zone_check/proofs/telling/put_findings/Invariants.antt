-- The lines of the segments so far were put to the sink whole (loop of `put_findings`, src/telling.rt).
use Rattle.std.proofs.Common.{◌≡◌, take, Ok}
use Rattle.nc_verify.specs.Printed.{IsPut}
use Rattle.zone_cell.specs.HitLines.{finding_texts}
use Rattle.zone_check.proofs.telling.put_findings.Given as goal

abbrev pub invariant-loop-finding : goal.invariant-loop-finding
invariant-loop-finding g l = record {
  counted : l.number ≡ l.finding-index;
  put : IsPut (g.K.Sink.state l.initial.sink) (g.K.Sink.state l.sink) (finding_texts 0 (take l.finding-index l.findings)) (Ok tt);
}
