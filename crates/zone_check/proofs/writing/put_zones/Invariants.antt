-- The lines of the zones so far were put to the sink whole (loop of `put_zones`, src/writing.rt).
use Rattle.std.proofs.Common.{◌≡◌, take, Ok}
use Rattle.nc_verify.specs.Printed.{IsPut}
use Rattle.zone_cell.specs.Lines.{zone_texts}
use Rattle.zone_check.proofs.writing.put_zones.Given as goal

abbrev pub invariant-loop-zone : goal.invariant-loop-zone
invariant-loop-zone g l = record {
  counted : l.number ≡ l.zone-index;
  put : IsPut (g.K.Sink.state l.initial.sink) (g.K.Sink.state l.sink) (zone_texts 0 (take l.zone-index l.zones)) (Ok tt);
}
