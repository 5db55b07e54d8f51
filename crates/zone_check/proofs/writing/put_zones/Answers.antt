-- The sink has a line for each zone; if it failed, a prefix of that (`put_zones`, src/writing.rt).
use Rattle.std.proofs.Common.{◌+◌, refl, ap}
use Rattle.std.proofs.lemmas.Result.{err_from_is_err_and}
use Rattle.zone_check.proofs.ZoneByZone.{put_nothing, line_put, line_breaks, all_put}
use Rattle.zone_check.proofs.writing.put_zones.Goals as goal

pub loop-zone-init : goal.loop-zone-init
loop-zone-init g c = record { counted = refl; put = put_nothing _ }

pub loop-zone-preserved : goal.loop-zone-preserved
loop-zone-preserved g c = record {
  counted = ap (λ n. n + 1) c.loop-zone.invariant.counted;
  put =
      line_put _ _ _ c.args.zones.now c.loop-zone.zone-index c.loop-zone.number _ c.loop-zone.invariant.counted c.loop-zone-test.true
      c.loop-zone.invariant.put c.in_ok-put_zone.ensures;
}

pub returns-in_err-put_zone : goal.returns-in_err-put_zone
returns-in_err-put_zone g c =
    let p = err_from_is_err_and c.from_residual.result c.from_residual.ensures.1 in
    rw (p.1, p.2)
    (line_breaks _ _ _ c.args.zones.now c.loop-zone.zone-index c.loop-zone.number _ _ c.loop-zone.invariant.counted c.loop-zone-test.true
    c.loop-zone.invariant.put c.in_err-put_zone.ensures)

pub returns : goal.returns
returns g c = all_put _ _ c.args.zones.now c.loop-zone.zone-index c.loop-zone-test.false c.loop-zone.invariant.put
