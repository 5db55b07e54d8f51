-- The sink has a line for each segment; if it failed, a prefix of that (`put_findings`, src/telling.rt).
use Rattle.std.proofs.Common.{◌+◌, refl, ap}
use Rattle.std.proofs.lemmas.Result.{err_from_is_err_and}
use Rattle.zone_check.proofs.FindingByFinding.{put_nothing, line_put, line_breaks, all_put}
use Rattle.zone_check.proofs.telling.put_findings.Goals as goal

pub loop-finding-init : goal.loop-finding-init
loop-finding-init g c = record { counted = refl; put = put_nothing _ }

pub loop-finding-preserved : goal.loop-finding-preserved
loop-finding-preserved g c = record {
  counted = ap (λ n. n + 1) c.loop-finding.invariant.counted;
  put =
      line_put _ _ _ c.args.findings.now c.loop-finding.finding-index c.loop-finding.number _ c.loop-finding.invariant.counted c.loop-finding-test.true
      c.loop-finding.invariant.put c.in_ok-put_finding.ensures;
}

pub returns-in_err-put_finding : goal.returns-in_err-put_finding
returns-in_err-put_finding g c =
    let p = err_from_is_err_and c.from_residual.result c.from_residual.ensures.1 in
    rw (p.1, p.2)
    (line_breaks _ _ _ c.args.findings.now c.loop-finding.finding-index c.loop-finding.number _ _ c.loop-finding.invariant.counted c.loop-finding-test.true
    c.loop-finding.invariant.put c.in_err-put_finding.ensures)

pub returns : goal.returns
returns g c = all_put _ _ c.args.findings.now c.loop-finding.finding-index c.loop-finding-test.false c.loop-finding.invariant.put
