-- What was kept while the records were done again is what is hit in the history's segments
-- (`findings`, src/judging.rt).
use Rattle.two_path.specs.Turns.{tapes_of}
use Rattle.two_path.specs.Start.{machine_at_start}
use Rattle.zone_check.proofs.Lapped.{findings_are_those_of_the_laps, same_findings}
use Rattle.zone_check.proofs.judging.findings.Goals as goal

pub kept_findings-requires-clause-legal : goal.kept_findings-requires-clause-legal
kept_findings-requires-clause-legal c =
    rw (c.left.ensures.same, c.right.ensures.same, c.settings.ensures) c.requires.legal

pub returns : goal.returns
returns c =
    let pair = c.args.verified.now in
    same_findings _ _ _ _
    (findings_are_those_of_the_laps (tapes_of pair.left pair.right) (machine_at_start pair.left pair.right pair.settings) c.args.cell.now c.args.entries.now.items)
    (rw (c.left.ensures.same, c.right.ensures.same, c.settings.ensures) at c.kept_findings.ensures)
