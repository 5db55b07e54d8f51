-- For the proof of `write_report` (src/report.rt): the report of a history of the pair is put, or a
-- prefix of it.
use Rattle.move_list.proofs.report.write_report.Goals as goal

pub put_report-requires-clause-legal : goal.put_report-requires-clause-legal
put_report-requires-clause-legal g c =
    rw (c.left.ensures.same, c.right.ensures.same, c.settings.ensures) c.requires.legal

pub returns : goal.returns
returns g c = rw (c.left.ensures.same, c.right.ensures.same, c.settings.ensures) at c.put_report.ensures
