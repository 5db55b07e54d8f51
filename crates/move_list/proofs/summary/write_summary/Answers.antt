-- For the proof of `write_summary` (src/summary.rt): the summary of a history of the made pair is
-- put, or a prefix of it.
use Rattle.move_list.proofs.summary.write_summary.Goals as goal

pub put_summary-requires-clause-legal : goal.put_summary-requires-clause-legal
put_summary-requires-clause-legal g c =
    rw (c.left.ensures.same, c.right.ensures.same, c.settings.ensures) c.requires.legal

pub returns : goal.returns
returns g c = rw (c.left.ensures.same, c.right.ensures.same, c.settings.ensures) at c.put_summary.ensures
