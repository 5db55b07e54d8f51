-- The zones that were kept while the records were done again are those of the history's segments
-- (`boxes`, src/meetings.rt).
use Rattle.two_path.specs.Turns.{tapes_of}
use Rattle.two_path.specs.Start.{machine_at_start}
use Rattle.zone_check.proofs.Folded.{zones_are_those_of_the_segments}
use Rattle.zone_check.proofs.Going.{same_list}
use Rattle.zone_check.proofs.meetings.boxes.Goals as goal

pub kept_boxes-requires-clause-legal : goal.kept_boxes-requires-clause-legal
kept_boxes-requires-clause-legal c =
    rw (c.left.ensures.same, c.right.ensures.same, c.settings.ensures) c.requires.legal

pub returns : goal.returns
returns c =
    let pair = c.args.verified.now in
    same_list _ _ _ _
    (zones_are_those_of_the_segments (tapes_of pair.left pair.right) (machine_at_start pair.left pair.right pair.settings) c.args.zones.now c.args.entries.now.items)
    (rw (c.left.ensures.same, c.right.ensures.same, c.settings.ensures) at c.kept_boxes.ensures)
