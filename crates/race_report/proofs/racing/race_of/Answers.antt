-- The first race of a shared variable, or none, is found by the least lines, of which there are no
-- more than `first_race` takes; without two blocks that could meet there is none (src/racing.rt).
use Rattle.race_report.specs.RaceLists.{shared_by}
use Rattle.race_report.proofs.FewParts.{few_lines, first_found}
use Rattle.race_report.proofs.NoMeeting.{no_meeting_of}
use Rattle.race_report.proofs.racing.race_of.Goals as goal

pub returns-then-not-may_race : goal.returns-then-not-may_race
returns-then-not-may_race c =
    no_meeting_of (shared_by c.args.verified.now.settings) c.args.verified.now.left c.args.verified.now.right _ _ c.args.variable _
    c.left-left.ensures.same c.right-right.ensures.same c.may_race.ensures c.if-not-may_race.true

pub first_race-requires : goal.first_race-requires
first_race-requires c =
    few_lines c.args.verified.now.left c.args.verified.now.right _ _ c.args.variable c.in_ok-lines.lines c.left-left.ensures.same
    c.left-left.ensures.accepted c.in_ok-lines.ensures

pub returns : goal.returns
returns c =
    first_found (shared_by c.args.verified.now.settings) c.args.verified.now.left c.args.verified.now.right _ _ c.args.variable c.in_ok-lines.lines _
    c.left-left.ensures.same c.right-right.ensures.same c.requires c.left-left.ensures.accepted c.in_ok-lines.ensures c.first_race.ensures
