-- A piece without a wait is joined once for all repeats, which gives the same; any other is joined
-- as often as it is run. For the contract of `join_times` (src/piece.rt).
use Rattle.std.proofs.Common.{◌≡◌, length, ap, ◌∙◌, rules}
use Rattle.part_lines.specs.Pieces.{shown_lines}
use Rattle.part_lines.proofs.Shown.{empty_is, times_more, waitless_joined}
use Rattle.part_lines.proofs.piece.PieceLines.join_times.Goals as goal

pub returns-then-is_empty : goal.returns-then-is_empty
returns-then-is_empty c =
    let none : length c.args.more.now.done.items ≡ 0 = search rules in
    waitless_joined c.args.self.now c.see.new.self c.args.more.now c.args.times c.requires
    (empty_is c.args.more.now.done.items none) c.see.ensures

pub loop-time-preserved : goal.loop-time-preserved
loop-time-preserved c behind =
    c.in_ok-join.ensures behind
    ∙ (c.loop-time.invariant (shown_lines c.args.more.now behind)
    ∙ ap (shown_lines c.args.self.now) (times_more c.loop-time._time (shown_lines c.args.more.now) behind))
