-- One line more is its step more, and the place behind it (`push_written`, src/walk.rt).
use Rattle.std.proofs.Common.{◌∙◌}
use Rattle.plain_blocks.proofs.Replacing.{behind_one, with_one}
use Rattle.plain_blocks.proofs.walk.push_written.Goals as goal

pub loop-line-preserved : goal.loop-line-preserved
loop-line-preserved c = record {
  steps = with_one c.args.stands.now c.args.start c.loop-line.place c.args.steps.now.items c.loop-line.steps.items _ c.loop-line.yielded c.in-Some.line _ c.in_ok-push_replaced.ensures c.stand_at.ensures c.loop-line.invariant.steps c.loop-line.invariant.place;
  place = c.saturating_add-place.ensures ∙ behind_one c.args.start c.loop-line.place c.loop-line.yielded c.in-Some.line c.loop-line.invariant.place;
}
