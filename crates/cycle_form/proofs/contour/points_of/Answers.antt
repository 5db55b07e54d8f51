-- One point more is read; a block that leads nowhere, the last block, and the end give the answer
-- (`points_of`, src/contour.rt).
use Rattle.std.proofs.Common.{sym, ◌∙◌, subst, All, IfSome}
use Rattle.std.proofs.lemmas.List.Elements.{All-push}
use Rattle.rough_cycle.specs.Form.{IsWritten}
use Rattle.std.proofs.lemmas.List.{drop_all}
use Rattle.cycle_form.proofs.PointsRead.{at_end, at_stop, at_last, at_next}
use Rattle.cycle_form.proofs.contour.points_of.Goals as goal

pub returns-in_default-clause-points : goal.returns-in_default-clause-points
returns-in_default-clause-points c = at_stop c.loop-block.points.items c.loop-block.at c.args.last _ c.args.blocks.now c.loop-block.block-index c.block-item.result c.block-item.is c.loop-block-test.true c.loop-block.invariant.rest (sym c.contour_point.ensures.point ∙ c.in_default.is)

pub returns-then-is_numbered-clause-points : goal.returns-then-is_numbered-clause-points
returns-then-is_numbered-clause-points c = at_last c.loop-block.points.items c.push.new.self.items c.loop-block.at c.args.last _ c.args.blocks.now c.loop-block.block-index c.block-item.result c.in-Some.to c.block-item.is c.loop-block-test.true c.loop-block.invariant.rest (sym c.contour_point.ensures.point ∙ c.in-Some.is) (sym c.is_numbered.ensures ∙ c.if-is_numbered.true) c.in_ok-push.ensures.items

pub loop-block-preserved : goal.loop-block-preserved
loop-block-preserved c =
    let near : IsWritten c.in-Some.to = subst (λ found. IfSome found IsWritten) c.in-Some.is c.contour_point.ensures.near in
    record {
      rest = at_next c.loop-block.points.items c.push.new.self.items c.loop-block.at c.args.last _ c.args.blocks.now c.loop-block.block-index c.block-item.result c.in-Some.to c.block-item.is c.loop-block-test.true c.loop-block.invariant.rest (sym c.contour_point.ensures.point ∙ c.in-Some.is) (sym c.is_numbered.ensures ∙ c.if-is_numbered.false) c.in_ok-push.ensures.items;
      near = subst (λ l. All IsWritten l) (sym c.in_ok-push.ensures.items) (All-push IsWritten c.loop-block.points.items c.in-Some.to c.loop-block.invariant.near near);
      here = near;
    }

pub returns-clause-points : goal.returns-clause-points
returns-clause-points c = at_end c.loop-block.points.items c.loop-block.at c.args.last _ _ (drop_all c.loop-block.block-index c.args.blocks.now c.loop-block-test.false) c.loop-block.invariant.rest

pub returns-then-is_numbered-clause-near : goal.returns-then-is_numbered-clause-near
returns-then-is_numbered-clause-near c =
    let near : IsWritten c.in-Some.to = subst (λ found. IfSome found IsWritten) c.in-Some.is c.contour_point.ensures.near in
    subst (λ l. All IsWritten l) (sym c.in_ok-push.ensures.items) (All-push IsWritten c.loop-block.points.items c.in-Some.to c.loop-block.invariant.near near)
