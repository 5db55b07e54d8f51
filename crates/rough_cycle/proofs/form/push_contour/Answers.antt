-- The blocks to the contour, along it, off, and back (`push_contour`, src/form.rt).
use Rattle.std.proofs.Common.{◌∙◌, refl}
use Rattle.rough_cycle.proofs.Pushed.{lines_pushed}
use Rattle.rough_cycle.proofs.form.push_contour.Goals as goal

pub returns : goal.returns
returns c = record {
  ok = lines_pushed c.args.blocks.now.items c.push.new.blocks.items c.push-2.new.blocks.items c.push_lines.new.blocks.items c.push-3.new.blocks.items c.push-4.new.blocks.items _ _ _ _ _
      (c.in_ok-push.ensures.ok ∙ rw c.along_to.ensures refl)
      (c.in_ok-push-2.ensures.ok ∙ rw c.across_to.ensures refl)
      c.in_ok-push_lines.ensures.ok
      (c.in_ok-push-3.ensures.ok ∙ rw c.across_to-2.ensures refl)
      (c.in_ok-push-4.ensures.ok ∙ rw c.along_to-2.ensures refl);
}
