-- The four blocks of a pass: in, along, off, and back (`push_pass`, src/form.rt).
use Rattle.std.proofs.Common.{◌∙◌, refl}
use Rattle.rough_cycle.proofs.Pushed.{four_pushed}
use Rattle.rough_cycle.proofs.form.RoughForm.push_pass.Goals as goal

pub returns : goal.returns
returns c = record {
  ok = four_pushed c.args.blocks.now.items c.push.new.blocks.items c.push-2.new.blocks.items c.push-3.new.blocks.items c.push-4.new.blocks.items _ _ _ _
      (c.in_ok-push.ensures.ok ∙ rw c.across_to.ensures refl)
      (c.in_ok-push-2.ensures.ok ∙ rw c.along_to.ensures refl)
      (c.in_ok-push-3.ensures.ok ∙ rw (c.straight_to.ensures, c.off-off.ensures) refl)
      (c.in_ok-push-4.ensures.ok ∙ rw c.along_to-2.ensures refl);
}
