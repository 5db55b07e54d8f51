-- The four blocks of a pass: in, along, off, and back (`push_pass`, src/form.rt).
use Rattle.std.proofs.Common.{◌∙◌, refl}
use Rattle.rough_forms.proofs.Pushed.{four_pushed}
use Rattle.rough_forms.proofs.form.ContourForm.push_pass.Goals as goal

pub returns : goal.returns
returns c = record {
  ok = four_pushed c.args.blocks.now.items c.push_across.new.blocks.items c.push_along.new.blocks.items c.push_both.new.blocks.items c.push_along-2.new.blocks.items _ _ _ _
      c.in_ok-push_across.ensures.ok
      c.in_ok-push_along.ensures.ok
      (c.in_ok-push_both.ensures.ok ∙ rw c.off-off.ensures.off refl)
      c.in_ok-push_along-2.ensures.ok;
}
