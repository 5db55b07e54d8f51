-- The blocks are those of the passes and of the contour (`rough_blocks`, src/form.rt).
use Rattle.std.proofs.Common.{◌∙◌, refl}
use Rattle.rough_forms.specs.Form.{rough_of}
use Rattle.rough_forms.proofs.Started.{rough_told}
use Rattle.rough_forms.proofs.form.ContourForm.rough_blocks.Goals as goal

pub returns : goal.returns
returns c =
    rough_told (rough_of c.args.self.now) 1001 c.new-blocks.result.items c.push_passes.new.blocks.items c.push_contour.new.blocks.items c.deref-4.result.now c.moved_point-first.result c.deref-5.result.now
    c.new-blocks.ensures.items
    (c.deref-4.ensures.value ∙ c.in_ok-passes.ensures.passes)
    c.moved_point-first.ensures.point
    (c.deref-5.ensures.value ∙ c.in_ok-pieces.ensures.pieces ∙ rw (c.deref.ensures.value) refl)
    c.in_ok-push_passes.ensures.ok
    c.in_ok-push_contour.ensures.ok
