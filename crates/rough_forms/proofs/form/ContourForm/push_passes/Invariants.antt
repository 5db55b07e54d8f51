-- The blocks so far are those of the passes so far (loop of `push_passes`, src/form.rt).
use Rattle.std.proofs.Common.{◌≡◌, ◌++◌, take}
use Rattle.std.specs.List.{flat_map}
use Rattle.rough_forms.specs.Roughing.{pass_blocks}
use Rattle.rough_forms.specs.Form.{rough_of}
use Rattle.rough_forms.proofs.form.ContourForm.push_passes.Given as goal

abbrev pub invariant-loop-pass : goal.invariant-loop-pass
invariant-loop-pass l = l.blocks.items ≡ l.fn.blocks.items ++ flat_map (pass_blocks (rough_of l.self)) (take l.pass-index l.passes)
