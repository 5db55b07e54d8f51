-- The blocks so far are those of the program, without what they say (loop of src/ordering.rt).
use Rattle.std.proofs.Common.{◌≡◌, map, take}
use Rattle.block_forms.specs.Blocks.{block_form}
use Rattle.tape_flow.specs.Controls.{control_block}
use Rattle.tape_flow.proofs.ordering.controls_of.Given as goal

abbrev pub invariant-loop-block : goal.invariant-loop-block
invariant-loop-block l = l.controls.items ≡ map (λ block. control_block (block_form block)) (take l.block-index l.blocks)
