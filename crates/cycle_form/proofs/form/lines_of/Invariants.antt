-- The lines so far are those of the blocks so far (loop of `lines_of`, src/form.rt).
use Rattle.std.proofs.Common.{◌≡◌, map, take}
use Rattle.cycle_form.proofs.form.lines_of.Given as goal

abbrev pub invariant-loop-block : goal.invariant-loop-block
invariant-loop-block l = l.lines.items ≡ map (λ block. block.line) (take l.block-index l.blocks)
