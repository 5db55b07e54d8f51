-- The lines so far are those of the blocks so far (loop of `coded_lines`, src/coded.rt).
use Rattle.std.proofs.Common.{◌≡◌, take}
use Rattle.thread_form.specs.Coded.{coded_lines}
use Rattle.thread_form.proofs.coded.coded_lines.Given as goal

abbrev pub invariant-loop-block : goal.invariant-loop-block
invariant-loop-block l = l.lines.items ≡ coded_lines l.system (take l.block-index l.blocks)
