-- The lines so far are those of the blocks so far (loop of `push_lines`, src/lines.rt).
use Rattle.std.proofs.Common.{◌≡◌, ◌++◌, take}
use Rattle.cycle_words.specs.Lines.{lines_of}
use Rattle.cycle_words.proofs.lines.push_lines.Given as goal

abbrev pub invariant-loop-block : goal.invariant-loop-block
invariant-loop-block l = l.lines.items ≡ l.fn.lines.items ++ lines_of l.feed (take l.block-index l.blocks)
