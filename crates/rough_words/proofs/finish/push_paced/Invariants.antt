-- The lines so far and those of the blocks that are left are all (loop of `push_paced`,
-- src/finish.rt).
use Rattle.std.proofs.Common.{◌≡◌, ◌++◌, drop}
use Rattle.rough_words.specs.Finishes.{paced_lines}
use Rattle.rough_words.proofs.finish.push_paced.Given as goal

abbrev pub invariant-loop-block : goal.invariant-loop-block
invariant-loop-block l =
    l.lines.items ++ paced_lines l.rest (drop l.block-index l.blocks) ≡ l.fn.lines.items ++ paced_lines l.fn.tempos l.blocks
