-- The lines of the passes so far were put (loop of `push_passes`, src/pattern.rt).
use Rattle.std.proofs.Common.{◌≡◌, ◌++◌}
use Rattle.rough_words.specs.Patterns.{passes_lines}
use Rattle.rough_words.proofs.pattern.push_passes.Given as goal

abbrev pub invariant-loop-n : goal.invariant-loop-n
invariant-loop-n l =
    l.lines.items ≡ l.fn.lines.items ++ passes_lines l.offsets l.frame l.start l.contour l.feed l.n
