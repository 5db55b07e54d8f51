-- The edits so far are those from before, and one that removes each of the lines so far (loop of
-- `push_removed`, src/part_text.rt).
use Rattle.std.proofs.Common.{◌≡◌, ◌++◌, map, take}
use Rattle.tape_expand.specs.Replaced.{line_removal}
use Rattle.tape_expand.proofs.part_text.push_removed.Given as goal

abbrev pub invariant-loop-line : goal.invariant-loop-line
invariant-loop-line l = l.edits.items ≡ l.fn.edits.items ++ map line_removal (take l.line-index l.lines)
