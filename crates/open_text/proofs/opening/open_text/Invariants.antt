-- The bytes so far, and those that stand for the rest, are those that stand for the text (loop of
-- `open_text`, src/opening.rt).
use Rattle.std.proofs.Common.{◌≡◌, ◌++◌, length}
use Rattle.open_text.specs.Opened.{opened_from, opened_text}
use Rattle.open_text.proofs.opening.open_text.Given as goal

abbrev pub invariant-loop-first : goal.invariant-loop-first
invariant-loop-first l = l.bytes.items ++ opened_from l.manner l.spot l.left ≡ opened_text l.skips l.text

abbrev pub decreases-loop-first : goal.decreases-loop-first
decreases-loop-first l = length l.left
