-- The list has those of the ended images so far that a crash since then may have left (loop of
-- `add_left`, src/ended.rt).
use Rattle.std.proofs.Common.{◌≡◌, ◌++◌, take}
use Rattle.disk_images.specs.Among.{left_since}
use Rattle.disk_images.proofs.ended.add_left.Given as goal

abbrev pub invariant-loop-ended : goal.invariant-loop-ended
invariant-loop-ended l = l.into.items ≡ l.fn.into.items ++ left_since l.since (take l.ended-index l.past)
