-- For `last_place`: the last block of the number is that among the blocks that the loop has not passed,
-- or the one that it found (src/cycles.rt).
use Rattle.std.proofs.Common.{◌≡◌, drop, None}
use Rattle.open_order.specs.Contours.{last_numbered}
use Rattle.open_order.proofs.cycles.last_place.Given as goal

abbrev pub invariant-loop-block : goal.invariant-loop-block
invariant-loop-block l =
    (l.place ≡ l.block-index)
    × (last_numbered None l.listed 0 l.number ≡ last_numbered l.found (drop l.block-index l.listed) l.place l.number)
