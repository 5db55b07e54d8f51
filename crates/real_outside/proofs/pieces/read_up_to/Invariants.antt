-- For the loop of `read_up_to` (src/pieces.rt): no more bytes were read than there is room for.
use Rattle.std.proofs.Common.{◌≡◌, ◌≤◌, length}
use Rattle.real_outside.proofs.pieces.read_up_to.Given as goal

abbrev pub invariant-loop : goal.invariant-loop
invariant-loop g l = (length l.into ≡ length l.fn.into) × (l.count ≤ length l.into)
