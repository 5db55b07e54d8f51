-- What the two functions that call each other, `learn_call` and `piece_of`, have less of at each
-- call, and what the loop over the blocks keeps (src/listing.rt).
use Rattle.std.proofs.Common.{◌+◌, ◌*◌, drop}
use Rattle.label_list.specs.Pieces.{AreKnown, IsSoFar}
use Rattle.label_list.proofs.listing.+calls.Given as goal

-- The measure of `learn_call`: twice the calls that may still follow, and one. `piece_of`, which it
-- calls, has one less.
abbrev pub decreases-learn_call : goal.decreases-learn_call
decreases-learn_call l = 2 * l.left + 1

-- The measure of `piece_of`: twice the calls that may follow in the program. It calls `learn_call`
-- with one call less.
abbrev pub decreases-piece_of : goal.decreases-piece_of
decreases-piece_of l = 2 * l.left

-- What is kept of programs is right, and the labels so far are those of the blocks before this one.
abbrev pub invariant-piece_of-loop-block : goal.invariant-piece_of-loop-block
invariant-piece_of-loop-block l = record {
  known : AreKnown l.order l.known;
  so_far : IsSoFar l.order l.number l.labels.items (drop l.block-index l.block-items);
}
