-- What the two functions that call each other, `learn_call` and `piece_of`, have less of at each
-- call, and what the loop over the blocks keeps (src/listing.rt).
use Rattle.std.proofs.Common.{◌+◌, ◌*◌, drop}
use Rattle.part_lines.specs.Pieces.{quiet_known, AreKnown, IsSoFar}
use Rattle.part_lines.proofs.listing.+calls.Given as goal

-- The measure of `learn_call`: twice the calls that may still follow, and one. `piece_of`, which it
-- calls, has one less.
abbrev pub decreases-learn_call : goal.decreases-learn_call
decreases-learn_call g l = 2 * l.left + 1

-- The measure of `piece_of`: twice `left`; fewer than `left` calls may follow in the program, one in
-- another. It calls `learn_call` with one call less.
abbrev pub decreases-piece_of : goal.decreases-piece_of
decreases-piece_of g l = 2 * l.left

-- What is kept of programs is right, and the lines so far are those of the blocks before the place.
abbrev pub invariant-piece_of-loop-place : goal.invariant-piece_of-loop-place
invariant-piece_of-loop-place g l = record {
  known : AreKnown l.order (g.L.BlockLines.line l.lines) (quiet_known l.quiet) l.known;
  so_far : IsSoFar l.order (g.L.BlockLines.line l.lines) (quiet_known l.quiet) l.number l.own l.place (drop l.place l.blocks);
}
