-- The lines so far are those before and as many runs as were joined. What the loop of `join_times`
-- keeps (src/piece.rt).
use Rattle.part_lines.specs.Pieces.{AreJoined}
use Rattle.part_lines.proofs.piece.PieceLines.join_times.Given as goal

abbrev pub invariant-loop-time : goal.invariant-loop-time
invariant-loop-time l = AreJoined l.fn.self l.self l._time l.more
