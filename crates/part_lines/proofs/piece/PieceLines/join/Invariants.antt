-- The lines so far and those that are left are those before and all that are joined. What the loop
-- of `join` keeps (src/piece.rt).
use Rattle.std.proofs.Common.{drop}
use Rattle.part_lines.proofs.Shown.{IsJoinedSoFar}
use Rattle.part_lines.proofs.piece.PieceLines.join.Given as goal

abbrev pub invariant-loop-line : goal.invariant-loop-line
invariant-loop-line l = IsJoinedSoFar l.fn.self l.self (drop l.line-index l.more.done.items) l.more
