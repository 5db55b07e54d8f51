-- The span so far is in range (loop of `span_of`, src/span.rt).
use Rattle.zone_moves.specs.Parts.{IsSpan}
use Rattle.zone_moves.proofs.span.span_of.Given as goal

abbrev pub invariant-loop-stretch : goal.invariant-loop-stretch
invariant-loop-stretch l = IsSpan l.span
