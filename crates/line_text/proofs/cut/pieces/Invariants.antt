-- The words so far and those of the rest are all words of a line of a tape; the rest gets shorter
-- (loop of `pieces`, src/cut.rt).
use Rattle.std.proofs.Common.{◌≡◌, ◌^◌, ◌<◌, ◌++◌, length}
use Rattle.line_text.specs.Pieces.{pieces_of, value_len}
use Rattle.line_text.specs.Places.{ArePlaced}
use Rattle.line_text.specs.Said.{AreShort}
use Rattle.line_text.proofs.cut.pieces.Given as goal

abbrev pub invariant-loop-letter : goal.invariant-loop-letter
invariant-loop-letter l = record {
  cut : l.pieces.items ++ pieces_of l.rest ≡ pieces_of l.signs;
  lead : value_len l.rest 0 ≡ 0;
  placed : ArePlaced l.rest;
  short : length l.rest < 2 ^ 32;
  texts : AreShort l.pieces.items;
}

abbrev pub decreases-loop-letter : goal.decreases-loop-letter
decreases-loop-letter l = length l.rest
