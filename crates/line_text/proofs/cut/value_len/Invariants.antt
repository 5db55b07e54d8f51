-- The signs of a line so far and those of the rest before a letter outside brackets are counted
-- (loop of `value_len`, src/cut.rt).
use Rattle.std.proofs.Common.{◌≡◌, ◌+◌, ◌≤◌, drop}
use Rattle.line_text.specs.Pieces.{value_len}
use Rattle.line_text.proofs.cut.value_len.Given as goal

abbrev pub invariant-loop-sign : goal.invariant-loop-sign
invariant-loop-sign l = record {
  rest : l.at + value_len (drop l.sign-index l.signs) l.depth ≡ value_len l.signs 0;
  counted : l.at ≡ l.sign-index;
  shallow : l.depth ≤ l.at;
}
