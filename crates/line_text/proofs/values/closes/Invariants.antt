-- The rest of a word's value closes the brackets that are open so far exactly if the text closes
-- its one (loop of `closes`, src/values.rt).
use Rattle.std.proofs.Common.{◌≡◌, ◌+◌, ◌≤◌, drop}
use Rattle.line_text.specs.Values.{closes}
use Rattle.line_text.proofs.values.closes.Given as goal

abbrev pub invariant-loop-byte : goal.invariant-loop-byte
invariant-loop-byte l = record {
  rest : closes (drop l.byte-index l.text) l.depth ≡ closes l.text 1;
  counted : l.at ≡ l.byte-index;
  shallow : l.depth ≤ l.at + 1;
}
