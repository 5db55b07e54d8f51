-- The digits so far and those ahead are counted together, and there are no more than bytes (loop of
-- `digits_ahead`, src/bytes.rt).
use Rattle.std.proofs.Common.{◌≡◌, ◌≤◌, drop}
use Rattle.open_text.specs.Bytes.{digits_ahead}
use Rattle.open_text.proofs.bytes.digits_ahead.Given as goal

abbrev pub invariant-loop-byte : goal.invariant-loop-byte
invariant-loop-byte l = record {
  counted : digits_ahead l.count (drop l.byte-index l.rest) ≡ digits_ahead 0 l.rest;
  few : l.count ≤ l.byte-index;
}
