-- The digits so far and those ahead make one number (loop of `number_ahead`, src/bytes.rt).
use Rattle.std.proofs.Common.{◌≡◌, ◌≤◌, drop}
use Rattle.open_text.specs.Bytes.{number_ahead}
use Rattle.open_text.proofs.bytes.number_ahead.Given as goal

abbrev pub invariant-loop-byte : goal.invariant-loop-byte
invariant-loop-byte l = record {
  read : number_ahead l.number (drop l.byte-index l.rest) ≡ number_ahead 0 l.rest;
  small : l.number ≤ 1000;
}
