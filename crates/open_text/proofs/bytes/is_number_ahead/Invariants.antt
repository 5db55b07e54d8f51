-- The bytes so far decide nothing, and the rest does (loop of `is_number_ahead`, src/bytes.rt).
use Rattle.std.proofs.Common.{◌≡◌, drop}
use Rattle.open_text.specs.Bytes.{is_number_ahead}
use Rattle.open_text.proofs.bytes.is_number_ahead.Given as goal

abbrev pub invariant-loop-byte : goal.invariant-loop-byte
invariant-loop-byte l = is_number_ahead (drop l.byte-index l.rest) ≡ is_number_ahead l.rest
