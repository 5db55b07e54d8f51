-- The bytes so far decide nothing, and the rest does (loop of `is_index_ahead`, src/bytes.rt).
use Rattle.std.proofs.Common.{◌≡◌, drop}
use Rattle.open_text.specs.Bytes.{is_index_ahead}
use Rattle.open_text.proofs.bytes.is_index_ahead.Given as goal

abbrev pub invariant-loop-byte : goal.invariant-loop-byte
invariant-loop-byte l = is_index_ahead (drop l.byte-index l.rest) ≡ is_index_ahead l.rest
