-- The bytes so far decide nothing, and the rest does (loop of `switch_ahead`, src/bytes.rt).
use Rattle.std.proofs.Common.{◌≡◌, drop}
use Rattle.open_text.specs.Bytes.{switch_ahead}
use Rattle.open_text.proofs.bytes.switch_ahead.Given as goal

abbrev pub invariant-loop-byte : goal.invariant-loop-byte
invariant-loop-byte l = switch_ahead (drop l.byte-index l.rest) ≡ switch_ahead l.rest
